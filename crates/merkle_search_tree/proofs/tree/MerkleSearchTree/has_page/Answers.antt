use Rattle.std.proofs.Common.{◌≡◌, ◌≢◌, Bool, true, false, List, ℕ, Some, None, refl, ap, sym, subst, ◌∙◌}
use Rattle.std.specs.Prelude.{IsTrue}
use Rattle.std.specs.Cmp.Lexicographic.{bytes_decides}
use Rattle.std.specs.Int.NonZero.{non_zero_u8_get}
use Rattle.merkle_digest.specs.Level.{level_of}
use Rattle.merkle_tree_theory.specs.Lookup.{Fills, page_over}
use Rattle.merkle_tree_theory.specs.Page.{cache}
use Rattle.merkle_tree_theory.specs.Ranges.{IsPageIn}
use Rattle.merkle_tree_theory.specs.State.{State}
use Rattle.merkle_tree_theory.specs.Stream.{page_digest}
use Rattle.merkle_tree_theory.specs.Tree.{Tree}
use Rattle.merkle_tree_theory.proofs.Inside.{true_digest, filling_digest}
use Rattle.merkle_tree_theory.proofs.PageOverGap.{over_inside, filled_opens}
use Rattle.merkle_search_tree.specs.Items.{lent_gap}
use Rattle.merkle_search_tree.specs.WhereHashed.{is_page_with}
use Rattle.merkle_search_tree.proofs.tree.MerkleSearchTree.has_page.Goals as goal

none_some : {X : Type 0} (x : X) → None ≡ Some x → ⊥
none_some x e = cc

some_is : {X : Type 0} (x y : X) → Some x ≡ Some y → x ≡ y
some_is x y e = cc

same_truth : (a b : Bool) → (a ≡ true → b ≡ true) → (b ≡ true → a ≡ true) → a ≡ b
same_truth true b f g = sym (f refl)
same_truth false true f g = g refl
same_truth false false f g = refl

pub returns-in-None-clause-over : goal.returns-in-None-clause-over
returns-in-None-clause-over g c =
    let b = g.K.KeyBytes.bytes_of in
    subst (λ (v : State g.row.K.Denot g.row.H.Denot). v.root_hash ≢ None → false ≡ is_page_with v.format b c.args.digest.now (page_over g.K.Ord.cmp (lent_gap c.args.gap.now) v.root)) c.self.view_is
    (λ some. ap (is_page_with c.self.inside.page_format b c.args.digest.now) c.in-None.ensures)

pub returns-in-None-clause-all : goal.returns-in-None-clause-all
returns-in-None-clause-all g c =
    let s = c.self.inside in
    let cmp = g.K.Ord.cmp in
    let b = g.K.KeyBytes.bytes_of in
    let gap = lent_gap c.args.gap.now in
    subst (λ (v : State g.row.K.Denot g.row.H.Denot). v.root_hash ≢ None → (page : Tree g.row.K.Denot (List ℕ)) → Fills cmp gap page v.root
    → page_digest v.format b page ≡ c.args.digest.now → IsTrue false) c.self.view_is
    (λ some p f e. absurd (none_some p (c.in-None.ensures ∙ filled_opens cmp g.met.K.Ord.total gap p s.root c.self.invariant.ascending f)))

pub returns-in-Some-clause-only : goal.returns-in-Some-clause-only
returns-in-Some-clause-only g c = λ has.
    let s = c.self.inside in
    let b = g.K.KeyBytes.bytes_of in
    let p = c.in-Some.page.now in
    let (i, n) = over_inside g.K.Ord.cmp (lent_gap c.args.gap.now) s.root p (sym c.in-Some.ensures) in
    let q = subst (λ (v : State g.row.K.Denot g.row.H.Denot). IsPageIn p v.root × (page_digest v.format b p ≡ c.args.digest.now)) c.self.view_is
    (i, true_digest s.page_format b p s.root c.args.digest.now c.self.invariant.caches i (ap cache (sym c.page.view_is) ∙ c.has_digest.ensures.0 has)) in
    (p, q.0, q.1)

pub returns-in-Some-clause-all : goal.returns-in-Some-clause-all
returns-in-Some-clause-all g c =
    let s = c.self.inside in
    let h = c.self.invariant in
    let cmp = g.K.Ord.cmp in
    let b = g.K.KeyBytes.bytes_of in
    let gap = lent_gap c.args.gap.now in
    let lev = λ (k : g.row.K.Denot). level_of (g.H.Hasher.digest_of s.hasher k) (non_zero_u8_get s.level_base) in
    subst (λ (v : State g.row.K.Denot g.row.H.Denot). v.root_hash ≢ None → (page : Tree g.row.K.Denot (List ℕ)) → Fills cmp gap page v.root
    → page_digest v.format b page ≡ c.args.digest.now → IsTrue c.has_digest.result) c.self.view_is
    (λ some p f e.
    let that = some_is c.in-Some.page.now p (c.in-Some.ensures ∙ filled_opens cmp g.met.K.Ord.total gap p s.root h.ascending f) in
    let digest = filling_digest cmp g.met.K.Ord.total lev s.page_format b s.root_hash s.root some h.root_hash_holds h.caches h.canonical h.ascending p f.inside f.some in
    c.has_digest.ensures.1 (ap cache c.page.view_is ∙ ap cache that ∙ digest ∙ ap Some e))

pub returns-in-Some-clause-over : goal.returns-in-Some-clause-over
returns-in-Some-clause-over g c =
    let s = c.self.inside in
    let h = c.self.invariant in
    let cmp = g.K.Ord.cmp in
    let b = g.K.KeyBytes.bytes_of in
    let d = c.args.digest.now in
    let p = c.in-Some.page.now in
    let (i, n) = over_inside cmp (lent_gap c.args.gap.now) s.root p (sym c.in-Some.ensures) in
    let lev = λ (k : g.row.K.Denot). level_of (g.H.Hasher.digest_of s.hasher k) (non_zero_u8_get s.level_base) in
    let decides = bytes_decides (page_digest s.page_format b p) d in
    subst (λ (v : State g.row.K.Denot g.row.H.Denot). v.root_hash ≢ None → c.has_digest.result ≡ is_page_with v.format b d (page_over cmp (lent_gap c.args.gap.now) v.root)) c.self.view_is
    (λ some.
    let digest = filling_digest cmp g.met.K.Ord.total lev s.page_format b s.root_hash s.root some h.root_hash_holds h.caches h.canonical h.ascending p i n in
    same_truth c.has_digest.result (is_page_with s.page_format b d (Some p))
    (λ yes. decides.1 (some_is (page_digest s.page_format b p) d (sym digest ∙ (ap cache (sym c.page.view_is) ∙ c.has_digest.ensures.0 yes))))
    (λ yes. c.has_digest.ensures.1 (ap cache c.page.view_is ∙ (digest ∙ ap Some (decides.0 yes))))
    ∙ ap (is_page_with s.page_format b d) c.in-Some.ensures)
