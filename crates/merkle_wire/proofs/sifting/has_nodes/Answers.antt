use Rattle.std.proofs.Common.{◌≡◌, ◌++◌, ◌∷◌, [], ℕ, zero, suc, ◌<◌, true, false, List, length, Option, Some, None, map, take, get_or, arith, refl, ap, ap₂, sym, subst, ◌∙◌, append-nil}
use Rattle.std.proofs.lemmas.List.{take_all, map-append}
use Rattle.std.proofs.lemmas.Grind.{flat_map-append}
use Rattle.std.specs.Cmp.Lexicographic.{bytes_decides}
use Rattle.std.specs.List.{flat_map}
use Rattle.key_order.specs.Map.{get}
use Rattle.merkle_digest.specs.SipHash.{zero_key}
use Rattle.merkle_digest.specs.Sip24.{Holds}
use Rattle.merkle_replica.specs.Contents.{tree_map}
use Rattle.merkle_replica.proofs.Descents.{same_get}
use Rattle.merkle_replica.proofs.SideLaws.{laws_of}
use Rattle.merkle_wire.specs.ItsRows.{side_of}
use Rattle.merkle_wire.specs.Outlines.{digest_of_all}
use Rattle.merkle_wire.specs.Steps.{below_keys}
use Rattle.merkle_wire.proofs.ItemsMore.{map_more}
use Rattle.merkle_wire.proofs.sifting.has_nodes.Goals as goal

pub nodes-init : goal.nodes-init
nodes-init g c = record { steady = λ sound. sound; kept = λ _. refl; ds = []; there = λ _. refl; written = c.new-sip.ensures }

pub nodes-preserved : goal.nodes-preserved
nodes-preserved g c =
    let tree = (g.T.KeptTree.kept c.args.tree.now).digests in
    let at = get g.K.Ord.cmp tree.map in
    let kept = c.nodes.invariant in
    let node = c.node-item.result in
    let own = c.in-Some.own in
    let keys = below_keys (take c.nodes.node-index c.args.nodes.now) in
    let before = c.digest_at.ensures.steady in
    record {
      steady = λ sound. kept.steady (before sound);
      kept = λ sound. c.digest_at.ensures.kept sound ∙ kept.kept (before sound);
      ds = kept.ds ++ own ∷ [];
      there = λ sound.
          let found : at node.1.key ≡ Some own =
          sym (subst (λ t. c.in_ok-digest_at.field-0 ≡ get g.K.Ord.cmp t.digests.map node.1.key) (kept.kept (before sound)) (c.in_ok-digest_at.ensures.digest sound)) ∙ c.in-Some.is in
          ap (map at) (map_more (λ b. b.1.key) c.args.nodes.now c.nodes.node-index node c.nodes-test.true c.node-item.is) ∙ map-append at keys _
          ∙ ap₂ (λ xs ys. xs ++ ys) (kept.there (before sound)) (ap (λ o. o ∷ []) found) ∙ sym (map-append Some kept.ds (own ∷ []));
      written = subst (Holds c.write.new.self zero_key)
          (ap (λ b. flat_map (λ d. d) kept.ds ++ b) (c.as_bytes.ensures ∙ sym (append-nil own)) ∙ sym (flat_map-append (λ (d : List ℕ). d) kept.ds (own ∷ [])))
          (c.write.ensures zero_key (flat_map (λ d. d) kept.ds) kept.written);
    }

-- what is made of each, where one is of nothing, isn't what there is
none_at : {X A B : Type 0} (f : A → Option B) (h : X → A) (xs : List X) (i : ℕ) (x : X) → i < length xs → x ≡ get_or xs i x → f (h x) ≡ None → (ds : List B) → map f (map h xs) ≡ map Some ds → ⊥
none_at f h [] i x low is none ds e = absurd (omega (arith, low))
none_at f h (y ∷ ys) i x low is none [] e = absurd (cc)
none_at f h (y ∷ ys) zero x low is none (d ∷ ds) e =
    let first : f (h y) ≡ Some d = cc in
    let never : None ≡ Some d = sym none ∙ ap (λ z. f (h z)) is ∙ first in
    absurd (cc)
none_at f h (y ∷ ys) (suc i) x low is none (d ∷ ds) e =
    let rest : map f (map h ys) ≡ map Some ds = cc in
    none_at f h ys i x (omega (arith, low)) is none ds rest

-- what is made of each is the same by functions that agree
same_all : {A B : Type 0} {f h : A → B} → ((x : A) → f x ≡ h x) → (xs : List A) → map f xs ≡ map h xs
same_all of xs = λ i. map (λ x. of x i) xs

-- what there is is one list
one_list : {B : Type 0} (ds es : List B) → map Some ds ≡ map Some es → ds ≡ es
one_list [] [] e = refl
one_list [] (y ∷ es) e = absurd (cc)
one_list (x ∷ ds) [] e = absurd (cc)
one_list (x ∷ ds) (y ∷ es) e =
    let first : x ≡ y = cc in
    let rest = one_list ds es (cc) in
    (λ i. first i ∷ rest i)

pub returns-in-None-clause-lacked : goal.returns-in-None-clause-lacked
returns-in-None-clause-lacked g c = rw g.met.H.RowHasher.laws_are (λ sound e rows kept (ds, own, is).
    let laws = laws_of g.K.Ord.cmp g.K.KeyBytes.bytes_of g.H.Hasher-1.digest_of g.V.PartialEq.eq g.V.Join.join_of g.H.Hasher-2.digest_of in
    let tree = (g.T.KeptTree.kept c.args.tree.now).digests in
    let of = same_get g.K.Ord.cmp g.met.K.Ord.total tree.map (tree_map laws (side_of tree rows)) kept in
    let node = c.node-item.result in
    let none : get g.K.Ord.cmp tree.map node.1.key ≡ None =
    sym (subst (λ t. c.in_ok-digest_at.field-0 ≡ get g.K.Ord.cmp t.digests.map node.1.key) (c.nodes.invariant.kept (c.digest_at.ensures.steady sound))
    (c.in_ok-digest_at.ensures.digest sound)) ∙ c.in-None.is in
    none_at (get g.K.Ord.cmp tree.map) (λ b. b.1.key) c.args.nodes.now c.nodes.node-index node c.nodes-test.true c.node-item.is
    none ds (same_all of (below_keys c.args.nodes.now) ∙ own))

pub returns-clause-there : goal.returns-clause-there
returns-clause-there g c = rw g.met.H.RowHasher.laws_are (λ sound t rows kept.
    let laws = laws_of g.K.Ord.cmp g.K.KeyBytes.bytes_of g.H.Hasher-1.digest_of g.V.PartialEq.eq g.V.Join.join_of g.H.Hasher-2.digest_of in
    let tree = (g.T.KeptTree.kept c.args.tree.now).digests in
    let so = c.nodes.invariant in
    let of = same_get g.K.Ord.cmp g.met.K.Ord.total tree.map (tree_map laws (side_of tree rows)) kept in
    let all = ap (λ xs. map (get g.K.Ord.cmp tree.map) (below_keys xs)) (take_all c.nodes.node-index c.args.nodes.now c.nodes-test.false) in (
      so.ds,
      sym (same_all of (below_keys c.args.nodes.now)) ∙ sym all ∙ so.there sound,
      sym (c.finish128.ensures zero_key (flat_map (λ d. d) so.ds) so.written) ∙ (bytes_decides c.finish128.result c.args.digest.now).0 (sym c.eq.ensures ∙ t),
    ))

pub returns-clause-lacked : goal.returns-clause-lacked
returns-clause-lacked g c = rw g.met.H.RowHasher.laws_are (λ sound no rows kept (es, own, is).
    let laws = laws_of g.K.Ord.cmp g.K.KeyBytes.bytes_of g.H.Hasher-1.digest_of g.V.PartialEq.eq g.V.Join.join_of g.H.Hasher-2.digest_of in
    let tree = (g.T.KeptTree.kept c.args.tree.now).digests in
    let so = c.nodes.invariant in
    let of = same_get g.K.Ord.cmp g.met.K.Ord.total tree.map (tree_map laws (side_of tree rows)) kept in
    let all = ap (λ xs. map (get g.K.Ord.cmp tree.map) (below_keys xs)) (take_all c.nodes.node-index c.args.nodes.now c.nodes-test.false) in
    let same : so.ds ≡ es = one_list so.ds es (sym (so.there sound) ∙ all ∙ same_all of (below_keys c.args.nodes.now) ∙ own) in
    let digests : c.finish128.result ≡ c.args.digest.now = c.finish128.ensures zero_key (flat_map (λ d. d) so.ds) so.written ∙ ap digest_of_all same ∙ is in
    let yes : c.eq.result ≡ true = c.eq.ensures ∙ (bytes_decides c.finish128.result c.args.digest.now).1 digests in
    let never : true ≡ false = sym yes ∙ no in
    cc)
