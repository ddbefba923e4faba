-- The test of which pages a side has at their places decides it.
use Rattle.std.specs.Prelude.{◌&&◌, nat_eq, IsTrue, ◌↔◌}
use Rattle.std.proofs.Common.{◌≡◌, ℕ, Bool, true, false, List, [], ◌∷◌, ◌++◌, Option, Some, None, refl, sym, ap, ap₂, subst, ◌∙◌, ◌⊎◌, inl, inr, append-nil}
use Rattle.std.specs.Cmp.{IsTotalOrder}
use Rattle.std.specs.Cmp.Lexicographic.{bytes_decides, pointwise}
use Rattle.std.specs.List.{AllByRecursion}
use Rattle.std.specs.Ordering.{is_eq}
use Rattle.std.specs.declared.cmp.Ordering.{Ordering}
use Rattle.key_order.specs.Map.{IsMap, get}
use Rattle.key_order.specs.Order.{Below, Same}
use Rattle.key_order.proofs.Bools.{which, is_equal}
use Rattle.key_order.proofs.ListParts.{each-before, each-behind, map-rest}
use Rattle.key_order.proofs.Maps.{past_head}
use Rattle.key_order.proofs.Orders.{low_up, not_low_self, same_down, same_up}
use Rattle.key_order.proofs.SameMaps.{ascends}
use Rattle.merkle_diff.proofs.Each.{each-all, each-both, each-with}
use Rattle.merkle_replica.specs.Contents.{Side, tree_map}
use Rattle.merkle_replica.specs.Laws.{Laws}
use Rattle.merkle_replica.proofs.Bounds.{ascending_digests}
use Rattle.merkle_search_tree.proofs.SameItems.{page_over-alike, same_gap-back}
use Rattle.merkle_tree_theory.specs.Canonical.{SamePages}
use Rattle.merkle_tree_theory.specs.Gap.{Gap, IsInGap, SameGap, is_in_gap, pairs_within}
use Rattle.merkle_tree_theory.specs.Lookup.{Fills, page_over}
use Rattle.merkle_tree_theory.specs.Page.{pairs}
use Rattle.merkle_tree_theory.specs.Stream.{page_digest}
use Rattle.merkle_tree_theory.specs.Tree.{Tree}
use Rattle.merkle_tree_theory.proofs.InGaps.{in_gap_from_test, is_after-alike, is_before-alike, none_within, test_from_in_gap, within-append}
use Rattle.merkle_tree_theory.proofs.PageOverGap.{filled_opens, over_inside}
use Rattle.merkle_tree_theory.proofs.PagesIn.{inside}
use Rattle.merkle_replica.specs.Missing.{own_tree}
use Rattle.merkle_wire.specs.Taking.{HasPageAt}
use Rattle.merkle_wire.proofs.FilledGaps.{context_down, filling_in_gap, fills-alike}
use Rattle.merkle_wire.proofs.InGaps.{all_pass}
use Rattle.merkle_wire.proofs.OverGaps.{over_has}
use Rattle.merkle_wire.proofs.PagesAt.{IsOwn, page_in_each}
use Rattle.merkle_wire.proofs.PagesLacked.{TellsOwnPages}
use Rattle.merkle_wire.proofs.StepCovers.{finds_own}

-- all keys of the pairs are in the gap
abbrev pub lie_in : {K X : Type 0} → (K → K → Ordering) → Gap K → List (K × X) → Bool
lie_in cmp g [] = true
lie_in cmp g (p ∷ ps) = is_in_gap cmp p.0 g && lie_in cmp g ps

module _ {K V H : Type 0} (laws : Laws K V H) (local : Side K V H) where
  -- whether a page is there, has keys of the gap alone, and has the digest
  abbrev pub is_page_at : Gap K → List ℕ → Option (Tree K (List ℕ)) → Bool
  is_page_at g d None = false
  is_page_at g d (Some found) = lie_in laws.cmp g (pairs found) && pointwise nat_eq (page_digest local.format laws.bytes_of found) d

  -- whether the side's own page that fills the gap has the digest
  abbrev pub has_page_at : Gap K → List ℕ → Bool
  has_page_at g d = is_page_at g d (page_over laws.cmp g (own_tree laws local))

both_true : (a b : Bool) → a && b ≡ true → (a ≡ true) × (b ≡ true)
both_true true b e = (refl, e)
both_true false b e = absurd (cc)

module _ {K : Type 0} (cmp : K → K → Ordering) (o : IsTotalOrder cmp) where
  -- in a map each key is below those after it
  below_rest : {X : Type 0} (xs ys : List (K × X)) → IsMap cmp (xs ++ ys) → AllByRecursion (λ q. AllByRecursion (λ r. Below cmp q.0 r.0) ys) xs
  below_rest [] ys m = tt
  below_rest (x ∷ xs) ys m = (each-behind (λ r. Below cmp x.0 r.0) xs ys m.0, below_rest xs ys m.1)

  above_first : {X : Type 0} (xs ys : List (K × X)) → IsMap cmp (xs ++ ys) → AllByRecursion (λ q. AllByRecursion (λ r. Below cmp r.0 q.0) xs) ys
  above_first {X} [] ys m = each-all (λ q. AllByRecursion {X = K × X} (λ r. Below cmp r.0 q.0) []) ys (λ q. tt)
  above_first {X} (x ∷ xs) ys m =
      each-both (λ q. Below cmp x.0 q.0) (λ q. AllByRecursion (λ (r : K × X). Below cmp r.0 q.0) xs) (λ q. AllByRecursion (λ (r : K × X). Below cmp r.0 q.0) (x ∷ xs)) ys
      (λ q a b. (a, b)) (each-behind (λ r. Below cmp x.0 r.0) xs ys m.0) (above_first xs ys m.1)

  found_not : {X : Type 0} (ps : List (K × X)) (k : K) (d : X) → AllByRecursion (λ p. Same cmp p.0 k → ⊥) ps → get cmp ps k ≡ Some d → ⊥
  found_not [] k d a e = cc
  found_not (p ∷ ps) k d a e = go (which (is_eq (cmp p.0 k))) (found_not ps k d a.1)
    where
      go : (is_eq (cmp p.0 k) ≡ false) ⊎ (is_eq (cmp p.0 k) ≡ true) → (get cmp ps k ≡ Some d → ⊥) → ⊥
      go (inl n) more = more (sym (past_head cmp o p ps k n) ∙ e)
      go (inr n) more = a.0 (is_equal (cmp p.0 k) n)

  module _ (g : Gap K) (own : Tree K (List ℕ)) (up : IsMap cmp (pairs own)) (p : Tree K (List ℕ)) (found : page_over cmp g own ≡ Some p) where
    -- what stands beside the page over a gap isn't in the gap
    outside : (qs : List (K × List ℕ)) → AllByRecursion (λ q. get cmp (pairs own) q.0 ≡ Some q.1) qs
        → AllByRecursion (λ q. AllByRecursion (λ r. Same cmp r.0 q.0 → ⊥) (pairs p)) qs → AllByRecursion (λ q. IsInGap cmp q.0 g → ⊥) qs
    outside [] finds apart = tt
    outside (q ∷ qs) finds apart = (never, outside qs finds.1 apart.1)
      where
        never : IsInGap cmp q.0 g → ⊥
        never i =
            let (u, e, j, there) = over_has cmp o g q.0 q.1 i own up finds.0 in
            let same : u ≡ p = cc in
            found_not (pairs p) q.0 q.1 apart.0 (subst (λ (t : Tree K (List ℕ)). get cmp (pairs t) q.0 ≡ Some q.1) same there)

    -- so it fills the gap where its own keys are in it
    over_fills : AllByRecursion (λ q. IsInGap cmp q.0 g) (pairs p) → Fills cmp g p own
    over_fills a =
        let (is_in, node) = over_inside cmp g own p found in
        let (pre, post, c) = inside (context_down cmp o (pairs own)) p own ([], [], sym (append-nil (pairs own))) is_in in
        let m = subst (IsMap cmp) c up in
        let finds = subst (AllByRecursion (λ q. get cmp (pairs own) q.0 ≡ Some q.1)) c (finds_own cmp o (pairs own) up) in
        let Finds : K × List ℕ → Type 0 = λ q. get cmp (pairs own) q.0 ≡ Some q.1 in
        let Apart : K × List ℕ → Type 0 = λ q. AllByRecursion (λ r. Same cmp r.0 q.0 → ⊥) (pairs p) in
        let before : AllByRecursion Apart pre =
        each-with (λ q. AllByRecursion (λ r. Below cmp q.0 r.0) (pairs p ++ post)) Apart pre
        (λ q b. each-with (λ r. Below cmp q.0 r.0) (λ r. Same cmp r.0 q.0 → ⊥) (pairs p)
        (λ r low s. not_low_self cmp o q.0 (low_up cmp o q.0 r.0 q.0 low (same_up cmp o r.0 q.0 s))) (each-before (λ r. Below cmp q.0 r.0) (pairs p) post b))
        (below_rest pre (pairs p ++ post) m) in
        let behind : AllByRecursion Apart post =
        each-with (λ q. AllByRecursion (λ r. Below cmp r.0 q.0) (pairs p)) Apart post
        (λ q b. each-with (λ r. Below cmp r.0 q.0) (λ r. Same cmp r.0 q.0 → ⊥) (pairs p) (λ r low s. not_low_self cmp o r.0 (low_up cmp o r.0 q.0 r.0 low (same_down cmp o r.0 q.0 s))) b)
        (above_first (pairs p) post (map-rest cmp pre (pairs p ++ post) m)) in
        let within = pairs_within cmp g in
        record {
          inside = is_in;
          some = node;
          all = ap within c ∙ within-append cmp g pre (pairs p ++ post)
              ∙ ap₂ (λ xs ys. xs ++ ys) (none_within cmp g pre (outside pre (each-before Finds pre (pairs p ++ post) finds) before))
              (within-append cmp g (pairs p) post
              ∙ ap₂ (λ xs ys. xs ++ ys)
              (all_pass (λ k. is_in_gap cmp k g) (pairs p) (each-with (λ q. IsInGap cmp q.0 g) (λ q. is_in_gap cmp q.0 g ≡ true) (pairs p) (λ q i. test_from_in_gap cmp q.0 g i) a))
              (none_within cmp g post (outside post (each-behind Finds (pairs p) post (each-behind Finds pre (pairs p ++ post) finds)) behind)))
              ∙ append-nil (pairs p);
        }

  all_lie : (g : Gap K) (ps : List (K × List ℕ)) → lie_in cmp g ps ≡ true → AllByRecursion (λ p. IsInGap cmp p.0 g) ps
  all_lie g [] e = tt
  all_lie g (p ∷ ps) e = let (a, b) = both_true (is_in_gap cmp p.0 g) (lie_in cmp g ps) e in (in_gap_from_test cmp p.0 g a, all_lie g ps b)

  lie_all : (g : Gap K) (ps : List (K × List ℕ)) → AllByRecursion (λ p. IsInGap cmp p.0 g) ps → lie_in cmp g ps ≡ true
  lie_all g [] a = refl
  lie_all g (p ∷ ps) a = rw (test_from_in_gap cmp p.0 g a.0) (lie_all g ps a.1)

  lie_in-alike : (g h : Gap K) → SameGap cmp g h → (ps : List (K × List ℕ)) → lie_in cmp g ps ≡ lie_in cmp h ps
  lie_in-alike g h s [] = refl
  lie_in-alike g h s (p ∷ ps) = λ i. (is_after-alike cmp o g.after h.after s.0 p.0 i && is_before-alike cmp o g.before h.before s.1 p.0 i) && lie_in-alike g h s ps i

module _ {K V H : Type 0} (laws : Laws K V H) (o : IsTotalOrder laws.cmp) (local : Side K V H) (is_own : IsOwn laws o local (own_tree laws local)) (up_rows : IsMap laws.cmp local.rows) where
  abbrev own : Tree K (List ℕ)
  own = own_tree laws local

  up : IsMap laws.cmp (pairs own)
  up = ascends laws.cmp o (λ d e. d ≡ e) (pairs own) (tree_map laws local) is_own.1 (ascending_digests laws.cmp o (laws.value_digest local.hasher) local.rows up_rows)

  abbrev test : Gap K → List ℕ → Option (Tree K (List ℕ)) → Bool
  test = is_page_at laws local

  pub own_pages : TellsOwnPages laws local (has_page_at laws local)
  own_pages = record {
    there = λ g d e. by g d (page_over laws.cmp g own) refl e;
    alike = λ g h d s. go g h d s (page_over laws.cmp g own) ∙ ap (test h d) (page_over-alike laws.cmp o g h s own);
  }
    where
      by : (g : Gap K) (d : List ℕ) (found : Option (Tree K (List ℕ))) → page_over laws.cmp g own ≡ found → test g d found ≡ true → HasPageAt laws local g d
      by g d None f e = absurd (cc)
      by g d (Some p) f e =
          let (lie, is) = both_true (lie_in laws.cmp g (pairs p)) (pointwise nat_eq (page_digest local.format laws.bytes_of p) d) e in
          (own, p, is_own, over_fills laws.cmp o g own up p f (all_lie laws.cmp o g (pairs p) lie), (bytes_decides (page_digest local.format laws.bytes_of p) d).0 is)

      go : (g h : Gap K) (d : List ℕ) → SameGap laws.cmp g h → (found : Option (Tree K (List ℕ))) → test g d found ≡ test h d found
      go g h d s None = refl
      go g h d s (Some p) = ap (λ b. b && pointwise nat_eq (page_digest local.format laws.bytes_of p) d) (lie_in-alike laws.cmp o g h s (pairs p))

  pub pages_known : (same : (t u : Tree K (List ℕ)) → IsOwn laws o local t → IsOwn laws o local u → SamePages laws.cmp t u)
      → (digests : (t u : Tree K (List ℕ)) → SamePages laws.cmp t u → page_digest local.format laws.bytes_of t ≡ page_digest local.format laws.bytes_of u)
      → (g : Gap K) (d : List ℕ) → HasPageAt laws local g d → has_page_at laws local g d ≡ true
  pages_known same digests g d has =
      let (p, f, is) = page_in_each laws o local same digests g d has own up is_own in
      ap (test g d) (filled_opens laws.cmp o g p own up f)
      ∙ rw (lie_all laws.cmp o g (pairs p) (filling_in_gap laws.cmp o g p own f)) ((bytes_decides (page_digest local.format laws.bytes_of p) d).1 is)

-- a test that decides which pages a side has at their places
same_test : (a b : Bool) → (a ≡ true → b ≡ true) → (b ≡ true → a ≡ true) → a ≡ b
same_test true b f g = sym (f refl)
same_test false true f g = g refl
same_test false false f g = refl

module _ {K V H : Type 0} (laws : Laws K V H) (o : IsTotalOrder laws.cmp) (local : Side K V H) where
  at_same : (g h : Gap K) (d : List ℕ) → SameGap laws.cmp g h → HasPageAt laws local g d → HasPageAt laws local h d
  at_same g h d s (root, page, is_tree, fills, is) = (root, page, is_tree, fills-alike laws.cmp o g h page root s fills, is)

  pub tests_own_pages : (is_there : Gap K → List ℕ → Bool) → ((g : Gap K) (d : List ℕ) → IsTrue (is_there g d) ↔ HasPageAt laws local g d) → TellsOwnPages laws local is_there
  tests_own_pages is_there decides = record {
    there = λ g d. (decides g d).0;
    alike = λ g h d s. same_test (is_there g d) (is_there h d) (λ e. (decides h d).1 (at_same g h d s ((decides g d).0 e)))
        (λ e. (decides g d).1 (at_same h g d (same_gap-back laws.cmp o g h s) ((decides h d).0 e)));
  }
