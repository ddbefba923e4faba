-- Taking a subtree apart at a key, page by page.
use Rattle.std.proofs.Common.{◌≡◌, ℕ, ◌+◌, ◌<◌, ◌≤◌, List, [], ◌∷◌, ◌++◌, length, Option, None, refl, ap, sym, subst, ◌∙◌, arith}
use Rattle.std.specs.declared.boxed.Box.{Box}
use Rattle.std.specs.declared.alloc.Global.{Global}
use Rattle.std.specs.declared.cmp.Ordering.{Ordering}
use Rattle.merkle_tree_theory.specs.Tree.{Tree, page, Row, Held, nothing, below}
use Rattle.merkle_tree_theory.specs.Upsert.{held_lower, held_upper, digest_beside}
use Rattle.merkle_tree_theory.specs.Chain.{page_length, high_of, first_of, with_high, with_first, row_take, row_drop, page_with_row, row_of_page, page_chain, HaveNodes}
use Rattle.merkle_search_tree.specs.Parting.{gap, row_place}
use Rattle.merkle_search_tree.specs.Split.{stale_of}
use Rattle.merkle_tree_theory.proofs.PageChains.{hung-stale, hung-kept, hung-all, have-more, with_high-twice, with_first-twice, length-first, length-drop}
use Rattle.merkle_search_tree.proofs.Partings.{gap-all, gap-at, page-all, page-none, page-at}

stale_of-same : {K D : Type 0} (h : Held K D) (n : ℕ) → stale_of h n n ≡ n
stale_of-same nothing n = refl
stale_of-same (below t) n = refl

pub length-last : {X : Type 0} (xs : List X) (y : X) → length (xs ++ y ∷ []) ≡ length xs + 1
length-last [] y = refl
length-last (x ∷ xs) y = omega (arith, length-last xs y)

module _ {K D : Type 0} (hang : Held K D → Row K D → Row K D) (bs : List (Box (Tree K D) Global)) (b : Box (Tree K D) Global) (h x : Held K D) where
  push-stale : (n : ℕ) → n ≡ length bs + 1 → below (page_with_row 1 b.value (hang h (row_of_page b.value))) ≡ x → page_chain hang n (bs ++ b ∷ []) h ≡ page_chain hang (length bs) bs x
  push-stale n e p =
      sym (hung-stale hang n bs b h (omega arith)) ∙ ap (page_chain hang n bs) p ∙ hung-all hang n (length bs) bs x (omega arith) (omega arith)

  push-kept : (n : ℕ) → n ≤ length bs → below (page_with_row 0 b.value (hang h (row_of_page b.value))) ≡ x → page_chain hang n (bs ++ b ∷ []) h ≡ page_chain hang n bs x
  push-kept n r p = sym (hung-kept hang n bs b h r) ∙ ap (page_chain hang n bs) p

  -- a page on one side, whose digest is kept beside what is on the other side of its gap
  push-beside : (other : Held K D) (l : ℕ) (c : Option (List ℕ)) (r : Row K D) (n : ℕ) → n ≤ length bs → b.value ≡ page l c r → below (page l (digest_beside other c) (hang h r)) ≡ x
      → page_chain hang (stale_of other n (length (bs ++ b ∷ []))) (bs ++ b ∷ []) h ≡ page_chain hang (stale_of other n (length bs)) bs x
  push-beside nothing l c r n s e p = push-kept n s (ap (λ t. below (page_with_row 0 t (hang h (row_of_page t)))) e ∙ p)
  push-beside (below t) l c r n s e p = push-stale (length (bs ++ b ∷ [])) (length-last bs b) (ap (λ t. below (page_with_row 1 t (hang h (row_of_page t)))) e ∙ p)

module _ {K D : Type 0} (cmp : K → K → Ordering) (at : K) where
  -- `InParts` of the pages and counts of both sides
  abbrev pub Parts : Held K D → Held K D → List (Box (Tree K D) Global) → ℕ → List (Box (Tree K D) Global) → ℕ → Type 0
  Parts h₀ h bs m rs n =
      (page_chain with_high (stale_of (held_upper cmp at h) m (length bs)) bs (held_lower cmp at h) ≡ held_lower cmp at h₀)
      × (page_chain with_first (stale_of (held_lower cmp at h) n (length rs)) rs (held_upper cmp at h) ≡ held_upper cmp at h₀)
      × (m ≤ length bs) × (n ≤ length rs) × HaveNodes rs

  module _ (h₀ : Held K D) (bs : List (Box (Tree K D) Global)) (m : ℕ) (rs : List (Box (Tree K D) Global)) (n : ℕ) where
    end-parts : (t : Tree K D) (b : Box (Tree K D) Global) → row_place cmp at (row_of_page t) ≡ page_length t → Parts h₀ (below t) bs m rs n
        → b.value ≡ page_with_row 0 t (with_high nothing (row_of_page t)) → Parts h₀ (gap cmp at (row_of_page t)) (bs ++ b ∷ []) m rs (length rs)
    end-parts (page l c r) b p inv e =
        let q = page-all cmp at l c r p in
        let g = high_of r in
        subst (λ x. Parts h₀ x (bs ++ b ∷ []) m rs (length rs)) (sym (gap-all cmp at r p)) (
          push-beside with_high bs b (held_lower cmp at g) (held_lower cmp at (below (page l c r))) (held_upper cmp at g) l c (with_high nothing r) m inv.2 e
              (ap (λ s. below (page l (digest_beside (held_upper cmp at g) c) s)) (with_high-twice (held_lower cmp at g) nothing r) ∙ sym q.0)
              ∙ ap (λ x. page_chain with_high (stale_of x m (length bs)) bs (held_lower cmp at (below (page l c r)))) (sym q.1) ∙ inv.0,
          (λ j. page_chain with_first (stale_of-same (held_lower cmp at g) (length rs) j) rs (sym q.1 j))
              ∙ ap (λ x. page_chain with_first (stale_of x n (length rs)) rs (held_upper cmp at (below (page l c r)))) (sym q.0) ∙ inv.1,
          omega (arith, length-last bs b, inv.2),
          omega arith,
          inv.4,
        )

    start-parts : (t : Tree K D) (b : Box (Tree K D) Global) → row_place cmp at (row_of_page t) ≡ 0 → 0 < page_length t → Parts h₀ (below t) bs m rs n
        → b.value ≡ page_with_row 0 t (with_first nothing (row_of_page t)) → Parts h₀ (gap cmp at (row_of_page t)) bs (length bs) (rs ++ b ∷ []) n
    start-parts (page l c r) b p z inv e =
        let q = page-none cmp at l c r p z in
        let g = first_of r in
        subst (λ x. Parts h₀ x bs (length bs) (rs ++ b ∷ []) n) (sym (gap-at cmp at r 0 (sym p))) (
          (λ j. page_chain with_high (stale_of-same (held_upper cmp at g) (length bs) j) bs (sym q.0 j))
              ∙ ap (λ x. page_chain with_high (stale_of x m (length bs)) bs (held_lower cmp at (below (page l c r)))) (sym q.1) ∙ inv.0,
          push-beside with_first rs b (held_upper cmp at g) (held_upper cmp at (below (page l c r))) (held_lower cmp at g) l c (with_first nothing r) n inv.3 e
              (ap (λ s. below (page l (digest_beside (held_lower cmp at g) c) s)) (with_first-twice (held_upper cmp at g) nothing r) ∙ sym q.1)
              ∙ ap (λ x. page_chain with_first (stale_of x n (length rs)) rs (held_upper cmp at (below (page l c r)))) (sym q.0) ∙ inv.1,
          omega arith,
          omega (arith, length-last rs b, inv.3),
          have-more rs b inv.4 (subst (λ (t : Tree K D). 0 < page_length t) (sym e) (omega (arith, length-first nothing r, z))),
        )

    inside-parts : (t : Tree K D) (b u : Box (Tree K D) Global) (i : ℕ) → i ≡ row_place cmp at (row_of_page t) → 0 < i → i < page_length t → Parts h₀ (below t) bs m rs n
        → b.value ≡ page_with_row 1 t (row_take i (row_of_page t)) → u.value ≡ page_with_row 1 t (with_first nothing (row_drop i (row_of_page t)))
        → Parts h₀ (gap cmp at (row_of_page t)) (bs ++ b ∷ []) (length (bs ++ b ∷ [])) (rs ++ u ∷ []) (length (rs ++ u ∷ []))
    inside-parts (page l c r) b u i p z s inv e f =
        let q = page-at cmp at l c r i p z s in
        let g = first_of (row_drop i r) in
        subst (λ x. Parts h₀ x (bs ++ b ∷ []) (length (bs ++ b ∷ [])) (rs ++ u ∷ []) (length (rs ++ u ∷ []))) (sym (gap-at cmp at r i p)) (
          ap (λ k. page_chain with_high k (bs ++ b ∷ []) (held_lower cmp at g)) (stale_of-same (held_upper cmp at g) (length (bs ++ b ∷ [])))
              ∙ push-stale with_high bs b (held_lower cmp at g) (held_lower cmp at (below (page l c r))) (length (bs ++ b ∷ [])) (length-last bs b)
              (ap (λ (t : Tree K D). below (page_with_row 1 t (with_high (held_lower cmp at g) (row_of_page t)))) e ∙ sym q.0)
              ∙ ap (λ x. page_chain with_high (stale_of x m (length bs)) bs (held_lower cmp at (below (page l c r)))) (sym q.1) ∙ inv.0,
          ap (λ k. page_chain with_first k (rs ++ u ∷ []) (held_upper cmp at g)) (stale_of-same (held_lower cmp at g) (length (rs ++ u ∷ [])))
              ∙ push-stale with_first rs u (held_upper cmp at g) (held_upper cmp at (below (page l c r))) (length (rs ++ u ∷ [])) (length-last rs u)
              (ap (λ (t : Tree K D). below (page_with_row 1 t (with_first (held_upper cmp at g) (row_of_page t)))) f
              ∙ ap (λ x. below (page l None x)) (with_first-twice (held_upper cmp at g) nothing (row_drop i r)) ∙ sym q.1)
              ∙ ap (λ x. page_chain with_first (stale_of x n (length rs)) rs (held_upper cmp at (below (page l c r)))) (sym q.0) ∙ inv.1,
          omega arith,
          omega arith,
          have-more rs u inv.4 (subst (λ (t : Tree K D). 0 < page_length t) (sym f) (omega (arith, length-first nothing (row_drop i r), length-drop i r, s))),
        )

  parts-by : (h₀ h h' : Held K D) (bs bs' : List (Box (Tree K D) Global)) (m m' : ℕ) (rs rs' : List (Box (Tree K D) Global)) (n n' : ℕ)
      → h' ≡ h → bs' ≡ bs → m' ≡ m → rs' ≡ rs → n' ≡ n → Parts h₀ h bs m rs n → Parts h₀ h' bs' m' rs' n'
  parts-by h₀ h h' bs bs' m m' rs rs' n n' a b c d e p = subst (λ x. x) (λ j. Parts h₀ (sym a j) (sym b j) (sym c j) (sym d j) (sym e j)) p

  -- the sides after a page, of which `left` stands in the gap
  module _ (whole left : Held K D) (t : Tree K D) (is : left ≡ gap cmp at (row_of_page t)) (bs bs' : List (Box (Tree K D) Global)) (m m' : ℕ) (rs rs' : List (Box (Tree K D) Global)) (n n' : ℕ) where
    pub parts-start : (b : Box (Tree K D) Global) → 0 ≡ row_place cmp at (row_of_page t) → 0 < page_length t → b.value ≡ page_with_row 0 t (with_first nothing (row_of_page t))
        → bs' ≡ bs → m' ≡ length bs → rs' ≡ rs ++ b ∷ [] → n' ≡ n → Parts whole (below t) bs m rs n → Parts whole left bs' m' rs' n'
    parts-start b p z e f h k o inv = parts-by whole _ left _ bs' _ m' _ rs' _ n' is f h k o (start-parts whole bs m rs n t b (sym p) z inv e)

    pub parts-end : (b : Box (Tree K D) Global) → page_length t ≡ row_place cmp at (row_of_page t) → b.value ≡ page_with_row 0 t (with_high nothing (row_of_page t))
        → bs' ≡ bs ++ b ∷ [] → m' ≡ m → rs' ≡ rs → n' ≡ length rs → Parts whole (below t) bs m rs n → Parts whole left bs' m' rs' n'
    parts-end b p e f h k o inv = parts-by whole _ left _ bs' _ m' _ rs' _ n' is f h k o (end-parts whole bs m rs n t b (sym p) inv e)

    pub parts-inside : (b u : Box (Tree K D) Global) (i : ℕ) → i ≡ row_place cmp at (row_of_page t) → 0 < i → i < page_length t
        → b.value ≡ page_with_row 1 t (row_take i (row_of_page t)) → u.value ≡ page_with_row 1 t (with_first nothing (row_drop i (row_of_page t)))
        → bs' ≡ bs ++ b ∷ [] → m' ≡ length bs' → rs' ≡ rs ++ u ∷ [] → n' ≡ length rs' → Parts whole (below t) bs m rs n → Parts whole left bs' m' rs' n'
    parts-inside b u i p z r e g f h k o inv = parts-by whole _ left _ bs' _ m' _ rs' _ n' is f (h ∙ ap length f) k (o ∙ ap length k) (inside-parts whole bs m rs n t b u i p z r inv e g)
