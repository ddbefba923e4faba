-- A traversal meets each key once.
use Rattle.std.proofs.Common.{◌≡◌, ℕ, ◌+◌, ◌-◌, ◌^◌, ◌≤◌, min, Bool, true, false, List, [], ◌∷◌, ◌++◌, length, length-append, refl, sym, ◌∙◌, ap, arith}
use Rattle.merkle_tree_theory.specs.Tree.{Tree, page, Row, high, node, Held, nothing, below}
use Rattle.merkle_tree_theory.specs.Page.{pairs, row_pairs, held_pairs}
use Rattle.merkle_tree_theory.specs.Events.{Event, events_of, row_events, held_events}
use Rattle.merkle_tree_theory.specs.Traversal.{Visits, over, ends, goes_on}
use Rattle.test_trees.specs.Count.{counted}

-- the count after this many more nodes
abbrev pub plus : ℕ → ℕ → ℕ
plus c n = min (c + n) (2 ^ 64 - 1)

plus-zero : (c : ℕ) → c ≤ 2 ^ 64 - 1 → plus c 0 ≡ c
plus-zero c h = omega (arith, h)

plus-le : (c n : ℕ) → plus c n ≤ 2 ^ 64 - 1
plus-le c n = omega arith

plus-plus : (c m n : ℕ) → plus (plus c m) n ≡ plus c (m + n)
plus-plus c m n = omega arith

module _ {K D : Type 0} where
  abbrev pub after : ℕ → List (Event K D) → ℕ
  after c [] = c
  after c (e ∷ es) = after (counted c e) es

  after-join : (c : ℕ) (a b : List (Event K D)) → after c (a ++ b) ≡ after (after c a) b
  after-join c [] b = refl
  after-join c (e ∷ es) b = after-join (counted c e) es b

  sum : (s : Held K D) (k : K) (d : D) (r : Row K D) → length (held_pairs s) + (1 + length (row_pairs r)) ≡ length (held_pairs s ++ (k, d) ∷ row_pairs r)
  sum s k d r = omega (arith, length-append (held_pairs s) ((k, d) ∷ row_pairs r))

  mutual
    pub after_page : (c : ℕ) (b : Bool) (t : Tree K D) → c ≤ 2 ^ 64 - 1 → after c (events_of b t) ≡ plus c (length (pairs t))
    after_page c b (page l d r) h = after_row c (page l d r) r h

    pub after_row : (c : ℕ) (t : Tree K D) (r : Row K D) → c ≤ 2 ^ 64 - 1 → after c (row_events t r) ≡ plus c (length (row_pairs r))
    after_row c t (high s) h = after_held c true s h
    after_row c t (node s k d r) h =
        after-join c (held_events false s) _
        ∙ ap (λ x. after (plus x 1) (row_events t r)) (after_held c false s h)
        ∙ after_row (plus (plus c (length (held_pairs s))) 1) t r (plus-le _ 1)
        ∙ plus-plus (plus c (length (held_pairs s))) 1 (length (row_pairs r))
        ∙ plus-plus c (length (held_pairs s)) (1 + length (row_pairs r))
        ∙ ap (plus c) (sum s k d r)

    pub after_held : (c : ℕ) (b : Bool) (s : Held K D) → c ≤ 2 ^ 64 - 1 → after c (held_events b s) ≡ plus c (length (held_pairs s))
    after_held c b nothing h = sym (plus-zero c h)
    after_held c b (below t) h = after_page c b t h

  pub visits_after : {S : Type 0} (count : S → ℕ) (s t : S) (es : List (Event K D)) (all : Bool)
      → Visits (λ (a : S) (e : Event K D) (q : Bool) (b : S). (q ≡ true) × (count b ≡ counted (count a) e)) s es all t → count t ≡ after (count s) es
  visits_after count s t [] all over = refl
  visits_after count s t (e ∷ es) all (ends p) = absurd (let f = p.0 in cc)
  visits_after count s t (e ∷ es) all (goes_on {u = u} p v) = visits_after count u t es all v ∙ ap (λ c. after c es) p.1

pub plus-from_zero : (n : ℕ) → plus 0 n ≡ min n (2 ^ 64 - 1)
plus-from_zero n = omega arith
