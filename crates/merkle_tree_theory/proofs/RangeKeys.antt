-- The keys of page ranges, and the map of which they are.
use Rattle.std.proofs.Common.{◌≡◌, ℕ, List, [], ◌∷◌, ◌++◌}
use Rattle.std.specs.Prelude.{⊤}
use Rattle.std.specs.Cmp.{IsTotalOrder}
use Rattle.std.specs.List.{AllByRecursion}
use Rattle.std.specs.declared.cmp.Ordering.{Ordering}
use Rattle.key_order.specs.Order.{Upto, Below}
use Rattle.key_order.specs.Map.{IsMap, last_key}
use Rattle.key_order.proofs.Orders.{up_up, low_is_up, up_self}
use Rattle.key_order.proofs.ListParts.{each-append, each-before, each-behind}
use Rattle.merkle_diff.specs.Entry.{Entry}
use Rattle.merkle_tree_theory.specs.Tree.{Tree, page, Row, high, node, Held, nothing, below}
use Rattle.merkle_tree_theory.specs.Page.{pairs, row_pairs, held_pairs}
use Rattle.merkle_tree_theory.specs.Stream.{page_digest}
use Rattle.merkle_tree_theory.specs.Ranges.{entry_of, ranges_of, row_ranges, held_ranges}
use Rattle.merkle_tree_theory.specs.declared.page_format.PageFormat.{PageFormat}

-- a list with something in it is not empty
pub not-none : {X : Type 0} (xs : List X) (y : X) (ys : List X) → xs ++ y ∷ ys ≡ [] → ⊥
not-none [] y ys e = cc
not-none (x ∷ xs) y ys e = cc

module _ {K : Type 0} (P : K → Type 0) where
  -- P holds of both bounds
  abbrev pub OfBounds : Entry K (List ℕ) → Type 0
  OfBounds e = P e.first × P e.last

  abbrev pub OfKeys : List (K × List ℕ) → Type 0
  OfKeys = AllByRecursion (λ p. P p.0)

  of_last : (k : K) (ps : List (K × List ℕ)) → P k → OfKeys ps → P (last_key k ps)
  of_last k [] h a = h
  of_last k (p ∷ ps) h a = of_last p.0 ps a.0 a.1

  of_entry : (ps : List (K × List ℕ)) (d : List ℕ) → OfKeys ps → AllByRecursion OfBounds (entry_of ps d)
  of_entry [] d a = tt
  of_entry (p ∷ ps) d a = ((a.0, of_last p.0 ps a.0 a.1), tt)

  module _ (format : PageFormat) (bytes_of : K → List ℕ) where
    mutual
      -- what holds of each key holds of the bounds of the ranges
      pub of_tree : (t : Tree K (List ℕ)) → OfKeys (pairs t) → AllByRecursion OfBounds (ranges_of format bytes_of t)
      of_tree (page l c r) a =
          each-append OfBounds (entry_of (row_pairs r) (page_digest format bytes_of (page l c r))) (row_ranges format bytes_of r)
          (of_entry (row_pairs r) (page_digest format bytes_of (page l c r)) a) (of_row r a)

      pub of_row : (r : Row K (List ℕ)) → OfKeys (row_pairs r) → AllByRecursion OfBounds (row_ranges format bytes_of r)
      of_row (high h) a = of_held h a
      of_row (node h k d r) a =
          let Q : K × List ℕ → Type 0 = λ p. P p.0 in
          each-append OfBounds (held_ranges format bytes_of h) (row_ranges format bytes_of r)
          (of_held h (each-before Q (held_pairs h) ((k, d) ∷ row_pairs r) a)) (of_row r (each-behind Q (held_pairs h) ((k, d) ∷ row_pairs r) a).1)

      pub of_held : (h : Held K (List ℕ)) → OfKeys (held_pairs h) → AllByRecursion OfBounds (held_ranges format bytes_of h)
      of_held nothing a = tt
      of_held (below t) a = of_tree t a

module _ {K D : Type 0} (cmp : K → K → Ordering) where
  -- k is from the first to the last key of the pairs, where there are such
  abbrev pub InSpan : K → List (K × D) → Type 0
  InSpan k [] = ⊤
  InSpan k (p ∷ ps) = Upto cmp p.0 k × Upto cmp k (last_key p.0 ps)

  module _ (o : IsTotalOrder cmp) where
    up_last : (k : K) (p : K × D) (ps : List (K × D)) → Upto cmp k p.0 → IsMap cmp (p ∷ ps) → Upto cmp k (last_key p.0 ps)
    up_last k p [] h m = h
    up_last k p (q ∷ qs) h m = up_last k q qs (up_up cmp o k p.0 q.0 h (low_is_up cmp o p.0 q.0 m.0.0)) m.1

    -- the first key is at most the last
    pub first_last : (p : K × D) (ps : List (K × D)) → IsMap cmp (p ∷ ps) → Upto cmp p.0 (last_key p.0 ps)
    first_last p ps m = up_last p.0 p ps (up_self cmp o p.0) m

    up_to_last : (p : K × D) (ps : List (K × D)) → IsMap cmp (p ∷ ps) → AllByRecursion (λ q. Upto cmp q.0 (last_key p.0 ps)) (p ∷ ps)
    up_to_last p [] m = (up_self cmp o p.0, tt)
    up_to_last p (q ∷ qs) m = (first_last p (q ∷ qs) m, up_to_last q qs m.1)

    from_first : (f : K) (ps : List (K × D)) → AllByRecursion (λ q. Below cmp f q.0) ps → AllByRecursion (λ q. Upto cmp f q.0) ps
    from_first f [] a = tt
    from_first f (p ∷ ps) a = (low_is_up cmp o f p.0 a.0, from_first f ps a.1)

    both : (f l : K) (ps : List (K × D)) → AllByRecursion (λ q. Upto cmp f q.0) ps → AllByRecursion (λ q. Upto cmp q.0 l) ps → AllByRecursion (λ q. Upto cmp f q.0 × Upto cmp q.0 l) ps
    both f l [] a b = tt
    both f l (p ∷ ps) a b = ((a.0, b.0), both f l ps a.1 b.1)

    -- each key is from the first to the last
    pub each_in_span : (ps : List (K × D)) → IsMap cmp ps → AllByRecursion (λ q. InSpan q.0 ps) ps
    each_in_span [] m = tt
    each_in_span (p ∷ ps) m = both p.0 (last_key p.0 ps) (p ∷ ps) (up_self cmp o p.0, from_first p.0 ps m.0) (up_to_last p ps m)
