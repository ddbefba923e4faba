-- Ranges that share at most a bound with the next.
use Rattle.std.proofs.Common.{Bool, true, false, List, [], ◌∷◌, ◌++◌, if◌then◌else◌}
use Rattle.std.specs.Cmp.{IsTotalOrder}
use Rattle.std.specs.List.{AllByRecursion, flat_map}
use Rattle.std.specs.declared.cmp.Ordering.{Ordering}
use Rattle.key_order.specs.Interval.{Span, IsOrdered, IsApart, meets}
use Rattle.key_order.specs.Order.{Upto, Below, below}
use Rattle.merkle_diff.specs.Cut.{piece, cut_one}
use Rattle.key_order.proofs.Orders.{up_up, low_is_up, up_self}
use Rattle.key_order.proofs.ListParts.{each-append}
use Rattle.merkle_diff.proofs.Ascents.{IsAscendingByStart}
use Rattle.merkle_diff.proofs.Cuts.{each-piece, each-cut}
use Rattle.merkle_diff.proofs.Each.{each-with}

module _ {K : Type 0} (cmp : K → K → Ordering) where
  -- no range ends above a later start
  abbrev pub Touches : List (Span K) → Type 0
  Touches [] = Unit {0}
  Touches (s ∷ ss) = AllByRecursion (λ t. Upto cmp s.last t.first) ss × Touches ss

module _ {K : Type 0} (cmp : K → K → Ordering) (o : IsTotalOrder cmp) where
  pub apart-touches : (ss : List (Span K)) → IsApart cmp ss → Touches cmp ss
  apart-touches [] a = tt
  apart-touches (s ∷ ss) a = (each-with (λ t. Below cmp s.last t.first) (λ t. Upto cmp s.last t.first) ss (λ t b. low_is_up cmp o s.last t.first b) a.0, apart-touches ss a.1)

  pub touches-ascends : (ss : List (Span K)) → AllByRecursion (IsOrdered cmp) ss → Touches cmp ss → IsAscendingByStart cmp ss
  touches-ascends [] d a = tt
  touches-ascends (s ∷ ss) d a = (each-with (λ t. Upto cmp s.last t.first) (λ t. Upto cmp s.first t.first) ss (λ t u. up_up cmp o s.first s.last t.first d.0 u) a.0, touches-ascends ss d.1 a.1)

  touches-append : (xs ys : List (Span K)) → Touches cmp xs → Touches cmp ys → AllByRecursion (λ s. AllByRecursion (λ t. Upto cmp s.last t.first) ys) xs → Touches cmp (xs ++ ys)
  touches-append [] ys a b c = b
  touches-append (x ∷ xs) ys a b c = (each-append (λ t. Upto cmp x.last t.first) xs ys a.0 c.0, touches-append xs ys a.1 b c.1)

  -- the pieces of a range are within it
  one-within : (g s : Span K) → AllByRecursion (λ t. Upto cmp s.first t.first × Upto cmp t.last s.last) (cut_one cmp g s)
  one-within g s = each-cut cmp o (λ t. Upto cmp s.first t.first × Upto cmp t.last s.last) g s (up_self cmp o s.first, up_self cmp o s.last)
      (λ m b. (up_self cmp o s.first, m.0)) (λ m b. (m.1, up_self cmp o s.last))

  piece-touches : (a b : K) → Touches cmp (piece cmp a b)
  piece-touches a b = go (below cmp a b)
    where
      go : (t : Bool) → Touches cmp (if t then (record { first = a; last = b } ∷ []) else [])
      go true = (tt, tt)
      go false = tt

  one-touches : (g s : Span K) → IsOrdered cmp g → Touches cmp (cut_one cmp g s)
  one-touches g s d = go (meets cmp g s)
    where
      go : (t : Bool) → Touches cmp (if t then (piece cmp s.first g.first ++ piece cmp g.last s.last) else (s ∷ []))
      go true = touches-append (piece cmp s.first g.first) (piece cmp g.last s.last) (piece-touches s.first g.first) (piece-touches g.last s.last)
          (each-piece cmp o (λ s'. AllByRecursion (λ t. Upto cmp s'.last t.first) (piece cmp g.last s.last)) s.first g.first
          (λ b. each-piece cmp o (λ t. Upto cmp g.first t.first) g.last s.last (λ c. d)))
      go false = (tt, tt)

  pub flat-touches : (g : Span K) (ss : List (Span K)) → IsOrdered cmp g → Touches cmp ss → Touches cmp (flat_map (cut_one cmp g) ss)
  flat-touches g [] d a = tt
  flat-touches g (s ∷ ss) d a =
      touches-append (cut_one cmp g s) (flat_map (cut_one cmp g) ss) (one-touches g s d) (flat-touches g ss d a.1)
      (each-with (λ t. Upto cmp s.first t.first × Upto cmp t.last s.last) (λ x. AllByRecursion (λ t. Upto cmp x.last t.first) (flat_map (cut_one cmp g) ss)) (cut_one cmp g s)
      (λ x w. each-with (λ t. Upto cmp s.last t.first) (λ t. Upto cmp x.last t.first) (flat_map (cut_one cmp g) ss) (λ t u. up_up cmp o x.last s.last t.first w.1 u)
      (after s.last ss a.0)) (one-within g s))
    where
      after : (e : K) (ts : List (Span K)) → AllByRecursion (λ t. Upto cmp e t.first) ts → AllByRecursion (λ t. Upto cmp e t.first) (flat_map (cut_one cmp g) ts)
      after e [] h = tt
      after e (t ∷ ts) h = each-append (λ x. Upto cmp e x.first) (cut_one cmp g t) (flat_map (cut_one cmp g) ts)
          (each-with (λ x. Upto cmp t.first x.first × Upto cmp x.last t.last) (λ x. Upto cmp e x.first) (cut_one cmp g t)
          (λ x w. up_up cmp o e t.first x.first h.0 w.0) (one-within g t)) (after e ts h.1)
