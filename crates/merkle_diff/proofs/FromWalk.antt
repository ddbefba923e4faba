-- From the marks to the answer.
use Rattle.std.proofs.Common.{◌≡◌, List, [], ◌∷◌, Some, None, ◌∙◌, ap, subst}
use Rattle.std.specs.List.{AllByRecursion}
use Rattle.std.specs.declared.cmp.Ordering.{Ordering}
use Rattle.merkle_diff.specs.declared.page_range.PageRange.{PageRange}
use Rattle.key_order.specs.Interval.{Span, IsOrdered}
use Rattle.merkle_diff.specs.Entry.{span_of}
use Rattle.merkle_diff.specs.Merge.{IsMerge}
use Rattle.merkle_diff.specs.Cut.{IsExactCut}
use Rattle.merkle_diff.specs.PageRange.{entry, entries}
use Rattle.merkle_diff.specs.Turn.{Walked}
use Rattle.merkle_diff.specs.Difference.{IsByWalk}
use Rattle.merkle_diff.proofs.Queues.{front_of}

pub entries-ordered : {K o e p : _} (rs : List (PageRange K o e p)) → AllByRecursion (λ x. IsOrdered o.cmp (span_of x)) (entries rs)
entries-ordered [] = tt
entries-ordered (r ∷ rs) = (r.ordered, entries-ordered rs)

pub by-walk : {K : Type 0} {o e p : _} (cmp : K → K → Ordering) (ls ps : List (PageRange K o e p)) (first : PageRange K o e p) (s : Span K) (mb mg bad good found : List (Span K))
    → Some first ≡ front_of ps → s ≡ span_of (entry first) → Walked cmp s (entries ls) (entries ps) mb mg → IsMerge cmp mb bad → IsMerge cmp mg good
    → IsExactCut cmp bad good found → IsByWalk cmp (entries ls) (entries ps) found
by-walk cmp ls [] first s mb mg bad good found f e w b g c = cc
by-walk cmp ls (x ∷ ps) first s mb mg bad good found f e w b g c =
    let q : first ≡ x = cc in
    let v = subst (λ z. Walked cmp z (entries ls) (entries (x ∷ ps)) mb mg) (e ∙ ap (λ r. span_of (entry r)) q) w in
    (v.0, v.1, v.2, bad, good, v.3, subst (λ z. IsMerge cmp z bad) v.4 b, subst (λ z. IsMerge cmp z good) v.5 g, c)

pub none-by_walk : {K : Type 0} {o e p : _} (cmp : K → K → Ordering) (ls ps : List (PageRange K o e p)) (found : List (Span K)) → front_of ps ≡ None
    → found ≡ [] → IsByWalk cmp (entries ls) (entries ps) found
none-by_walk cmp ls [] found f h = h
none-by_walk cmp ls (x ∷ ps) found f h = cc
