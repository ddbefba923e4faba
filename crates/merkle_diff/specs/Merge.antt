-- The merge of a list of spans: those that meet become one.
use Rattle.std.specs.Prelude.{◌↔◌, List, [], ◌∷◌, map, ⊤}
use Rattle.std.specs.List.{AllByRecursion}
use Rattle.std.specs.declared.cmp.Ordering.{Ordering}
use Rattle.key_order.specs.Order.{AnyByRecursion, Upto, Below, Same, IsAscending}
use Rattle.key_order.specs.Interval.{Span, SameSpan, IsCovered}

module _ {K : Type 0} (cmp : K → K → Ordering) where
  -- no span of the list has first < k <= last
  abbrev pub Opens : List (Span K) → K → Type 0
  Opens ss k = AllByRecursion (λ s. ¬ (Below cmp s.first k × Upto cmp k s.last)) ss

  -- no span of the list has first <= k < last
  abbrev pub Closes : List (Span K) → K → Type 0
  Closes ss k = AllByRecursion (λ s. ¬ (Upto cmp s.first k × Below cmp k s.last)) ss

  -- `ks` are, up to equality, the keys of `from` at which `P` holds, ascending, each once
  pub record AreThose (from : List K) (P : K → Type 0) (ks : List K) : Type 0 where
    pub ascends : IsAscending cmp ks
    pub sound : AllByRecursion (λ k. AnyByRecursion (λ j. Same cmp k j × P j) from) ks
    pub complete : AllByRecursion (λ j. P j → AnyByRecursion (Same cmp j) ks) from

  -- the starts of `merged` are the starts of the list that open, and its ends are the ends that close, paired place by place
  pub record IsMerge (ss merged : List (Span K)) : Type 0 where
    pub starts : AreThose (map (λ s. s.first) ss) (Opens ss) (map (λ s. s.first) merged)
    pub ends : AreThose (map (λ s. s.last) ss) (Closes ss) (map (λ s. s.last) merged)

  -- the same spans, place by place
  abbrev pub SameSpans : List (Span K) → List (Span K) → Type 0
  SameSpans [] [] = ⊤
  SameSpans [] (t ∷ ts) = ⊥
  SameSpans (s ∷ ss) [] = ⊥
  SameSpans (s ∷ ss) (t ∷ ts) = SameSpan cmp s t × SameSpans ss ts

  -- a key is in a span of the one list exactly if it is in a span of the other
  abbrev pub CoverSameKeys : List (Span K) → List (Span K) → Type 0
  CoverSameKeys ss ts = (k : K) → IsCovered cmp k ss ↔ IsCovered cmp k ts
