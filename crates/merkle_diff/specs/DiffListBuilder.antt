-- A builder of a list of ranges to ask for as the spans that it was told.
use Rattle.std.specs.Prelude.{List}
use Rattle.std.specs.declared.cmp.Ordering.{Ordering}
use Rattle.key_order.specs.Interval.{Span}
use Rattle.merkle_diff.specs.Cut.{IsExactCut, IsCut}
use Rattle.merkle_diff.specs.Merge.{IsMerge}
use Rattle.merkle_diff.specs.declared.diff_builder.DiffListBuilder.{DiffListBuilder}

-- the spans that were marked inconsistent, in this order
abbrev pub inconsistent_spans : {K : Type 0} → DiffListBuilder K → List (Span K)
inconsistent_spans builder = builder.inconsistent

-- the spans that were marked consistent, in this order
abbrev pub consistent_spans : {K : Type 0} → DiffListBuilder K → List (Span K)
consistent_spans builder = builder.consistent

module _ {K : Type 0} (cmp : K → K → Ordering) where
  -- the merge of the consistent spans is cut out of the merge of the inconsistent ones: the exact cut, and its laws
  pub record IsDiffList (inconsistent consistent found : List (Span K)) : Type 0 where
    pub bad : List (Span K)
    pub good : List (Span K)
    pub bad_merged : IsMerge cmp inconsistent bad
    pub good_merged : IsMerge cmp consistent good
    pub exact : IsExactCut cmp bad good found
    pub laws : IsCut cmp bad good found
