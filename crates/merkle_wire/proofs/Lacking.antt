-- What a side lacks of what came, and what a key or a question has to do with gaps.
use Rattle.std.specs.Prelude.{List, [], ◌++◌, Bool, not}
use Rattle.std.specs.List.{AllByRecursion, filter}
use Rattle.std.specs.declared.cmp.Ordering.{Ordering}
use Rattle.key_order.specs.Order.{AnyByRecursion}
use Rattle.merkle_replica.specs.Contents.{Side}
use Rattle.merkle_replica.specs.Laws.{Laws}
use Rattle.merkle_tree_theory.specs.Gap.{IsInGap}
use Rattle.merkle_wire.specs.Gaps.{HasKeyBounds, owned_gap}
use Rattle.merkle_wire.specs.Taking.{has_digest}
use Rattle.merkle_wire.specs.Underway.{Found}
use Rattle.merkle_wire.specs.declared.gaps.OwnedGap.{OwnedGap}

module _ {K V H : Type 0} (laws : Laws K V H) (local : Side K V H) where
  -- whether the side has the key of a row with the digest of the row's value
  abbrev pub has_row : K × V → Bool
  has_row row = has_digest laws local row.0 (laws.value_digest local.hasher row.1)

  -- the rows that it doesn't have
  abbrev pub new_rows : List (K × V) → List (K × V)
  new_rows = filter (λ row. not (has_row row))

-- the key is in one of the gaps
abbrev pub IsInOneOf : {K : Type 0} → (K → K → Ordering) → List (OwnedGap K) → K → Type 0
IsInOneOf cmp gaps k = AnyByRecursion (λ g. IsInGap cmp k (owned_gap g)) gaps

-- gaps between keys that are values
abbrev pub AreGaps : {K : Type 0} → (K → Type 0) → List (OwnedGap K) → Type 0
AreGaps is_value = AllByRecursion (λ g. HasKeyBounds is_value (owned_gap g))

-- of the pages below all rows are to be asked for
abbrev pub all_whole : {K V : Type 0} → Found K V → Found K V
all_whole f = record f { below = []; whole = f.whole ++ f.below }
