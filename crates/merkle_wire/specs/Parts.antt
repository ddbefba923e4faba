-- Rows in a gap that are told one after the other.
use Rattle.std.specs.Prelude.{◌≡◌, ◌≢◌, ◌⊎◌, ℕ, ◌+◌, ◌-◌, ◌<◌, List, [], ◌++◌, length, map, take, nat_lt, Bool, true, false}
use Rattle.std.specs.Global.{Vec}
use Rattle.std.specs.declared.cmp.Ordering.{Ordering}
use Rattle.merkle_bytes.specs.Runs.{bound_key, row_behind, row_key, state_behind}
use Rattle.merkle_tree_theory.specs.Gap.{pairs_within}
use Rattle.merkle_wire.specs.Gaps.{owned_gap}
use Rattle.merkle_wire.specs.Replies.{rows_bytes}
use Rattle.merkle_wire.specs.Steps.{TellsPart}
use Rattle.merkle_wire.specs.declared.gaps.OwnedGap.{OwnedGap}

-- rows that are told so far: how many bytes they may have, how many rows they are, the last key, and their bytes
pub record PartSoFar : Type 0 where
  pub room : ℕ
  pub count : ℕ
  pub last : List ℕ
  pub bytes : List ℕ

-- these rows are told after those of before, each but the first while there is room, and this is whether there is room for more
pub record HasTold {K V : Type 0} (encoding : K → List ℕ) (values : V → List ℕ) (old new : PartSoFar) (rows : List (K × V)) (more : Bool) : Type 0 where
  pub room : new.room ≡ old.room
  pub count : new.count ≡ old.count + length rows
  pub last : new.last ≡ state_behind (row_behind encoding values) (row_key encoding) old.last rows
  pub bytes : new.bytes ≡ old.bytes ++ rows_bytes encoding values old.last rows
  pub fits : (i : ℕ) → i ≢ 0 → i < length rows → length (old.bytes ++ rows_bytes encoding values old.last (take i rows)) < old.room
  pub goes_on : ((rows ≡ []) × (more ≡ true)) ⊎ (more ≡ nat_lt (length new.bytes) new.room)

-- a message ends with rows of a gap: a part of whatever rows begin so there, as they are told, where these are all, or some and there is no room for more
abbrev pub EndsPart : {K V : Type 0} → (K → K → Ordering) → (K → List ℕ) → (V → List ℕ) → PartSoFar → Bool → Vec ℕ → Vec ℕ → Type 0
EndsPart {K} {V} cmp encoding values part whole old new = (most : ℕ) (gap : OwnedGap K) (rows all : List (K × V)) (others : List (List ℕ × List ℕ)) (more : Bool)
    → HasTold encoding values (record { room = most - length old.items; count = 0; last = bound_key encoding [] gap.after; bytes = [] }) part rows more
    → (let told = map (λ (row : K × V). (encoding row.0, values row.1)) in told (pairs_within cmp (owned_gap gap) all) ≡ told rows ++ others)
    → (whole ≡ true → others ≡ []) → (whole ≡ false → (rows ≢ []) × (more ≡ false)) → TellsPart cmp encoding values all most gap old new
