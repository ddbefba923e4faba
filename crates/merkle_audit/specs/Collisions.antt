-- What faithful digests tell of collisions.
use Rattle.std.specs.Prelude.{◌≡◌, ℕ}
use Rattle.merkle_replica.specs.Contents.{Side}
use Rattle.merkle_replica.specs.Faithful.{AreSetAlike, HasSmallMap, IsCollisionFree}
use Rattle.merkle_replica.specs.Laws.{Laws}
use Rattle.merkle_tree_theory.specs.declared.page_format.PageFormat.TheVariants.{V2}

module _ {K V H : Type 0} (laws : Laws K V H) where
  -- if the sides are set alike, in format 2, and their maps are small, neither streams of their pages nor values collide
  abbrev pub IsFreeWhereSmall : Side K V H → Side K V H → Type 0
  IsFreeWhereSmall a b = (n : ℕ) → AreSetAlike laws a b → a.format ≡ V2 → HasSmallMap laws n a → HasSmallMap laws n b → IsCollisionFree laws n a b
