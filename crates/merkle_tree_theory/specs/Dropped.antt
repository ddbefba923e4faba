-- How many cached digests an update of a tree drops.
use Rattle.std.specs.Prelude.{ℕ, ◌+◌, ◌≤◌, List}
use Rattle.merkle_digest.specs.Level.{level_of}
use Rattle.merkle_tree_theory.specs.Cache.{uncached_pages}
use Rattle.merkle_tree_theory.specs.Page.{level}
use Rattle.merkle_tree_theory.specs.State.{State}

module _ {K H : Type 0} where
  -- an upsert of a key with this digest: at most level of the new root + level of the key + 1 pages more than before lack a digest
  abbrev pub UpsertDropsFew : List ℕ → State K H → State K H → Type 0
  UpsertDropsFew digest old new = uncached_pages new.root ≤ uncached_pages old.root + (level new.root + level_of digest old.base + 1)

  -- a removal: at most level of the old root + 1 pages more than before lack a digest
  abbrev pub RemovalDropsFew : State K H → State K H → Type 0
  RemovalDropsFew old new = uncached_pages new.root ≤ uncached_pages old.root + (level old.root + 1)
