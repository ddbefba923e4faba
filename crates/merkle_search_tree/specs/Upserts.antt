-- What an upsert leaves.
use Rattle.std.specs.Prelude.{◌≡◌, ◌≢◌, ℕ, ◌+◌, ◌≤◌, List, None}
use Rattle.std.specs.declared.cmp.Ordering.{Ordering}
use Rattle.key_order.specs.Map.{set}
use Rattle.merkle_digest.specs.Level.{level_of}
use Rattle.merkle_tree_theory.specs.Cache.{uncached_pages}
use Rattle.merkle_tree_theory.specs.Page.{level}
use Rattle.merkle_tree_theory.specs.State.{State, map_of}

-- the map has the key with the digest of the value
abbrev pub SetsKey : {K V H : Type 0} → (K → K → Ordering) → (H → V → List ℕ) → State K H → K → V → State K H → Type 0
SetsKey cmp value_digest old key value new = map_of new ≡ set cmp (map_of old) key (value_digest old.hasher value)

-- where the old tree was hashed, at most level of the new root + level of a key with this digest + 1 pages lack a digest
abbrev pub FewAreMissing : {K H : Type 0} → List ℕ → State K H → State K H → Type 0
FewAreMissing digest old new = old.root_hash ≢ None → uncached_pages new.root ≤ level new.root + level_of digest old.base + 1
