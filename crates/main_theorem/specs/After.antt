-- What a list of updates of a replica leads to, each of which was accepted or not.
use Rattle.std.specs.Prelude.{◌≡◌, ⊤, ◌⊎◌, ℕ, Bool, true, false, List, [], ◌∷◌, Option, Some, None}
use Rattle.std.specs.declared.cmp.Ordering.{Ordering}
use Rattle.key_order.specs.Map.{get, set, has_key, del}
use Rattle.merkle_diff.specs.Entry.{Entry}
use Rattle.merkle_diff.specs.SameEntries.{SameEntries}
use Rattle.merkle_tree_theory.specs.Canonical.{SamePages}
use Rattle.merkle_tree_theory.specs.State.{State, HasSettings}
use Rattle.merkle_search_tree.specs.Loading.{digests}
use Rattle.merkle_tree_theory.specs.Ranges.{ranges_of}
use Rattle.merkle_tree_theory.specs.Remove.{HasFreeGap}
use Rattle.merkle_tree_theory.specs.Settings.{Settings}
use Rattle.merkle_tree_theory.specs.Stream.{page_digest}
use Rattle.merkle_tree_theory.specs.Tree.{Tree}
use Rattle.merkle_tree_theory.specs.TreeOf.{defined_tree}
use Rattle.merkle_search_tree.specs.declared.updates.Update.{Update}
use Rattle.merkle_search_tree.specs.declared.updates.Update.TheVariants.{Upsert, Remove, RootHash}
use Rattle.merkle_replica.specs.Agreeing.{AreEqual}
use Rattle.merkle_replica.specs.Contents.{Contents}
use Rattle.merkle_replica.specs.Laws.{Laws}

-- a value joined to the one that is there, where there is one
abbrev pub join_to : {V : Type 0} → (V → V → V) → Option V → V → V
join_to join None v = v
join_to join (Some w) v = join w v

module _ {K V : Type 0} (cmp : K → K → Ordering) (join : V → V → V) where
  -- the map after one update: an accepted upsert joins its value at its key, an accepted removal takes out the row of its key, and
  -- nothing else changes the map
  abbrev pub rows_after_one : List (K × V) → Update K V → Bool → List (K × V)
  rows_after_one m (Upsert k v) true = set cmp m k (join_to join (get cmp m k) v)
  rows_after_one m (Upsert k v) false = m
  rows_after_one m (Remove k) true = del cmp m k
  rows_after_one m (Remove k) false = m
  rows_after_one m RootHash accepted = m

  -- the map after the updates
  abbrev pub rows_after_all : List (K × V) → List (Update K V) → List Bool → List (K × V)
  rows_after_all m [] accepted = m
  rows_after_all m (u ∷ us) [] = m
  rows_after_all m (u ∷ us) (a ∷ accepted) = rows_after_all (rows_after_one m u a) us accepted

  -- the map of the accepted updates, from the empty one on
  abbrev pub rows_after : List (Update K V) → List Bool → List (K × V)
  rows_after = rows_after_all []

-- the settings of a tree
abbrev pub settings_of : {K H : Type 0} → State K H → Settings H
settings_of tree = record { hasher = tree.hasher; base = tree.base; format = tree.format }

module _ {K V H : Type 0} (laws : Laws K V H) where
  -- the tree that a map defines under the settings of a builder, its page ranges, and its root hash
  abbrev pub tree_by_settings : Settings H → List (K × V) → Tree K (List ℕ)
  tree_by_settings s m = defined_tree (laws.key_digest s.hasher) s.base (digests (laws.value_digest s.hasher) m)

  abbrev pub page_ranges_under : Settings H → List (K × V) → List (Entry K (List ℕ))
  page_ranges_under s m = ranges_of s.format laws.bytes_of (tree_by_settings s m)

  abbrev pub root_hash_under : Settings H → List (K × V) → List ℕ
  root_hash_under s m = page_digest s.format laws.bytes_of (tree_by_settings s m)

  -- the tree has the root hash that a map defines
  abbrev pub HasRootHashOf : Settings H → List (K × V) → State K H → Type 0
  HasRootHashOf s m tree = tree.root_hash ≡ Some (root_hash_under s m)

  -- the new tree has the root hash that the old rows define under the old settings
  abbrev pub IsHashedLast : Contents K V H → Contents K V H → Type 0
  IsHashedLast old new = HasRootHashOf (settings_of old.tree) old.rows new.tree

  -- whatever map the old rows equal, the new ones equal the map after the update
  abbrev pub IsCarriedOut : Update K V → Bool → List (K × V) → List (K × V) → Type 0
  IsCarriedOut update accepted old new =
      (m : List (K × V)) → AreEqual laws.cmp laws.eq old m → AreEqual laws.cmp laws.eq new (rows_after_one laws.cmp laws.join m update accepted)

  -- an update that takes no memory was accepted: hashing, and a removal of a key that the map hasn't, or beside which a gap is empty in the
  -- tree that the map defines
  abbrev pub IsFreeUpdateAccepted : Settings H → List (K × V) → Update K V → Bool → Type 0
  IsFreeUpdateAccepted s m (Upsert k v) accepted = ⊤
  IsFreeUpdateAccepted s m (Remove k) accepted = (has_key laws.cmp m k ≡ false) ⊎ HasFreeGap laws.cmp k (tree_by_settings s m) → accepted ≡ true
  IsFreeUpdateAccepted s m RootHash accepted = accepted ≡ true

  -- so was each of the updates, from the map m on
  abbrev pub FreeUpdatesAreAccepted : Settings H → List (K × V) → List (Update K V) → List Bool → Type 0
  FreeUpdatesAreAccepted s m [] accepted = ⊤
  FreeUpdatesAreAccepted s m (u ∷ us) [] = ⊤
  FreeUpdatesAreAccepted s m (u ∷ us) (a ∷ accepted) = IsFreeUpdateAccepted s m u a × FreeUpdatesAreAccepted s (rows_after_one laws.cmp laws.join m u a) us accepted

  -- so was an update of a tree whose rows are equal to a map, under the settings of the tree
  abbrev pub IsAcceptedBy : Contents K V H → Update K V → Bool → Type 0
  IsAcceptedBy replica update accepted = (s : Settings H) (m : List (K × V)) → HasSettings s replica.tree
      → AreEqual laws.cmp laws.eq replica.rows m → IsFreeUpdateAccepted s m update accepted

  -- a tree has the pages of the one that a map defines, apart from caches, its page ranges, and its root hash
  pub record IsDefinedBy (s : Settings H) (m : List (K × V)) (tree : State K H) : Type 0 where
    pub pages : SamePages laws.cmp tree.root (tree_by_settings s m)
    pub ranges : SameEntries laws.cmp (ranges_of tree.format laws.bytes_of tree.root) (page_ranges_under s m)
    pub root_hash : tree.root_hash ≡ Some (root_hash_under s m)

  -- the tree is the one that any map defines which the rows of a hashed replica equal, under the settings of the replica
  abbrev pub IsDefinedTreeOf : Contents K V H → State K H → Type 0
  IsDefinedTreeOf replica tree = (s : Settings H) (m : List (K × V)) → HasSettings s replica.tree → HasRootHashOf s replica.rows replica.tree
      → AreEqual laws.cmp laws.eq replica.rows m → IsDefinedBy s m tree
