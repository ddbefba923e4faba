-- What a list of updates leads to, each of which was accepted or not.
use Rattle.std.specs.Prelude.{◌≡◌, ⊤, ℕ, Bool, true, false, List, [], ◌∷◌, Option, Some, None, is_some, if◌then◌else◌}
use Rattle.std.specs.declared.alloc.Global.{Global}
use Rattle.std.specs.declared.cmp.Ordering.{Ordering}
use Rattle.std.specs.declared.vec.Vec.{Vec}
use Rattle.key_order.specs.Map.{set, has_key, del}
use Rattle.merkle_diff.specs.SameEntries.{SameEntries}
use Rattle.merkle_tree_theory.specs.Canonical.{SamePages}
use Rattle.merkle_tree_theory.specs.Ranges.{ranges_of}
use Rattle.merkle_tree_theory.specs.Settings.{Settings}
use Rattle.merkle_tree_theory.specs.State.{State, map_of}
use Rattle.merkle_tree_theory.specs.Stream.{page_digest}
use Rattle.merkle_tree_theory.specs.Tree.{Tree}
use Rattle.merkle_tree_theory.specs.TreeOf.{defined_tree}
use Rattle.merkle_search_tree.specs.declared.updates.Update.{Update}
use Rattle.merkle_search_tree.specs.declared.updates.Update.TheVariants.{Upsert, Remove, RootHash}

module _ {K V : Type 0} (cmp : K → K → Ordering) (digest_of : V → List ℕ) where
  -- the map after one update: an accepted upsert sets its key to the digest of its value, an accepted removal takes out the pair of its
  -- key, and nothing else changes the map
  abbrev pub map_after_one : List (K × List ℕ) → Update K V → Bool → List (K × List ℕ)
  map_after_one m (Upsert k v) true = set cmp m k (digest_of v)
  map_after_one m (Upsert k v) false = m
  map_after_one m (Remove k) true = del cmp m k
  map_after_one m (Remove k) false = m
  map_after_one m RootHash accepted = m

  -- the map after the updates
  abbrev pub map_after : List (K × List ℕ) → List (Update K V) → List Bool → List (K × List ℕ)
  map_after m [] accepted = m
  map_after m (u ∷ us) [] = m
  map_after m (u ∷ us) (a ∷ accepted) = map_after (map_after_one m u a) us accepted

  -- whether the tree is hashed after one update: an accepted upsert forgets the root hash, and so does an accepted removal of a key that
  -- the map has
  abbrev pub hashed_after_one : List (K × List ℕ) → Bool → Update K V → Bool → Bool
  hashed_after_one m hashed (Upsert k v) true = false
  hashed_after_one m hashed (Upsert k v) false = hashed
  hashed_after_one m hashed (Remove k) true = if (has_key cmp m k) then false else hashed
  hashed_after_one m hashed (Remove k) false = hashed
  hashed_after_one m hashed RootHash accepted = true

  -- whether the tree is hashed after the updates, from the map m on
  abbrev pub hashed_after : List (K × List ℕ) → Bool → List (Update K V) → List Bool → Bool
  hashed_after m hashed [] accepted = hashed
  hashed_after m hashed (u ∷ us) [] = hashed
  hashed_after m hashed (u ∷ us) (a ∷ accepted) = hashed_after (map_after_one m u a) (hashed_after_one m hashed u a) us accepted

  -- an update that takes no memory was accepted: an upsert of a key that the map has, a removal of a key that it hasn't, and hashing
  abbrev pub IsAcceptedIfFree : List (K × List ℕ) → Update K V → Bool → Type 0
  IsAcceptedIfFree m (Upsert k v) accepted = has_key cmp m k ≡ true → accepted ≡ true
  IsAcceptedIfFree m (Remove k) accepted = has_key cmp m k ≡ false → accepted ≡ true
  IsAcceptedIfFree m RootHash accepted = accepted ≡ true

  -- so was each of the updates, from the map m on
  abbrev pub FreeAreAccepted : List (K × List ℕ) → List (Update K V) → List Bool → Type 0
  FreeAreAccepted m [] accepted = ⊤
  FreeAreAccepted m (u ∷ us) [] = ⊤
  FreeAreAccepted m (u ∷ us) (a ∷ accepted) = IsAcceptedIfFree m u a × FreeAreAccepted (map_after_one m u a) us accepted

module _ {K V H : Type 0} (cmp : K → K → Ordering) (value_digest : H → V → List ℕ) where
  -- the map of the new tree is that of the old one after the update
  abbrev pub HasMapAfterOne : State K H → Update K V → Bool → State K H → Type 0
  HasMapAfterOne old update accepted new = map_of new ≡ map_after_one cmp (value_digest old.hasher) (map_of old) update accepted

  -- the new tree is hashed where the old one is after the update
  abbrev pub IsHashedAfterOne : State K H → Update K V → Bool → State K H → Type 0
  IsHashedAfterOne old update accepted new =
      is_some new.root_hash ≡ hashed_after_one cmp (value_digest old.hasher) (map_of old) (is_some old.root_hash) update accepted

  -- the update was accepted, if it takes no memory on the tree
  abbrev pub AcceptsIfFree : State K H → Update K V → Bool → Type 0
  AcceptsIfFree old update accepted = IsAcceptedIfFree cmp (value_digest old.hasher) (map_of old) update accepted

  -- from the empty tree of a builder on, each of the updates that takes no memory was accepted
  abbrev pub AcceptsTheFree : Settings H → List (Update K V) → State K H × Vec Bool Global → Type 0
  AcceptsTheFree builder updates answer = FreeAreAccepted cmp (value_digest builder.hasher) [] updates answer.1.items

  -- the map of the tree is that after the updates
  abbrev pub HasMapAfter : Settings H → List (Update K V) → State K H × Vec Bool Global → Type 0
  HasMapAfter builder updates answer = map_of answer.0 ≡ map_after cmp (value_digest builder.hasher) [] updates answer.1.items

module _ {K V H : Type 0} (cmp : K → K → Ordering) (key_digest : H → K → List ℕ) (value_digest : H → V → List ℕ) where
  -- the tree that the updates lead to, from the empty one of a builder on: that of the map after them
  abbrev pub tree_after : Settings H → List (Update K V) → List Bool → Tree K (List ℕ)
  tree_after s us accepted = defined_tree (key_digest s.hasher) s.base (map_after cmp (value_digest s.hasher) [] us accepted)

  -- the root hash that is cached then: the digest of that tree's root page, where the tree is hashed
  abbrev pub root_hash_after : (K → List ℕ) → Settings H → List (Update K V) → List Bool → Option (List ℕ)
  root_hash_after bytes_of s us accepted =
      if (hashed_after cmp (value_digest s.hasher) [] false us accepted) then (Some (page_digest s.format bytes_of (tree_after s us accepted))) else None

  -- the pages of the tree are those of the tree that the updates lead to
  abbrev pub HasPagesAfter : Settings H → List (Update K V) → State K H × Vec Bool Global → Type 0
  HasPagesAfter builder updates answer = SamePages cmp answer.0.root (tree_after builder updates answer.1.items)

  -- so are its page ranges
  abbrev pub HasRangesAfter : (K → List ℕ) → Settings H → List (Update K V) → State K H × Vec Bool Global → Type 0
  HasRangesAfter bytes_of builder updates answer =
      SameEntries cmp (ranges_of builder.format bytes_of answer.0.root)
      (ranges_of builder.format bytes_of (tree_after builder updates answer.1.items))

  -- the tree has the root hash that is cached then
  abbrev pub HasRootHashAfter : (K → List ℕ) → Settings H → List (Update K V) → State K H × Vec Bool Global → Type 0
  HasRootHashAfter bytes_of builder updates answer = answer.0.root_hash ≡ root_hash_after bytes_of builder updates answer.1.items
