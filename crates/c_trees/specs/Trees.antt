-- What a tree of byte strings is, and what the calls do to it.
use Rattle.std.specs.Prelude.{◌≡◌, ℕ, List}
use Rattle.std.specs.Global.{Vec}
use Rattle.key_order.specs.Order.{Same}
use Rattle.merkle_digest.specs.SipHash.{siphash128}
use Rattle.merkle_tree_theory.specs.Copy.{IsCopy}
use Rattle.merkle_tree_theory.specs.Dropped.{UpsertDropsFew}
use Rattle.merkle_tree_theory.specs.State.{State, SameSettings}
use Rattle.c_trees.specs.Keys.{Hashing, key_digest}
use Rattle.c_values.specs.Keys.{bytes_cmp, pairs_of}
use Rattle.c_values.specs.Trees.{IsSetTo}

-- a tree whose keys are byte strings and whose hasher is SipHash
abbrev pub ByteState : Type 0
ByteState = State (Vec ℕ) Hashing

-- the map and the settings stay
pub record SamePairs (old new : ByteState) : Type 0 where
  pub rows : pairs_of new ≡ pairs_of old
  pub settings : SameSettings old new

-- the map has the key with the digest of the value
abbrev pub IsSet : List ℕ → List ℕ → ByteState → ByteState → Type 0
IsSet key value old = IsSetTo key (siphash128 old.hasher.key value) old

-- an upsert of the key: few pages more than before lack a digest
abbrev pub SetDropsFew : List ℕ → ByteState → ByteState → Type 0
SetDropsFew key old = UpsertDropsFew (key_digest old.hasher key) old

-- the pages are equal, and so are all cached digests and the cached root hash
pub record IsCopied (old copy : ByteState) : Type 0 where
  pub pages : IsCopy (λ (a b : Vec ℕ). Same bytes_cmp a.items b.items) (λ d e. d ≡ e) old.root copy.root
  pub root_hash : copy.root_hash ≡ old.root_hash
  pub settings : SameSettings old copy
