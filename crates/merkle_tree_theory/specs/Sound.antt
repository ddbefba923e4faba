-- What holds of every tree.
use Rattle.std.specs.Prelude.{◌≡◌, ℕ, List, Option, Some, None, ⊤}
use Rattle.std.specs.declared.cmp.Ordering.{Ordering}
use Rattle.key_order.specs.Map.{IsMap}
use Rattle.merkle_digest.specs.Level.{level_of}
use Rattle.merkle_tree_theory.specs.State.{State, map_of}
use Rattle.merkle_tree_theory.specs.Page.{cache}
use Rattle.merkle_tree_theory.specs.Canonical.{IsCanonicalRoot}
use Rattle.merkle_tree_theory.specs.Cache.{CachesHold}

-- a cached root hash is the cached digest of the root page
abbrev pub RootHashHolds : Option (List ℕ) → Option (List ℕ) → Type 0
RootHashHolds None c = ⊤
RootHashHolds (Some d) c = c ≡ Some d

-- the keys ascend, the pages are canonical, each cached digest is that of its page with every page below it cached too, and a
-- cached root hash is the root page's digest
pub record IsSound {K H : Type 0} (cmp : K → K → Ordering) (digest_of : H → K → List ℕ) (bytes_of : K → List ℕ) (s : State K H) : Type 0 where
  pub ascending : IsMap cmp (map_of s)
  pub canonical : IsCanonicalRoot (λ k. level_of (digest_of s.hasher k) s.base) s.root
  pub caches : CachesHold s.format bytes_of s.root
  pub root_hash_holds : RootHashHolds s.root_hash (cache s.root)
