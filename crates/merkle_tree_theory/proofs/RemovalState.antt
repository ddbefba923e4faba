-- What a removal does to a sound state.
use Rattle.std.proofs.Common.{◌≡◌, ◌≢◌, ℕ, ◌+◌, ◌≤◌, List, false, None, sym, subst}
use Rattle.std.specs.declared.cmp.Ordering.{Ordering}
use Rattle.std.specs.Cmp.{IsTotalOrder}
use Rattle.merkle_digest.specs.Level.{level_of}
use Rattle.key_order.specs.Map.{IsMap, has_key, del, entry}
use Rattle.key_order.proofs.Dels.{ascending_del}
use Rattle.merkle_tree_theory.specs.State.{State}
use Rattle.merkle_tree_theory.specs.Page.{pairs, level}
use Rattle.merkle_tree_theory.specs.Cache.{uncached_pages}
use Rattle.merkle_tree_theory.specs.Sound.{IsSound}
use Rattle.merkle_tree_theory.specs.Remove.{root_del, tree_entry, HasFreeGap}
use Rattle.merkle_tree_theory.proofs.UpsertState.{none_of_hashed}
use Rattle.merkle_tree_theory.proofs.RemovalTree.{root_del-pairs, root_del-root, root_del-hold, root_del-few, tree_entry-is, free-none}

module _ {K H : Type 0} (cmp : K → K → Ordering) (o : IsTotalOrder cmp) (digest_of : H → K → List ℕ) (bytes_of : K → List ℕ)
    (s : State K H) (sound : IsSound cmp digest_of bytes_of s) (k : K) where
  pub remove-pairs : pairs (root_del cmp k s.root) ≡ del cmp (pairs s.root) k
  remove-pairs = root_del-pairs cmp o k s.root sound.ascending

  pub remove-entry : tree_entry cmp k s.root ≡ entry cmp (pairs s.root) k
  remove-entry = tree_entry-is cmp o k s.root sound.ascending

  pub remove-sound : IsSound cmp digest_of bytes_of (record s { root = root_del cmp k s.root; root_hash = None })
  remove-sound = record {
    ascending = subst (IsMap cmp) (sym remove-pairs) (ascending_del cmp k (pairs s.root) sound.ascending);
    canonical = root_del-root cmp (λ x. level_of (digest_of s.hasher x) s.base) k s.root sound.canonical;
    caches = root_del-hold cmp k s.format bytes_of s.root sound.caches;
    root_hash_holds = tt;
  }

  pub remove-few : uncached_pages (root_del cmp k s.root) ≤ uncached_pages s.root + (level s.root + 1)
  remove-few = root_del-few cmp (λ x. level_of (digest_of s.hasher x) s.base) k s.root sound.canonical

  -- a hashed tree lacks no digest
  pub hashed-lacks : s.root_hash ≢ None → uncached_pages s.root ≡ 0
  hashed-lacks = none_of_hashed s.format bytes_of s.root s.root_hash sound.root_hash_holds sound.caches

  pub remove-free : has_key cmp (pairs s.root) k ≡ false → HasFreeGap cmp k s.root
  remove-free e = free-none cmp k s.root e
