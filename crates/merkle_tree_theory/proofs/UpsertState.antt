-- What an upsert does to a sound state.
use Rattle.std.proofs.Common.{◌≡◌, ◌≢◌, ℕ, ◌+◌, ◌≤◌, List, Bool, true, Option, Some, None, refl, sym, subst}
use Rattle.std.specs.declared.cmp.Ordering.{Ordering}
use Rattle.std.specs.Ordering.{is_eq}
use Rattle.std.specs.Cmp.{IsTotalOrder}
use Rattle.merkle_digest.specs.Level.{level_of}
use Rattle.merkle_tree_theory.specs.Tree.{Tree}
use Rattle.merkle_tree_theory.specs.State.{State}
use Rattle.merkle_tree_theory.specs.Page.{pairs, level, cache}
use Rattle.merkle_tree_theory.specs.Cache.{uncached_pages, CachesHold, KeyUncached}
use Rattle.key_order.specs.Map.{IsMap, set, has_key}
use Rattle.merkle_tree_theory.specs.Sound.{IsSound, RootHashHolds}
use Rattle.merkle_tree_theory.specs.Upsert.{tree_set, tree_finds}
use Rattle.key_order.proofs.Sets.{ascending_set}
use Rattle.merkle_tree_theory.proofs.UpsertMap.{set-pairs_root}
use Rattle.merkle_tree_theory.proofs.UpsertForm.{set-root, set-hold, none_missing, set-few_root}
use Rattle.merkle_tree_theory.proofs.Sound.{alike}
use Rattle.merkle_tree_theory.proofs.UpsertDrops.{set-dropped_root, set-finds_root}
use Rattle.merkle_tree_theory.specs.declared.page_format.PageFormat.{PageFormat}

-- a tree with a cached root hash lacks no digest
pub none_of_hashed : {K : Type 0} (format : PageFormat) (b : K → List ℕ) (t : Tree K (List ℕ)) (o : Option (List ℕ)) → RootHashHolds o (cache t)
    → CachesHold format b t → o ≢ None → uncached_pages t ≡ 0
none_of_hashed format b t None r p ne = absurd (ne refl)
none_of_hashed format b t (Some d) r p ne = none_missing format b t d r p

module _ {K H : Type 0} (cmp : K → K → Ordering) (o : IsTotalOrder cmp) (eq : K → K → Bool) (matches : (x y : K) → eq x y ≡ is_eq (cmp x y))
    (digest_of : H → K → List ℕ) (respects : (h : H) (x y : K) → eq x y ≡ true → digest_of h x ≡ digest_of h y) (bytes_of : K → List ℕ)
    (s : State K H) (sound : IsSound cmp digest_of bytes_of s) (n : ℕ) (k : K) (d : List ℕ) (at : level_of (digest_of s.hasher k) s.base ≡ n) where
  abbrev lev : K → ℕ
  lev x = level_of (digest_of s.hasher x) s.base

  pub upsert-pairs : pairs (tree_set cmp n k d s.root) ≡ set cmp (pairs s.root) k d
  upsert-pairs = set-pairs_root cmp o lev (alike cmp o eq matches digest_of respects bytes_of s) n k d at s.root sound.canonical sound.ascending

  pub upsert-sound : IsSound cmp digest_of bytes_of (record s { root = tree_set cmp n k d s.root; root_hash = None })
  upsert-sound = record {
    ascending = subst (IsMap cmp) (sym upsert-pairs) (ascending_set cmp o (pairs s.root) k d sound.ascending);
    canonical = set-root cmp lev n k d at s.root sound.canonical;
    caches = set-hold s.format bytes_of cmp n k d s.root sound.caches;
    root_hash_holds = tt;
  }

  pub upsert-dropped : KeyUncached cmp k (tree_set cmp n k d s.root)
  upsert-dropped = set-dropped_root cmp o lev (alike cmp o eq matches digest_of respects bytes_of s) n k d at s.root sound.canonical sound.ascending

  pub upsert-few : uncached_pages (tree_set cmp n k d s.root) ≤ uncached_pages s.root + (level (tree_set cmp n k d s.root) + n + 1)
  upsert-few = set-few_root cmp lev n k d s.root sound.canonical

  pub upsert-finds : has_key cmp (pairs s.root) k ≡ true → tree_finds cmp n k d s.root ≡ true
  upsert-finds e = set-finds_root cmp o lev (alike cmp o eq matches digest_of respects bytes_of s) n k d at s.root sound.canonical sound.ascending e
