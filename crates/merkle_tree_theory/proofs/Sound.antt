-- What follows for sound trees.
use Rattle.std.proofs.Common.{◌≡◌, ℕ, ◌<◌, List, Bool, true, ap, sym, ◌∙◌, subst, arith, Option}
use Rattle.std.specs.declared.cmp.Ordering.{Ordering}
use Rattle.std.specs.Ordering.{is_eq}
use Rattle.std.specs.Cmp.{IsTotalOrder}
use Rattle.key_order.specs.Order.{Same}
use Rattle.key_order.proofs.SameMaps.{same_is_map, same_map-own}
use Rattle.merkle_digest.specs.Level.{level_of}
use Rattle.merkle_tree_theory.specs.State.{State, map_of}
use Rattle.merkle_tree_theory.specs.Sound.{IsSound, RootHashHolds}
use Rattle.merkle_tree_theory.specs.Tree.{Tree}
use Rattle.merkle_tree_theory.specs.Page.{pairs, cache}
use Rattle.merkle_tree_theory.specs.Copy.{IsCopy}
use Rattle.merkle_tree_theory.proofs.Copies.{copy-same, copy-caches, copy-cache}
use Rattle.merkle_tree_theory.proofs.Same.{same-root}
use Rattle.merkle_tree_theory.proofs.SameRanges.{same-pairs}
use Rattle.merkle_tree_theory.specs.Canonical.{SamePages, IsCanonicalRoot}
use Rattle.merkle_tree_theory.specs.TreeOf.{tree_of}
use Rattle.merkle_tree_theory.proofs.TreeOf.{is_tree_of}

-- a level is at most 255
pub level_low : (digest : List ℕ) (base : ℕ) → level_of digest base < 256
unfolding level_of
level_low digest base = omega arith

-- equal keys have equal bytes
pub same_bytes : {K : Type 0} (cmp : K → K → Ordering) (eq : K → K → Bool) → ((x y : K) → eq x y ≡ is_eq (cmp x y)) → (bytes_of : K → List ℕ) → ((x y : K) → eq x y ≡ true → bytes_of x ≡ bytes_of y)
    → (x y : K) → Same cmp x y → bytes_of x ≡ bytes_of y
same_bytes cmp eq matches bytes_of respect x y e = respect x y (matches x y ∙ ap is_eq e)

module _ {K H : Type 0} (cmp : K → K → Ordering) (o : IsTotalOrder cmp) (eq : K → K → Bool) (matches : (x y : K) → eq x y ≡ is_eq (cmp x y))
    (digest_of : H → K → List ℕ) (respects : (h : H) (x y : K) → eq x y ≡ true → digest_of h x ≡ digest_of h y) (bytes_of : K → List ℕ) where
  -- equal keys are on one level
  pub alike : (s : State K H) (x y : K) → Same cmp x y → level_of (digest_of s.hasher x) s.base ≡ level_of (digest_of s.hasher y) s.base
  alike s x y e = ap (λ g. level_of g s.base) (respects s.hasher x y (matches x y ∙ ap is_eq e))

  -- the pages of a sound tree are the tree of its map
  pub sound_defined : (s : State K H) → IsSound cmp digest_of bytes_of s → SamePages cmp s.root (tree_of (λ k. level_of (digest_of s.hasher k) s.base) (map_of s))
  sound_defined s a =
      is_tree_of (λ k. level_of (digest_of s.hasher k) s.base) (λ k. level_low (digest_of s.hasher k) s.base) cmp (alike s) s.root (map_of s) a.canonical (same_map-own cmp o (map_of s))

  -- a copy of the pages of a sound tree, with a hasher that gives the same digests, and the same base and root hash, is sound
  pub copy_sound : ((x y : K) → eq x y ≡ true → bytes_of x ≡ bytes_of y) → (s : State K H) → IsSound cmp digest_of bytes_of s
      → (h : H) (t : Tree K (List ℕ)) (r : Option (List ℕ)) → ((k : K) → digest_of h k ≡ digest_of s.hasher k) → r ≡ s.root_hash → IsCopy (Same cmp) (λ d e. d ≡ e) s.root t
      → IsSound cmp digest_of bytes_of (record { hasher = h; base = s.base; format = s.format; root = t; root_hash = r })
  copy_sound bytes_respect s a h t r e q copy = record {
    ascending = same_is_map cmp o (λ d e. d ≡ e) (map_of s) (pairs t) (same-pairs cmp s.root t (copy-same cmp s.root t copy)) a.ascending;
    canonical = subst (λ (lev : K → ℕ). IsCanonicalRoot lev t) (λ i k. level_of (sym (e k) i) s.base)
        (same-root cmp (λ k. level_of (digest_of s.hasher k) s.base) (alike s) s.root t (copy-same cmp s.root t copy) a.canonical);
    caches = copy-caches cmp s.format bytes_of (same_bytes cmp eq matches bytes_of bytes_respect) s.root t copy a.caches;
    root_hash_holds = subst (λ n. RootHashHolds n (cache t)) (sym q) (subst (RootHashHolds s.root_hash) (copy-cache (Same cmp) (λ d e. d ≡ e) s.root t copy) a.root_hash_holds);
  }
