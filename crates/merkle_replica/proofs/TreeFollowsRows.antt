-- The tree's map follows the rows.
use Rattle.std.proofs.Common.{◌≡◌, ℕ, List, [], ◌∷◌, refl, sym, ◌∙◌, subst}
use Rattle.std.specs.Cmp.{IsTotalOrder, alike_right}
use Rattle.std.specs.declared.cmp.Ordering.{Ordering}
use Rattle.std.specs.declared.cmp.Ordering.TheVariants.{Less, Equal, Greater}
use Rattle.key_order.specs.Order.{Same}
use Rattle.key_order.specs.Map.{IsMap, SameMap, set}
use Rattle.key_order.proofs.Sets.{ascending_set}
use Rattle.merkle_search_tree.specs.Loading.{digests}
use Rattle.merkle_tree_theory.specs.State.{State, map_of}
use Rattle.merkle_replica.specs.Contents.{IsKept}

module _ {K V D : Type 0} (cmp : K → K → Ordering) (o : IsTotalOrder cmp) (hash : V → D) where
  -- a key and an equal one set on both sides
  pub digests_set : (m : List (K × D)) (rows : List (K × V)) (k l : K) (v : V) → Same cmp k l → SameMap cmp (λ d c. d ≡ c) m (digests hash rows)
      → SameMap cmp (λ d c. d ≡ c) (set cmp m k (hash v)) (digests hash (set cmp rows l v))
  digests_set [] [] k l v s h = (s, refl, tt)
  digests_set [] (r ∷ rs) k l v s h = absurd h
  digests_set (p ∷ ps) [] k l v s h = absurd h
  digests_set (p ∷ ps) (r ∷ rs) k l v s h = go (digests_set ps rs k l v s h.2) (cmp l r.0) refl
    where
      here : cmp k p.0 ≡ cmp l r.0
      here = o.congr k l p.0 s ∙ alike_right o p.0 r.0 l h.0

      go : SameMap cmp (λ d c. d ≡ c) (set cmp ps k (hash v)) (digests hash (set cmp rs l v)) → (w : Ordering) → cmp l r.0 ≡ w
          → SameMap cmp (λ d c. d ≡ c) (set cmp (p ∷ ps) k (hash v)) (digests hash (set cmp (r ∷ rs) l v))
      go f Less w = rw (here ∙ w, w) (s, refl, (h.0, h.1, h.2))
      go f Equal w = rw (here ∙ w, w) (h.0, refl, h.2)
      go f Greater w = rw (here ∙ w, w) (h.0, h.1, f)

module _ {K V H : Type 0} (cmp : K → K → Ordering) (digest_of : H → V → List ℕ) where
  -- the tree keeps its map and its hasher
  pub kept_hashed : (rows : List (K × V)) (old new : State K H) → map_of new ≡ map_of old → new.hasher ≡ old.hasher
      → IsKept cmp digest_of (record { rows = rows; tree = old }) → IsKept cmp digest_of (record { rows = rows; tree = new })
  kept_hashed rows old new m h k = record {
    ascending = k.ascending;
    digested = subst (λ hasher. SameMap cmp (λ d c. d ≡ c) (map_of new) (digests (digest_of hasher) rows)) (sym h)
        (subst (λ ps. SameMap cmp (λ d c. d ≡ c) ps (digests (digest_of old.hasher) rows)) (sym m) k.digested);
  }

  -- a row is set, and its digest in the tree at an equal key
  pub kept_set : IsTotalOrder cmp → (rows rows' : List (K × V)) (old new : State K H) (k key : K) (v : V) → rows' ≡ set cmp rows key v
      → map_of new ≡ set cmp (map_of old) k (digest_of old.hasher v) → new.hasher ≡ old.hasher → Same cmp k key
      → IsKept cmp digest_of (record { rows = rows; tree = old }) → IsKept cmp digest_of (record { rows = rows'; tree = new })
  kept_set o rows rows' old new k key v r m h s kept =
      record {
        ascending = subst (IsMap cmp) (sym r) (ascending_set cmp o rows key v kept.ascending);
        digested = rw (r, m, h) (digests_set cmp o (digest_of old.hasher) (map_of old) rows k key v s kept.digested);
      }
