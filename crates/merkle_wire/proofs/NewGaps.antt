-- The gaps between the keys of a page, one key after the other.
use Rattle.std.proofs.Common.{◌≡◌, ℕ, List, [], ◌∷◌, ◌++◌, map, Option, Some, refl, ap, sym, subst, ◌∙◌, append_assoc, append-nil}
use Rattle.std.proofs.lemmas.Grind.{flat_map-append}
use Rattle.std.proofs.lemmas.List.{map-append}
use Rattle.merkle_bytes.specs.Options.{option_bytes}
use Rattle.merkle_replica.specs.Contents.{Side}
use Rattle.merkle_replica.specs.Laws.{Laws}
use Rattle.merkle_tree_theory.specs.Gap.{Gap}
use Rattle.merkle_wire.specs.Underway.{Found}
use Rattle.merkle_wire.specs.Outlines.{pages_bytes}
use Rattle.merkle_wire.specs.Steps.{below_keys, digests_beside, AddsGaps}
use Rattle.merkle_wire.specs.Taking.{AreNewGaps, IsNewGap}
use Rattle.merkle_wire.specs.declared.wanted.Wanted.{Wanted}

pub pages_more : (pages : List (Option (List ℕ))) (page : Option (List ℕ)) (begun old new : List ℕ) → begun ≡ pages_bytes pages ++ old → old ≡ option_bytes (λ d. d) page ++ new
    → begun ≡ pages_bytes (pages ++ page ∷ []) ++ new
pages_more pages page begun old new so e =
    so ∙ ap (λ t. pages_bytes pages ++ t) (e ∙ ap (λ b. b ++ new) (sym (append-nil (option_bytes (λ d. d) page)))) ∙ sym (append_assoc (pages_bytes pages) (option_bytes (λ d. d) page ++ []) new)
    ∙ ap (λ t. t ++ new) (sym (flat_map-append (option_bytes (λ d. d)) pages (page ∷ [])))

-- what one more page adds
pub below_more : {K V : Type 0} (before mid now : Found K V) (gaps new : List (Gap K)) → mid ≡ record before { below = before.below ++ gaps } → now ≡ record mid { below = mid.below ++ new }
    → now ≡ record before { below = before.below ++ (gaps ++ new) }
below_more {K} {V} before mid now gaps new m n =
    n ∙ ap {A = Found K V} (λ f. record f { below = f.below ++ new }) m ∙ (λ i. record before { below = append_assoc before.below gaps new i })

module _ {K V H : Type 0} (laws : Laws K V H) (local : Side K V H) (gap : Gap K) where
  -- the gaps before the first nodes are taken, up to the bound after which the next stands
  pub record AreGapsSoFar (after : Option K) (first : List (Option (List ℕ) × Wanted K)) (before now : Found K V) : Type 0 where
    pub gaps : List (Gap K)
    pub go_on : (ks : List K) (ps : List (Option (List ℕ))) (gs : List (Gap K)) → AreNewGaps laws local (record { after = after; before = gap.before }) ks ps gs
        → AreNewGaps laws local gap (below_keys first ++ ks) (map (λ b. b.0) first ++ ps) (gaps ++ gs)
    pub taken : now ≡ record before { below = before.below ++ gaps }

  pub gaps_none : (before : Found K V) → AreGapsSoFar gap.after [] before before
  gaps_none before = record { gaps = []; go_on = λ ks ps gs h. h; taken = λ i. record before { below = sym (append-nil before.below) i } }

  pub gaps_more_of : (after : Option K) (first : List (Option (List ℕ) × Wanted K)) (node : Option (List ℕ) × Wanted K) (before mid now : Found K V)
      → AreGapsSoFar after first before mid → AddsGaps (IsNewGap laws local (record { after = after; before = Some node.1.key }) node.0) mid now
      → AreGapsSoFar (Some node.1.key) (first ++ node ∷ []) before now
  gaps_more_of after first node before mid now so (found, is, n) = record {
    gaps = so.gaps ++ found;
    go_on = λ ks ps gs h.
        subst (λ t. AreNewGaps laws local gap t (map (λ b. b.0) (first ++ node ∷ []) ++ ps) ((so.gaps ++ found) ++ gs)) (one_more (λ b. b.1.key) ks)
        (subst (λ t. AreNewGaps laws local gap (below_keys first ++ node.1.key ∷ ks) t ((so.gaps ++ found) ++ gs)) (one_more (λ b. b.0) ps)
        (subst (AreNewGaps laws local gap (below_keys first ++ node.1.key ∷ ks) (map (λ b. b.0) first ++ node.0 ∷ ps)) (sym (append_assoc so.gaps found gs))
        (so.go_on (node.1.key ∷ ks) (node.0 ∷ ps) (found ++ gs) (found, gs, is, h, refl))));
    taken = below_more before mid now so.gaps found so.taken n;
  }
    where
      one_more : {Y : Type 0} (f : Option (List ℕ) × Wanted K → Y) (ys : List Y) → map f first ++ f node ∷ ys ≡ map f (first ++ node ∷ []) ++ ys
      one_more f ys = sym (ap (λ t. t ++ ys) (map-append f first (node ∷ [])) ∙ append_assoc (map f first) (f node ∷ []) ys)

  -- the page after the last node is the last
  pub gaps_end : (after : Option K) (below : List (Option (List ℕ) × Wanted K)) (last : Option (List ℕ)) (before mid now : Found K V)
      → AreGapsSoFar after below before mid → AddsGaps (IsNewGap laws local (record { after = after; before = gap.before }) last) mid now
      → AddsGaps (AreNewGaps laws local gap (below_keys below) (digests_beside below last)) before now
  gaps_end after below last before mid now so (found, is, n) = (
    so.gaps ++ found,
    subst (λ t. AreNewGaps laws local gap t (digests_beside below last) (so.gaps ++ found)) (append-nil (below_keys below)) (so.go_on [] (last ∷ []) found is),
    below_more before mid now so.gaps found so.taken n,
  )
