-- The gaps that are asked for: each is the gap that was told of, or it isn't asked for.
use Rattle.std.specs.Prelude.{⊤}
use Rattle.std.proofs.Common.{◌≡◌, ℕ, List, [], ◌∷◌, Some, inl, inr, sym, subst, ◌⊎◌, ◌∙◌}
use Rattle.merkle_replica.specs.Contents.{Side}
use Rattle.merkle_replica.specs.Descent.{HasPage}
use Rattle.merkle_replica.specs.Laws.{Laws}
use Rattle.merkle_tree_theory.specs.Gap.{Gap, SameGap}
use Rattle.merkle_wire.specs.Taking.{HasNodes, IsNewGap}

module _ {K V H : Type 0} (laws : Laws K V H) (local : Side K V H) where
  -- a gap, up to equal keys, or none
  abbrev pub IsGapOrNone : Gap K → List (Gap K) → Type 0
  IsGapOrNone gap [] = ⊤
  IsGapOrNone gap (own ∷ []) = SameGap laws.cmp gap own
  IsGapOrNone gap (own ∷ other ∷ others) = ⊥

  -- the gap alone, up to equal keys
  abbrev pub IsOneGap : Gap K → List (Gap K) → Type 0
  IsOneGap gap new = (own : Gap K) × (new ≡ own ∷ []) × SameGap laws.cmp gap own

  -- nodes with this digest are those of the page over the gap: `new` is none where the side has all of them, and else the gap
  abbrev pub AreNewNodes : Gap K → List K → List ℕ → List (Gap K) → Type 0
  AreNewNodes gap keys digest new = ((new ≡ []) × HasNodes laws local keys digest) ⊎ (IsOneGap gap new × ¬ HasNodes laws local keys digest)

  one_or_none : (gap : Gap K) (new : List (Gap K)) → IsOneGap gap new → IsGapOrNone gap new
  one_or_none gap new (own, is, same) = subst (IsGapOrNone gap) (sym is) same

  one_is_some : (gap : Gap K) (new : List (Gap K)) → IsOneGap gap new → new ≡ [] → ⊥
  one_is_some gap new (own, is, same) none = let never : [] ≡ own ∷ [] = sym none ∙ is in cc

  -- the gap of a page
  pub gap_or_none : (gap : Gap K) (d : List ℕ) (new : List (Gap K)) → IsNewGap laws local gap (Some d) new → IsGapOrNone gap new
  gap_or_none gap d new (inl (none, own)) = subst (IsGapOrNone gap) (sym none) tt
  gap_or_none gap d new (inr (one, lacks)) = one_or_none gap new one

  pub page_spared : (gap : Gap K) (d : List ℕ) (new : List (Gap K)) → IsNewGap laws local gap (Some d) new → new ≡ [] → HasPage laws local d
  page_spared gap d new (inl (none, own)) e = own
  page_spared gap d new (inr (one, lacks)) e = absurd (one_is_some gap new one e)

  -- the gap of nodes
  pub nodes_or_none : (gap : Gap K) (keys : List K) (d : List ℕ) (new : List (Gap K)) → AreNewNodes gap keys d new → IsGapOrNone gap new
  nodes_or_none gap keys d new (inl (none, own)) = subst (IsGapOrNone gap) (sym none) tt
  nodes_or_none gap keys d new (inr (one, lacks)) = one_or_none gap new one

  pub nodes_spared : (gap : Gap K) (keys : List K) (d : List ℕ) (new : List (Gap K)) → AreNewNodes gap keys d new → new ≡ [] → HasNodes laws local keys d
  nodes_spared gap keys d new (inl (none, own)) e = own
  nodes_spared gap keys d new (inr (one, lacks)) e = absurd (one_is_some gap new one e)
