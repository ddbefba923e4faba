-- Gaps after a key, as bytes.
use Rattle.std.specs.Prelude.{◌≡◌, ℕ, Bool, true, ◌&&◌, List, ◌++◌, Option}
use denote.Ref.{Bor}
use Rattle.std.proofs.Common.{sym, ap, ap₂, ◌∙◌}
use Rattle.std.proofs.lemmas.List.{append_assoc}
use Rattle.std.specs.Option.{option_eq}
use Rattle.merkle_bytes.specs.Options.{IsOption}
use Rattle.merkle_bytes.specs.Runs.{bound_behind, bound_key}
use Rattle.merkle_bytes.specs.RunTelling.{bound_told}
use Rattle.merkle_search_tree.specs.Items.{bound_of}
use Rattle.merkle_tree_theory.specs.Gap.{Gap}
use Rattle.merkle_wire.specs.declared.gaps.OwnedGap.{OwnedGap}

-- a gap that owns its keys
abbrev pub owned_gap : {K : Type 0} → OwnedGap K → Gap K
owned_gap g = record { after = g.after; before = g.before }

-- the gap between two bounds that are lent
abbrev pub between : {K : Type 0} → Option (Bor K) → Option (Bor K) → Gap K
between after before = record { after = bound_of after; before = bound_of before }

module _ {K : Type 0} (encoding : K → List ℕ) where
  -- the bound that its keys are above, and after that the bound that they are below
  abbrev pub gap_behind : List ℕ → Gap K → List ℕ
  gap_behind last g = bound_behind encoding last g.after ++ bound_behind encoding (bound_key encoding last g.after) g.before

  -- the last key after a gap
  abbrev pub gap_key : List ℕ → Gap K → List ℕ
  gap_key last g = bound_key encoding (bound_key encoding last g.after) g.before

abbrev pub HasKeyBounds : {K : Type 0} → (K → Type 0) → Gap K → Type 0
HasKeyBounds is_key g = IsOption is_key g.after × IsOption is_key g.before

module _ {K : Type 0} (encoding : K → List ℕ) (eq : K → K → Bool) (told : (x y : K) (r s : List ℕ) → encoding x ++ r ≡ encoding y ++ s → (eq x y ≡ true) × (r ≡ s)) where
  -- bytes that begin with those of a gap tell its bounds, the last key after it, and what is after it
  pub gap_told : (last : List ℕ) (a b : Gap K) (r s : List ℕ) → gap_behind encoding last a ++ r ≡ gap_behind encoding last b ++ s
      → (option_eq eq a.after b.after && option_eq eq a.before b.before ≡ true) × (gap_key encoding last a ≡ gap_key encoding last b) × (r ≡ s)
  gap_told last a b r s e = let behind = bound_key encoding last in
      let firsts = bound_told encoding eq told last a.after b.after (bound_behind encoding (behind a.after) a.before ++ r) (bound_behind encoding (behind b.after) b.before ++ s)
      (sym (append_assoc (bound_behind encoding last a.after) (bound_behind encoding (behind a.after) a.before) r) ∙ e
      ∙ append_assoc (bound_behind encoding last b.after) (bound_behind encoding (behind b.after) b.before) s) in
      let seconds = bound_told encoding eq told (behind a.after) a.before b.before r s
      (firsts.2 ∙ ap (λ k. bound_behind encoding k b.before ++ s) (sym firsts.1)) in
      (ap₂ (λ x y. x && y) firsts.0 seconds.0, seconds.1 ∙ ap (λ k. bound_key encoding k b.before) firsts.1, seconds.2)
