-- Bytes tell a question, up to equal keys.
use Rattle.std.specs.Prelude.{⊤}
use Rattle.std.specs.List.{AllZip}
use Rattle.std.proofs.Common.{◌≡◌, ℕ, List, [], ◌∷◌, ◌++◌, append_assoc, Option, Some, None, refl, sym, ap, ◌∙◌, arith}
use Rattle.std.specs.declared.cmp.Ordering.{Ordering}
use Rattle.key_order.specs.Order.{Same}
use Rattle.merkle_bytes.specs.Counts.{count_bytes, count_told}
use Rattle.merkle_bytes.specs.Keys.{key_behind}
use Rattle.merkle_bytes.specs.RunTelling.{behind_told}
use Rattle.merkle_bytes.specs.Runs.{bound_behind, bound_key, run_bytes}
use Rattle.merkle_bytes.proofs.Listed.{run_told}
use Rattle.merkle_tree_theory.specs.Gap.{SameBound, SameGap}
use Rattle.merkle_wire.specs.Gaps.{owned_gap, gap_behind, gap_key}
use Rattle.merkle_wire.specs.Questions.{question_bytes, gaps_bytes}
use Rattle.merkle_wire.specs.declared.gaps.OwnedGap.{OwnedGap}
use Rattle.merkle_wire.specs.declared.question.Question.{Question}
use Rattle.merkle_wire.specs.declared.question.Question.TheVariants.{Root, Outlines, Nodes, RowsAt, RowsIn}
use Rattle.merkle_wire.specs.declared.wanted.Wanted.{Wanted}

-- the second byte, that of the kind
abbrev second : List ℕ → ℕ
second [] = 0
second (a ∷ []) = 0
second (a ∷ b ∷ bs) = b

same_rest : (a b : ℕ) (r s : List ℕ) → a ∷ b ∷ r ≡ a ∷ b ∷ s → r ≡ s
same_rest a b r s e = let f : b ∷ r ≡ b ∷ s = cc in cc

module _ {K : Type 0} (cmp : K → K → Ordering) (encoding : K → List ℕ) where
  -- equal bounds, after which bytes go on alike
  abbrev pub SameBoundTold : Option K → Option K → Type 0
  SameBoundTold a b = SameBound cmp a b × ((last : List ℕ) → bound_key encoding last a ≡ bound_key encoding last b)

  -- gaps that bytes tell
  abbrev pub SameGapTold : OwnedGap K → OwnedGap K → Type 0
  SameGapTold g h = SameGap cmp (owned_gap g) (owned_gap h) × (bound_key encoding [] g.after ≡ bound_key encoding [] h.after)

  -- keys that bytes tell
  abbrev pub SameWanted : Wanted K → Wanted K → Type 0
  SameWanted w x = Same cmp w.key x.key

  -- questions that bytes tell: of one kind, about the same gaps or keys
  abbrev pub SameQuestion : Question K → Question K → Type 0
  SameQuestion (Root s) (Root t) = ⊤
  SameQuestion (Outlines m gs) (Outlines n hs) = AllZip SameGapTold gs.items hs.items
  SameQuestion (Nodes m gs) (Nodes n hs) = AllZip SameGapTold gs.items hs.items
  SameQuestion (RowsAt ws) (RowsAt xs) = AllZip SameWanted ws.items xs.items
  SameQuestion (RowsIn gs) (RowsIn hs) = AllZip SameGapTold gs.items hs.items
  SameQuestion x y = ⊥

module _ {K : Type 0} (cmp : K → K → Ordering) (encoding : K → List ℕ) (tells : (x y : K) → encoding x ≡ encoding y → Same cmp x y) where
  bound_tells : (last : List ℕ) (a b : Option K) (r s : List ℕ) → bound_behind encoding last a ++ r ≡ bound_behind encoding last b ++ s → (SameBoundTold cmp encoding) a b × (r ≡ s)
  bound_tells last None None r s e = let flat : 0 ∷ r ≡ 0 ∷ s = e in ((tt, λ l. refl), cc)
  bound_tells last None (Some b) r s e = absurd (let flat : 0 ∷ r ≡ 1 ∷ (key_behind last (encoding b) ++ s) = e in cc)
  bound_tells last (Some a) None r s e = absurd (let flat : 1 ∷ (key_behind last (encoding a) ++ r) ≡ 0 ∷ s = e in cc)
  bound_tells last (Some a) (Some b) r s e =
      let flat : 1 ∷ (key_behind last (encoding a) ++ r) ≡ 1 ∷ (key_behind last (encoding b) ++ s) = e in
      let rest : key_behind last (encoding a) ++ r ≡ key_behind last (encoding b) ++ s = cc in
      let both = behind_told last (encoding a) (encoding b) r s rest in
      ((tells a b both.0, λ l. both.0), both.1)

  gap_tells : (last : List ℕ) (g h : OwnedGap K) (r s : List ℕ) → gap_behind encoding last (owned_gap g) ++ r ≡ gap_behind encoding last (owned_gap h) ++ s
      → (SameGapTold cmp encoding) g h × (gap_key encoding last (owned_gap g) ≡ gap_key encoding last (owned_gap h)) × (r ≡ s)
  gap_tells last g h r s e =
      let behind = bound_key encoding last in
      let (first, more) = bound_tells last g.after h.after (bound_behind encoding (behind g.after) g.before ++ r) (bound_behind encoding (behind h.after) h.before ++ s)
      (sym (append_assoc (bound_behind encoding last g.after) (bound_behind encoding (behind g.after) g.before) r) ∙ e
      ∙ append_assoc (bound_behind encoding last h.after) (bound_behind encoding (behind h.after) h.before) s) in
      let (next, rest) = bound_tells (behind g.after) g.before h.before r s (more ∙ ap (λ l. bound_behind encoding l h.before ++ s) (sym (first.1 last))) in
      (((first.0, next.0), first.1 []), next.1 (behind g.after) ∙ ap (λ l. bound_key encoding l h.before) (first.1 last), rest)

  gaps_tell : (gs hs : List (OwnedGap K)) → gaps_bytes encoding gs ≡ gaps_bytes encoding hs → AllZip (SameGapTold cmp encoding) gs hs
  gaps_tell gs hs e =
      (run_told (λ last g. gap_behind encoding last (owned_gap g)) (λ last g. gap_key encoding last (owned_gap g)) (SameGapTold cmp encoding) gap_tells [] gs hs [] [] (ap (λ t. t ++ []) e)).0

  wanted_tell : (last : List ℕ) (w x : Wanted K) (r s : List ℕ) → key_behind last (encoding w.key) ++ r ≡ key_behind last (encoding x.key) ++ s
      → (SameWanted cmp encoding) w x × (encoding w.key ≡ encoding x.key) × (r ≡ s)
  wanted_tell last w x r s e = let both = behind_told last (encoding w.key) (encoding x.key) r s e in (tells w.key x.key both.0, both.0, both.1)

  -- keys, each after the one before
  abbrev pub keys_bytes : List (Wanted K) → List ℕ
  keys_bytes = run_bytes (λ last w. key_behind last (encoding w.key)) (λ last w. encoding w.key) []

  keys_tell : (ws xs : List (Wanted K)) → keys_bytes ws ≡ keys_bytes xs → AllZip (SameWanted cmp encoding) ws xs
  keys_tell ws xs e = (run_told (λ last w. key_behind last (encoding w.key)) (λ last w. encoding w.key) (SameWanted cmp encoding) wanted_tell [] ws xs [] [] (ap (λ t. t ++ []) e)).0

  counted_tell : (m n : ℕ) (gs hs : List (OwnedGap K)) → count_bytes m ++ gaps_bytes encoding gs ≡ count_bytes n ++ gaps_bytes encoding hs → AllZip (SameGapTold cmp encoding) gs hs
  counted_tell m n gs hs e = gaps_tell gs hs (count_told m n (gaps_bytes encoding gs) (gaps_bytes encoding hs) e).1

  pub question_tells : (x y : Question K) → question_bytes encoding x ≡ question_bytes encoding y → (SameQuestion cmp encoding) x y
  question_tells (Root s) (Root t) e = tt
  question_tells (Outlines m gs) (Outlines n hs) e = counted_tell m n gs.items hs.items
      (same_rest 1 2 (count_bytes m ++ gaps_bytes encoding gs.items) (count_bytes n ++ gaps_bytes encoding hs.items) e)
  question_tells (Nodes m gs) (Nodes n hs) e = counted_tell m n gs.items hs.items (same_rest 1 3 (count_bytes m ++ gaps_bytes encoding gs.items) (count_bytes n ++ gaps_bytes encoding hs.items) e)
  question_tells (RowsAt ws) (RowsAt xs) e = keys_tell ws.items xs.items (same_rest 1 4 (keys_bytes ws.items) (keys_bytes xs.items) e)
  question_tells (RowsIn gs) (RowsIn hs) e = gaps_tell gs.items hs.items (same_rest 1 5 (gaps_bytes encoding gs.items) (gaps_bytes encoding hs.items) e)
  question_tells x y e = absurd (omega (arith, ap second e))
