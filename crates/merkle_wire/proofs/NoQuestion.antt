-- Messages that ask nothing.
use Rattle.std.proofs.Common.{◌≡◌, ◌≢◌, ℕ, ◌≤◌, Bool, true, List, [], ◌∷◌, ◌++◌, append-nil, refl, sym, ap, ◌∙◌, arith}
use Rattle.merkle_bytes.specs.Counts.{count_bytes, count_told}
use Rattle.merkle_wire.specs.Messages.{front}
use Rattle.merkle_wire.specs.Questions.{AsksNothing, question_bytes, gaps_bytes}
use Rattle.merkle_wire.specs.Settings.{settings_bytes, AreSettings}
use Rattle.merkle_wire.specs.declared.gaps.OwnedGap.{OwnedGap}
use Rattle.merkle_wire.specs.declared.message.Kind.{Kind}
use Rattle.merkle_wire.specs.declared.message.Kind.TheVariants as message_kind
use Rattle.merkle_wire.specs.declared.question.Question.{Question}
use Rattle.merkle_wire.specs.declared.question.Question.TheVariants.{Root, Outlines, Nodes, RowsAt, RowsIn}
use Rattle.merkle_wire.specs.declared.settings.Settings.{Settings}
use Rattle.merkle_wire.proofs.NoSettings.{same_behind, settings_end}
use Rattle.merkle_bytes.specs.Reading.{BeginsWithNo}
use Rattle.merkle_bytes.specs.Runs.{run_bytes}
use Rattle.merkle_bytes.specs.Keys.{key_behind}
use Rattle.merkle_wire.proofs.Lacking.{AreGaps}

-- the second byte, that of the kind
abbrev second : List ℕ → ℕ
second [] = 0
second (a ∷ []) = 0
second (a ∷ b ∷ bs) = b

module _ {K : Type 0} (encoding : K → List ℕ) (is_value : K → Type 0) where
  -- no front of a message stands there
  pub no_front : (message : List ℕ) → ((kind : Kind) (rest : List ℕ) → message ≢ front kind ++ rest) → AsksNothing encoding is_value message
  no_front message none (Root s) of e = none message_kind.AskRoot (settings_bytes encoding s) e
  no_front message none (Outlines most gaps) of e = none message_kind.AskOutlines (count_bytes most ++ gaps_bytes encoding gaps.items) e
  no_front message none (Nodes most gaps) of e = none message_kind.AskNodes (count_bytes most ++ gaps_bytes encoding gaps.items) e
  no_front message none (RowsAt keys) of e = none message_kind.AskRowsAt (run_bytes (λ last w. key_behind last (encoding w.key)) (λ last w. encoding w.key) [] keys.items) e
  no_front message none (RowsIn gaps) of e = none message_kind.AskRowsIn (gaps_bytes encoding gaps.items) e

  -- the kind of a question is one of the first five
  asks_by_kind : (message : List ℕ) (question : Question K) → message ≡ question_bytes encoding question → (1 ≤ second message) × (second message ≤ 5)
  asks_by_kind message (Root s) e = (omega (arith, ap second e), omega (arith, ap second e))
  asks_by_kind message (Outlines most gaps) e = (omega (arith, ap second e), omega (arith, ap second e))
  asks_by_kind message (Nodes most gaps) e = (omega (arith, ap second e), omega (arith, ap second e))
  asks_by_kind message (RowsAt keys) e = (omega (arith, ap second e), omega (arith, ap second e))
  asks_by_kind message (RowsIn gaps) e = (omega (arith, ap second e), omega (arith, ap second e))

  module _ (message left : List ℕ) where
    -- no settings stand after the front of a question for the root
    pub no_settings : message ≡ front message_kind.AskRoot ++ left → BeginsWithNo (settings_bytes encoding) (AreSettings is_value) left → AsksNothing encoding is_value message
    no_settings is none (Root s) of e =
        let bytes = settings_bytes encoding s in
        none s [] of ((same_behind 1 1 1 1 left bytes (sym is ∙ e)).1 ∙ sym (append-nil bytes))
    no_settings is none question of e = absurd (omega (arith, ap second (sym is ∙ e)))

    -- no list of gaps stands after the number
    pub no_gaps : (n : ℕ) (behind : List ℕ) → message ≡ front message_kind.AskOutlines ++ left → left ≡ count_bytes n ++ behind
        → ((gaps : List (OwnedGap K)) → AreGaps is_value gaps → behind ≢ gaps_bytes encoding gaps) → AsksNothing encoding is_value message
    no_gaps n behind is counted none (Outlines most gaps) of e =
        let bytes = gaps_bytes encoding gaps.items in
        none gaps.items of.1 (count_told n most behind bytes (sym counted ∙ (same_behind 1 2 1 2 left (count_bytes most ++ bytes) (sym is ∙ e)).1)).1
    no_gaps n behind is counted none question of e = absurd (omega (arith, ap second (sym is ∙ e)))

    pub no_gaps_of_nodes : (n : ℕ) (behind : List ℕ) → message ≡ front message_kind.AskNodes ++ left → left ≡ count_bytes n ++ behind
        → ((gaps : List (OwnedGap K)) → AreGaps is_value gaps → behind ≢ gaps_bytes encoding gaps) → AsksNothing encoding is_value message
    no_gaps_of_nodes n behind is counted none (Nodes most gaps) of e =
        let bytes = gaps_bytes encoding gaps.items in
        none gaps.items of.1 (count_told n most behind bytes (sym counted ∙ (same_behind 1 3 1 3 left (count_bytes most ++ bytes) (sym is ∙ e)).1)).1
    no_gaps_of_nodes n behind is counted none question of e = absurd (omega (arith, ap second (sym is ∙ e)))

    -- the message is of a kind that doesn't ask
    pub no_asking : (kind : Kind) → message ≡ front kind ++ left → kind ≢ message_kind.AskRoot → kind ≢ message_kind.AskOutlines → kind ≢ message_kind.AskNodes
        → kind ≢ message_kind.AskRowsAt → kind ≢ message_kind.AskRowsIn
        → AsksNothing encoding is_value message
    no_asking message_kind.AskRoot is a b c d f question of e = a refl
    no_asking message_kind.AskOutlines is a b c d f question of e = b refl
    no_asking message_kind.AskNodes is a b c d f question of e = c refl
    no_asking message_kind.AskRowsAt is a b c d f question of e = d refl
    no_asking message_kind.AskRowsIn is a b c d f question of e = f refl
    no_asking _ is a b c d f question of e = omega (arith, ap second is, (asks_by_kind message question e).0, (asks_by_kind message question e).1)

  module _ (eq : K → K → Bool) (told : (x y : K) (r s : List ℕ) → encoding x ++ r ≡ encoding y ++ s → (eq x y ≡ true) × (r ≡ s)) where
    -- more stands after the settings
    pub more_behind : (message left rest : List ℕ) (settings : Settings K) → message ≡ front message_kind.AskRoot ++ left
        → left ≡ settings_bytes encoding settings ++ rest → rest ≢ [] → AsksNothing encoding is_value message
    more_behind message left rest settings is told_by some (Root s) of e =
        let bytes = settings_bytes encoding s in
        some (settings_end encoding eq told settings s rest [] (sym told_by ∙ (same_behind 1 1 1 1 left bytes (sym is ∙ e)).1 ∙ sym (append-nil bytes)))
    more_behind message left rest settings is told_by some question of e = absurd (omega (arith, ap second (sym is ∙ e)))
