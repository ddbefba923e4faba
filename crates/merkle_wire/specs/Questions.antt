-- What a message can ask for, as bytes.
use Rattle.std.specs.Prelude.{◌≡◌, ◌≢◌, ℕ, ◌<◌, ◌^◌, List, [], ◌++◌}
use Rattle.std.specs.List.{AllByRecursion}
use Rattle.merkle_bytes.specs.Counts.{count_bytes}
use Rattle.merkle_bytes.specs.Keys.{key_behind}
use Rattle.merkle_bytes.specs.Runs.{run_bytes}
use Rattle.merkle_wire.specs.Gaps.{HasKeyBounds, owned_gap, gap_behind, gap_key}
use Rattle.merkle_wire.specs.ItsRows.{Digests}
use Rattle.merkle_wire.specs.Messages.{front}
use Rattle.merkle_wire.specs.Settings.{AreSettings, AreSettingsBy, settings_bytes}
use Rattle.merkle_wire.specs.declared.gaps.OwnedGap.{OwnedGap}
use Rattle.merkle_wire.specs.declared.message.Kind.TheVariants.{AskRoot, AskOutlines, AskNodes, AskRowsAt, AskRowsIn}
use Rattle.merkle_wire.specs.declared.question.Question.{Question}
use Rattle.merkle_wire.specs.declared.question.Question.TheVariants.{Root, Outlines, Nodes, RowsAt, RowsIn}
use Rattle.merkle_wire.specs.declared.settings.Settings.{Settings}

-- gaps, each after the last key of the one before
abbrev pub gaps_bytes : {K : Type 0} → (K → List ℕ) → List (OwnedGap K) → List ℕ
gaps_bytes encoding = run_bytes (λ last g. gap_behind encoding last (owned_gap g)) (λ last g. gap_key encoding last (owned_gap g)) []

-- the bytes of a message that asks: gaps, or keys, each after the one before
abbrev pub question_bytes : {K : Type 0} → (K → List ℕ) → Question K → List ℕ
question_bytes encoding (Root settings) = front AskRoot ++ settings_bytes encoding settings
question_bytes encoding (Outlines most gaps) = (front AskOutlines ++ count_bytes most) ++ gaps_bytes encoding gaps.items
question_bytes encoding (Nodes most gaps) = (front AskNodes ++ count_bytes most) ++ gaps_bytes encoding gaps.items
question_bytes encoding (RowsAt keys) = front AskRowsAt ++ run_bytes (λ last w. key_behind last (encoding w.key)) (λ last w. encoding w.key) [] keys.items
question_bytes encoding (RowsIn gaps) = front AskRowsIn ++ gaps_bytes encoding gaps.items

-- a question that can be read: its numbers fit, and its keys are values
abbrev pub IsQuestion : {K : Type 0} → (K → Type 0) → Question K → Type 0
IsQuestion is_value (Root settings) = AreSettings is_value settings
IsQuestion is_value (Outlines most gaps) = (most < 2 ^ 64) × AllByRecursion (λ g. HasKeyBounds is_value (owned_gap g)) gaps.items
IsQuestion is_value (Nodes most gaps) = (most < 2 ^ 64) × AllByRecursion (λ g. HasKeyBounds is_value (owned_gap g)) gaps.items
IsQuestion is_value (RowsAt keys) = AllByRecursion (λ w. is_value w.key) keys.items
IsQuestion is_value (RowsIn gaps) = AllByRecursion (λ g. HasKeyBounds is_value (owned_gap g)) gaps.items

-- the message is that of no question
abbrev pub AsksNothing : {K : Type 0} → (K → List ℕ) → (K → Type 0) → List ℕ → Type 0
AsksNothing {K} encoding is_value message = (question : Question K) → IsQuestion is_value question → message ≢ question_bytes encoding question

-- the question is for the root, with the settings of a side whose digests have n bytes
abbrev pub AsksForRoot : {K H : Type 0} → (H → K → List ℕ) → ℕ → Digests K H → Question K → Type 0
AsksForRoot {K} digest_of n own question = (settings : Settings K) × (question ≡ Root settings) × AreSettingsBy digest_of n own settings
