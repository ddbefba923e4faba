-- What holds of an error of a message.
use Rattle.merkle_wire.specs.Faults.{AreOtherSettings, OfMessage}
use Rattle.merkle_wire.specs.declared.answering.AnswerError.{AnswerError}
use Rattle.merkle_wire.specs.declared.answering.KeptError.{KeptError}
use Rattle.merkle_wire.specs.declared.answering.KeptError.TheVariants.{Answer, Kept}
use Rattle.std.proofs.Common.{ℕ, List}
use Rattle.merkle_replica.specs.Laws.{Laws}
use Rattle.merkle_tree_theory.specs.State.{State}
use Rattle.merkle_wire.specs.Replies.{AsksWithOthers, TellsSettings}
use Rattle.merkle_wire.specs.declared.question.Question.{Question}

pub of_message_weaker : {E : Type 0} (P Q : AnswerError → Type 0) → ((error : AnswerError) → P error → Q error) → (fault : KeptError E) → OfMessage P fault → OfMessage Q fault
of_message_weaker P Q f (Answer error) p = f error p
of_message_weaker P Q f (Kept error) p = tt

module _ {K V H : Type 0} (laws : Laws K V H) (n : ℕ) where
  -- a question has no reply for its settings only where it tells others than those of the tree
  abbrev pub RefusesQuestion : State K H → Question K → AnswerError → Type 0
  RefusesQuestion tree question error = AreOtherSettings error → ¬ TellsSettings laws n tree question

  -- so it is with a message
  abbrev pub RefusesMessage : (K → List ℕ) → State K H → List ℕ → AnswerError → Type 0
  RefusesMessage encoding tree message error = AreOtherSettings error → AsksWithOthers laws n encoding tree message
