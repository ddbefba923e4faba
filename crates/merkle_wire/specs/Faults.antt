-- Why bytes that came are not taken, and what the errors say.
use Rattle.std.specs.Prelude.{ℕ, List, ◌++◌, codes, ⊤}
use Rattle.std.specs.Fmt.{decimal}
use Rattle.merkle_bytes.specs.Texts.{read_error_text}
use Rattle.merkle_wire.specs.Limits.{limit_text}
use Rattle.merkle_wire.specs.declared.answering.AnswerError.{AnswerError}
use Rattle.merkle_wire.specs.declared.answering.AnswerError.TheVariants as answer
use Rattle.merkle_wire.specs.declared.answering.KeptError.{KeptError}
use Rattle.merkle_wire.specs.declared.answering.KeptError.TheVariants.{Answer, Kept}
use Rattle.merkle_wire.specs.declared.session.BothMessagesError.{BothMessagesError}
use Rattle.merkle_wire.specs.declared.session.BothMessagesError.TheVariants.{First, Second}
use Rattle.merkle_wire.specs.declared.session.MessagesError.{MessagesError}
use Rattle.merkle_wire.specs.declared.session.MessagesError.TheVariants as messages
use Rattle.merkle_wire.specs.declared.session_error.SessionError.{SessionError}
use Rattle.merkle_wire.specs.declared.session_error.SessionError.TheVariants as session
use Rattle.merkle_wire.specs.declared.session_error.TakeError.{TakeError}
use Rattle.merkle_wire.specs.declared.session_error.TakeError.TheVariants.{Session, Tree}

-- the bytes are no message: memory was not the reason, nor were settings
abbrev pub IsUnread : AnswerError → Type 0
IsUnread (answer.Malformed error) = ⊤
IsUnread _ = ⊥

-- the asking side has another hash key or other tree settings
abbrev pub AreOtherSettings : AnswerError → Type 0
AreOtherSettings answer.OtherSettings = ⊤
AreOtherSettings _ = ⊥

-- this holds of an error of the message; of one of the tree or the rows nothing is said
abbrev pub OfMessage : {E : Type 0} → (AnswerError → Type 0) → KeptError E → Type 0
OfMessage Holds (Answer error) = Holds error
OfMessage Holds (Kept error) = ⊤

-- a reply is refused when out of memory, or for this reason
abbrev pub IsRefusedFor : Type 0 → SessionError → Type 0
IsRefusedFor reason session.Memory = ⊤
IsRefusedFor reason session.TooManyRounds = ⊥
IsRefusedFor reason session.Twice = ⊥
IsRefusedFor reason (session.Limit limit) = ⊥
IsRefusedFor reason _ = reason

-- a reply is not taken, as the tree can't be read, or it is refused for this reason
abbrev pub IsNotTaken : {E : Type 0} → Type 0 → TakeError E → Type 0
IsNotTaken reason (Session error) = IsRefusedFor reason error
IsNotTaken reason (Tree error) = ⊤

-- why a message has no reply
abbrev pub answer_error_text : AnswerError → List ℕ
answer_error_text answer.Memory = codes "out of memory"
answer_error_text (answer.Malformed error) = codes "the message is malformed: " ++ read_error_text error
answer_error_text answer.OtherSettings = codes "the asking side has another hash key or other tree settings"

-- why a catch-up over a wire ended early
abbrev pub session_error_text : SessionError → List ℕ
session_error_text session.Memory = codes "out of memory"
session_error_text (session.Malformed error) = codes "the reply is malformed: " ++ read_error_text error
session_error_text session.OtherKind = codes "the reply doesn't match the question"
session_error_text session.Refused = codes "the peer rejected the request"
session_error_text session.NothingCame = codes "the peer sent nothing of what was asked for"
session_error_text session.NotInGap = codes "the peer sent keys out of order or outside the requested gap"
session_error_text session.NoNode = codes "the peer sent a page without a node"
session_error_text session.TooManyRounds = codes "the peer's tree has too many levels"
session_error_text session.Twice = codes "the peer sent a row twice"
session_error_text (session.Limit limit) = codes "the peer sent more " ++ limit_text limit ++ codes " than the limit allows"

-- why a catch-up through messages ended early
abbrev pub messages_error_text : MessagesError → List ℕ
messages_error_text (messages.Answer error) = codes "a message has no reply: " ++ answer_error_text error
messages_error_text (messages.Session error) = session_error_text error
messages_error_text (messages.Join done) = codes "memory was refused after " ++ decimal done ++ codes " rows"

-- why catch-ups through messages in both directions ended early
abbrev pub both_messages_error_text : BothMessagesError → List ℕ
both_messages_error_text (First error) = codes "in the first catch-up " ++ messages_error_text error
both_messages_error_text (Second first error) = codes "in the second catch-up " ++ messages_error_text error
