-- What the asking side tells with a question, and what it hears of a reply.
use Rattle.std.specs.Prelude.{◌≡◌, ℕ, List, Option, Some, None, ⊤, map}
use Rattle.std.specs.Global.{Vec}
use Rattle.merkle_delta.specs.Chunks.{checksum, digest_of}
use Rattle.merkle_delta.specs.Messages.{AsksQuestion, IsPlain, IsReplyOver, IsToldFor, asking_bytes}
use Rattle.merkle_delta.specs.declared.hearing.Heard.{Heard}
use Rattle.merkle_delta.specs.declared.hearing.Heard.TheVariants.{Reply, Again}

-- a question, and the chunks of this side's own reply to it
pub record Told : Type 0 where
  pub question : List ℕ
  pub own : List (List ℕ)

-- the message that is sent for a question: that alone, or after the checksums of the chunks that are told
abbrev pub IsSentFor : List ℕ → Option Told → List ℕ → Type 0
IsSentFor question None message = message ≡ question
IsSentFor question (Some told) message = (told.question ≡ question) × (message ≡ asking_bytes (map checksum told.own) question)

-- a reply to it is heard as a plain one: itself, or the one that it is the delta of; or it is the delta of none, and the question is to be asked again
abbrev pub IsHeard : Option Told → List ℕ → Heard → Type 0
IsHeard None reply (Reply plain) = plain.items ≡ reply
IsHeard None reply (Again question) = ⊥
IsHeard (Some told) reply (Reply plain) = IsReplyOver told.own reply plain.items
IsHeard (Some told) reply (Again question) = (question.items ≡ told.question) × ((plain : List ℕ) → ¬ IsReplyOver told.own reply plain)

-- of the replies that a delta may tell over the chunks, none but this one has its digest
abbrev pub IsSafe : Option Told → List ℕ → List ℕ → Type 0
IsSafe None reply whole = ⊤
IsSafe (Some told) reply whole = (other : List ℕ) → IsReplyOver told.own reply other → digest_of other ≡ digest_of whole → other ≡ whole

-- the question that a peer reads is the one that was asked, and the reply that is heard is the one that it told, while no digest collides
abbrev pub ToldIsHeard : Type 0
ToldIsHeard = (told : Option Told) (question message other plain reply : List ℕ) (checksums : Option (Vec ℕ)) → IsPlain question → IsSentFor question told message
    → AsksQuestion checksums other message → IsToldFor checksums plain reply → IsSafe told reply plain
    → (other ≡ question) × ((heard : Vec ℕ) → IsHeard told reply (Reply heard) → heard.items ≡ plain)
