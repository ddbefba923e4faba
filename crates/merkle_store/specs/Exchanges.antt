-- A session as its messages: what is asked and told, plainly or as deltas, and to which rows that leads.
use Rattle.std.specs.Prelude.{◌≡◌, ℕ, List, [], ◌∷◌, Option, None, ⊤, map}
use Rattle.std.specs.Global.{Vec}
use Rattle.std.specs.List.{AllByRecursion}
use Rattle.key_order.specs.Map.{IsMap}
use Rattle.merkle_replica.specs.Contents.{Contents, Side, side, tree_map}
use Rattle.merkle_replica.specs.Faithful.{HasSmallMap}
use Rattle.merkle_replica.specs.Laws.{Laws}
use Rattle.merkle_tree_theory.specs.Canonical.{IsTreeOf}
use Rattle.merkle_tree_theory.specs.State.{SameSettings}
use Rattle.merkle_wire.specs.Underway.{nothing, Underway}
use Rattle.merkle_wire.specs.Next.{IsNext}
use Rattle.merkle_wire.specs.Questions.{AsksForRoot, question_bytes}
use Rattle.merkle_wire.specs.Replies.{IsAnsweredBy}
use Rattle.merkle_wire.specs.Sessions.{AreBrought}
use Rattle.merkle_wire.specs.declared.catching_up.Next.{Next}
use Rattle.merkle_wire.specs.declared.catching_up.Next.TheVariants.{Ask, Came}
use Rattle.merkle_delta.specs.Hearing.{IsHeard, IsSafe, IsSentFor, Told}
use Rattle.merkle_delta.specs.Messages.{AsksQuestion, IsToldFor}
use Rattle.merkle_delta.specs.declared.hearing.Heard.{Heard}
use Rattle.merkle_delta.specs.declared.hearing.Heard.TheVariants.{Reply, Again}
use Rattle.merkle_wire.specs.ItsRows.{digests_of}

-- a message of the asking side, what it told with its question, and the reply
pub record Exchange : Type 0 where
  pub message : List ℕ
  pub told : Option Told
  pub reply : List ℕ

-- what goes over a wire: messages, each with the reply to it
abbrev pub Wire : Type 0
Wire = List (List ℕ × List ℕ)

abbrev pub on_wire : List Exchange → Wire
on_wire = map (λ e. (e.message, e.reply))

-- the next question is asked alone
abbrev pub AsksAlone : List Exchange → Type 0
AsksAlone [] = ⊥
AsksAlone (e ∷ others) = e.told ≡ None

module _ {K V H : Type 0} (laws : Laws K V H) (n : ℕ) (encoding : K → List ℕ) (replica : Contents K V H) where
  -- a catch-up of the replica begins so, with this question: it asks for the root with the replica's settings, and has found nothing
  pub record BeginsCatchUp (session : Underway K V) (question : List ℕ) : Type 0 where
    pub settings : AsksForRoot laws.key_digest n (digests_of replica.tree) session.asked
    pub asks : question ≡ question_bytes encoding session.asked
    pub nothing_found : session.found ≡ nothing

module _ {K V H : Type 0} (laws : Laws K V H) (n : ℕ) (encoding : K → List ℕ) (values : V → List ℕ) where
  module _ (local : Side K V H) (rows : List (K × V)) where
    -- what comes next is a question, of which P holds; or these are the rows, and no exchange is left
    abbrev pub NextLeads : List Exchange → (Underway K V → List ℕ → Type 0) → Next K V → Type 0
    NextLeads others P (Ask session question) = P session question.items
    NextLeads others P (Came came) = (others ≡ []) × (came.items ≡ rows)

    -- the plain reply that was heard is taken; or the question is asked again, alone
    abbrev pub HeardLeads : List Exchange → (Underway K V → List ℕ → Type 0) → Underway K V → List ℕ → Heard → Type 0
    HeardLeads others P session question (Reply plain) = (next : Next K V) × IsNext laws n encoding values local session plain.items next × NextLeads others P next
    HeardLeads others P session question (Again again) = AsksAlone others × P session question

    -- exchanges lead from a catch-up and its question to the rows: each message is sent for the question, the reply is heard, and the rows come after the last
    abbrev pub LeadTo : List Exchange → Underway K V → List ℕ → Type 0
    LeadTo [] session question = ⊥
    LeadTo (e ∷ others) session question = IsSentFor question e.told e.message × (heard : Heard) × IsHeard e.told e.reply heard
        × HeardLeads others (LeadTo others) session question heard

  -- a message is answered: a question is read in it, and the plain reply to that is told
  pub record IsMessageAnswered (old new : Contents K V H) (message reply : List ℕ) : Type 0 where
    pub checksums : Option (Vec ℕ)
    pub question : List ℕ
    pub plain : Vec ℕ
    pub asked : AsksQuestion checksums question message
    pub answered : IsAnsweredBy laws n encoding values old.rows new.tree question plain
    pub told : IsToldFor checksums plain.items reply

  module _ (replica : Contents K V H) where
    -- the reply is what a replica with these rows and settings answers to the message, by a tree of its map, whichever digests its pages have already
    pub record IsToldReply (message reply : List ℕ) : Type 0 where
      pub before : Contents K V H
      pub after : Contents K V H
      pub rows : (before.rows ≡ replica.rows) × (after.rows ≡ replica.rows)
      pub settings : SameSettings replica.tree before.tree × SameSettings replica.tree after.tree
      pub of_rows : IsTreeOf laws.cmp (laws.key_digest replica.tree.hasher) replica.tree.base after.tree.root (tree_map laws (side replica))
      pub answer : IsMessageAnswered before after message reply

    -- a replica's replies to each of these messages
    abbrev pub AreRepliesBy : Wire → Type 0
    AreRepliesBy = AllByRecursion (λ e. IsToldReply e.0 e.1)

    -- no reply tells other bytes with the digest of the plain reply that it was made of
    abbrev pub NoneCollides : (exchanges : List Exchange) → AreRepliesBy (on_wire exchanges) → Type 0
    NoneCollides [] replies = ⊤
    NoneCollides (e ∷ others) (by, replies) = IsSafe e.told e.reply by.answer.plain.items × NoneCollides others replies

  -- a catch-up to each of whose messages a peer replied brings what is missing, while no digest of its replies collides
  abbrev pub RepliesBring : Type 0
  RepliesBring = (local peer : Contents K V H) (session : Underway K V) (question : List ℕ) (exchanges : List Exchange) (rows : List (K × V))
      → IsMap laws.cmp local.rows → IsMap laws.cmp peer.rows → HasSmallMap laws n (side peer) → BeginsCatchUp laws n encoding local session question
      → LeadTo (side local) rows exchanges session question → (replies : AreRepliesBy peer (on_wire exchanges))
      → NoneCollides peer exchanges replies → AreBrought laws (side local) (side peer) rows
