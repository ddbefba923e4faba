-- How a call on messages ends, as a status.
use Rattle.std.specs.Prelude.{◌≡◌, ◌⊎◌, ℕ, List, ⊤}
use Rattle.std.specs.Global.{Vec}
use Rattle.merkle_tree_theory.specs.State.{State}
use Rattle.merkle_wire.specs.Messages.{front}
use Rattle.merkle_wire.specs.Questions.{AsksNothing}
use Rattle.merkle_wire.specs.Replies.{AsksWithOthers}
use Rattle.merkle_wire.specs.declared.message.Kind.TheVariants.{Refusal}
use Rattle.merkle_wire.specs.declared.session_error.SessionError.{SessionError}
use Rattle.merkle_wire.specs.declared.session_error.SessionError.TheVariants.{Memory, Refused}
use Rattle.c_rows.specs.Values.{byte_laws, key_encoding}

-- the bytes are no question
abbrev pub IsNoQuestion : List ℕ → Type 0
IsNoQuestion = AsksNothing key_encoding (λ _. ⊤)

-- the question is for the root, with settings that are not those of the tree
abbrev pub IsOfOthers : List ℕ → State (Vec ℕ) (List ℕ) → Type 0
IsOfOthers question tree = AsksWithOthers byte_laws 16 key_encoding tree question

-- 2 and 6 mean that the message is the refusal: bytes that are no question are refused by 2, and questions of others by 6
pub record MeansRefusal (status : ℕ) (question : List ℕ) (tree : State (Vec ℕ) (List ℕ)) (message : Vec ℕ) : Type 0 where
  pub malformed : status ≡ 2 → IsNoQuestion question
  pub others : status ≡ 6 → IsOfOthers question tree
  pub refusal : (status ≡ 2) ⊎ (status ≡ 6) → message.items ≡ front Refusal

-- a call that answers ends so where its message is to be sent, which is the reply or the refusal
abbrev pub Sends : ℕ → Type 0
Sends status = (status ≡ 0) ⊎ (status ≡ 2) ⊎ (status ≡ 6)

-- it ends so where none is
abbrev pub SendsNothing : ℕ → Type 0
SendsNothing status = (status ≡ 1) ⊎ (status ≡ 4) ⊎ (status ≡ 8)

-- the status of a catch-up that ended early
abbrev pub IsEarly : ℕ → Type 0
IsEarly status = (status ≡ 1) ⊎ (status ≡ 2) ⊎ (status ≡ 7)

-- the status that an error has
abbrev pub early_status : SessionError → ℕ
early_status Memory = 1
early_status Refused = 7
early_status _ = 2
