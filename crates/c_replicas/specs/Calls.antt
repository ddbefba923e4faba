-- What the calls do to a replica, to the catch-up that it is in, and to the message that is kept.
use Rattle.std.specs.Prelude.{◌≡◌, ◌≢◌, ◌⊎◌, ℕ, ◌<◌, List, [], ◌∷◌, length, take, Option, None, Some, MatchOption, ⊤}
use Rattle.std.specs.Global.{Vec}
use Rattle.key_order.specs.Join.{IsJoin}
use Rattle.merkle_replica.specs.Contents.{IsEmpty, side}
use Rattle.merkle_tree_theory.specs.Hashed.{hashed_tree}
use Rattle.merkle_tree_theory.specs.State.{SameSettings}
use Rattle.merkle_tree_theory.specs.Stream.{page_digest}
use Rattle.merkle_tree_theory.specs.declared.page_format.PageFormat.{PageFormat}
use Rattle.merkle_wire.specs.Underway.{nothing, Underway}
use Rattle.merkle_wire.specs.Next.{IsNext, IsStopped}
use Rattle.merkle_wire.specs.Questions.{AsksForRoot, question_bytes}
use Rattle.merkle_wire.specs.Replies.{IsAnsweredBy}
use Rattle.merkle_wire.specs.declared.catching_up.Next.{Next}
use Rattle.merkle_wire.specs.declared.catching_up.Next.TheVariants.{Ask, Came}
use Rattle.merkle_wire.specs.declared.session_error.SessionError.{SessionError}
use Rattle.c_rows.specs.Values.{by_bytes, byte_laws, key_encoding, value_encoding}
use Rattle.c_values.specs.Keys.{key_items}
use Rattle.c_values.specs.Lists.{row_list}
use Rattle.c_rows.specs.declared.value.ByteValue.{ByteValue}
use Rattle.c_replicas.specs.Values.{byte_rows, value_at}
use Rattle.c_replicas.specs.declared.byte_replica.ByteReplica.{ByteReplica}
use Rattle.c_replicas.specs.declared.byte_replica.Taken.{Taken}
use Rattle.c_replicas.specs.declared.byte_replica.Taken.TheVariants.{Asks, Joined, Cut, Failed}
use Rattle.c_rows.specs.Ends.{IsEarly, early_status}
use Rattle.merkle_wire.specs.ItsRows.{digests_of}

-- no row, these settings, no catch-up, and no message
abbrev pub IsFresh : List ℕ → ℕ → PageFormat → ByteReplica → Type 0
IsFresh key base format new = IsEmpty key base format new.replica × (new.session ≡ None) × (new.message.items ≡ [])

-- rows and settings stay
pub record SameRows (old new : ByteReplica) : Type 0 where
  pub rows : new.replica.rows ≡ old.replica.rows
  pub settings : SameSettings old.replica.tree new.replica.tree

-- the catch-up stays
abbrev pub SameSession : ByteReplica → ByteReplica → Type 0
SameSession old new = new.session ≡ old.session

-- the message stays
abbrev pub SameMessage : ByteReplica → ByteReplica → Type 0
SameMessage old new = new.message ≡ old.message

-- a call that answers leaves rows, settings and the catch-up, and the message too where it is refused memory
pub record KeepsReplica (status : ℕ) (old new : ByteReplica) : Type 0 where
  pub rows : SameRows old new
  pub session : SameSession old new
  pub message : status ≡ 1 → SameMessage old new

-- the catch-up and the message stay
abbrev pub SameTalk : ByteReplica → ByteReplica → Type 0
SameTalk old new = SameSession old new × SameMessage old new

-- there is a value at the key, of whose bytes this holds
abbrev pub HasValue : List ℕ → (List ℕ → Type 0) → ByteReplica → Type 0
HasValue key P held = (value : List ℕ) × (value_at held.replica key ≡ Some value) × P value

-- of the bytes of the rows this holds
abbrev pub HasRows : (List ℕ → Type 0) → ByteReplica → Type 0
HasRows P held = P (row_list (byte_rows held.replica))

-- the rows are the join of the old ones with those that come: at each key the greater value; and the settings stay
pub record JoinsRows (coming : List (Vec ℕ × ByteValue)) (old new : ByteReplica) : Type 0 where
  pub rows : IsJoin byte_laws.cmp byte_laws.eq byte_laws.join old.replica.rows coming new.replica.rows
  pub settings : SameSettings old.replica.tree new.replica.tree

-- a value is joined at a key, by their bytes, and the catch-up and the message stay
pub record IsPut (key value : List ℕ) (old new : ByteReplica) : Type 0 where
  pub row : Vec ℕ × ByteValue
  pub bytes : by_bytes row ≡ (key, value)
  pub joins : JoinsRows (row ∷ []) old new
  pub talk : SameTalk old new

-- the digests that pages lacked are filled in, and nothing else changes
abbrev pub OnlyHashes : ByteReplica → ByteReplica → Type 0
OnlyHashes old new = (new.replica.rows ≡ old.replica.rows) × (new.replica.tree ≡ hashed_tree key_items old.replica.tree) × SameTalk old new

-- the question asks, and the message is the reply to it
abbrev pub IsAnswered : List ℕ → ByteReplica → ByteReplica → Type 0
IsAnswered question old new = IsAnsweredBy byte_laws 16 key_encoding value_encoding old.replica.rows new.replica.tree question new.message

-- a catch-up began that asks for the root with the settings of the replica, and the message asks that; the replica stays
pub record HasBegun (old new : ByteReplica) : Type 0 where
  pub begun : Underway (Vec ℕ) ByteValue
  pub under_way : new.session ≡ Some begun
  pub settings : AsksForRoot byte_laws.key_digest 16 (digests_of old.replica.tree) begun.asked
  pub nothing_found : (begun.found ≡ nothing) × (begun.rounds ≡ 0)
  pub asks : new.message.items ≡ question_bytes key_encoding begun.asked
  pub replica : new.replica ≡ old.replica

-- the catch-up took the reply, and this comes next
pub record HasTaken (reply : List ℕ) (next : Next (Vec ℕ) ByteValue) (old : ByteReplica) : Type 0 where
  pub before : Underway (Vec ℕ) ByteValue
  pub under_way : old.session ≡ Some before
  pub comes : IsNext byte_laws 16 key_encoding value_encoding (side old.replica) before reply next

-- the catch-up took the reply and asks on by the message, and no row is joined yet; rows and settings stay
pub record AsksOn (reply : List ℕ) (joined : ℕ) (old new : ByteReplica) : Type 0 where
  pub none_yet : joined ≡ 0
  pub asking : Underway (Vec ℕ) ByteValue
  pub taken : HasTaken reply (Ask asking new.message) old
  pub asks : new.session ≡ Some asking
  pub same : SameRows old new

-- no catch-up is under way
abbrev pub IsIdle : ByteReplica → Type 0
IsIdle held = held.session ≡ None

-- the catch-up is over, and there is no message
abbrev pub IsOver : ByteReplica → Type 0
IsOver new = (new.session ≡ None) × (new.message.items ≡ [])

-- the catch-up took the reply, this many rows came, and they are joined
pub record JoinsWhatCame (reply : List ℕ) (joined : ℕ) (old new : ByteReplica) : Type 0 where
  pub rows : Vec (Vec ℕ × ByteValue)
  pub taken : HasTaken reply (Came rows) old
  pub counted : joined ≡ length rows.items
  pub joins : JoinsRows rows.items old new
  pub over : IsOver new

-- a catch-up was under way and is over, and rows and settings stay
abbrev pub IsDropped : ByteReplica → ByteReplica → Type 0
IsDropped old new = (old.session ≢ None) × SameRows old new × IsOver new

-- rows came, of which the first ones, this many, are joined, and not all
pub record IsCutShort (reply : List ℕ) (joined : ℕ) (old new : ByteReplica) : Type 0 where
  pub rows : Vec (Vec ℕ × ByteValue)
  pub taken : HasTaken reply (Came rows) old
  pub part : joined < length rows.items
  pub joins : JoinsRows (take joined rows.items) old new
  pub none : joined ≡ 0 → new.replica.rows ≡ old.replica.rows
  pub over : IsOver new

-- the catch-up is over, out of memory: no row is joined, or the first ones that came, this many
abbrev pub IsCutOff : List ℕ → ℕ → ByteReplica → ByteReplica → Type 0
IsCutOff reply joined old new = ((joined ≡ 0) × IsDropped old new) ⊎ IsCutShort reply joined old new

-- the catch-up could not go on with the reply, for an error of this status: where memory was not the reason, the reply is none to what was asked, or
-- outlines were to be asked for after 256 rounds of them, or two of the rows that were found have equal keys
pub record IsStoppedBy (reply : List ℕ) (status : ℕ) (old : ByteReplica) : Type 0 where
  pub before : Underway (Vec ℕ) ByteValue
  pub under_way : old.session ≡ Some before
  pub error : SessionError
  pub is : status ≡ early_status error
  pub stopped : IsStopped byte_laws 16 key_encoding value_encoding (λ _. ⊤) (λ _. ⊤) (side old.replica) before reply error

-- a catch-up was under way and is over, and rows and settings stay: it could not go on with the reply, for an error of this status
pub record IsGivenUp (reply : List ℕ) (status : ℕ) (old new : ByteReplica) : Type 0 where
  pub dropped : IsDropped old new
  pub stopped : IsStoppedBy reply status old

-- what is done with a reply, by what comes after it
abbrev pub IsTaken : List ℕ → Taken → ByteReplica → ByteReplica → Type 0
IsTaken reply Asks old new = AsksOn reply 0 old new
IsTaken reply (Joined count) old new = JoinsWhatCame reply count old new
IsTaken reply (Cut count) old new = IsCutShort reply count old new
IsTaken reply (Failed status) old new = IsDropped old new × IsEarly status × IsStoppedBy reply status old

-- a reply was given to the catch-up that is under way, or none is, and all stays
abbrev pub TakesReply : List ℕ → ByteReplica → ByteReplica → Option Taken → Type 0
TakesReply reply old new result = MatchOption result (IsIdle old × (new ≡ old)) (λ taken. IsTaken reply taken old new)

-- what is done with rows that came
abbrev pub JoinsOrCuts : List (Vec ℕ × ByteValue) → Taken → ByteReplica → ByteReplica → Type 0
JoinsOrCuts rows Asks old new = ⊥
JoinsOrCuts rows (Joined count) old new = (count ≡ length rows) × JoinsRows rows old new × SameTalk old new
JoinsOrCuts rows (Cut count) old new =
    (count < length rows) × JoinsRows (take count rows) old new × (count ≡ 0 → new.replica.rows ≡ old.replica.rows) × SameTalk old new
JoinsOrCuts rows (Failed status) old new = ⊥

-- the root page has this digest
abbrev pub HasRootDigest : List ℕ → ByteReplica → Type 0
HasRootDigest digest held = digest ≡ page_digest held.replica.tree.format key_items held.replica.tree.root
