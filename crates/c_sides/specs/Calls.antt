-- What the calls do to a tree, to the catch-up that it is in, and to the message and the list that are kept.
use Rattle.std.specs.Prelude.{◌≡◌, ◌≢◌, ◌⊎◌, ℕ, Bool, List, [], length, replicate, Option, None, Some, MatchOption, ⊤}
use Rattle.std.specs.Global.{Vec}
use Rattle.c_rows.specs.Values.{by_bytes_all, byte_laws, key_encoding, value_encoding}
use Rattle.c_values.specs.Keys.{bytes_cmp, key_items, key_cmp, pairs_of}
use Rattle.c_values.specs.Lists.{row_list}
use Rattle.c_values.specs.Trees.{IsDel, IsSetTo}
use Rattle.c_rows.specs.declared.value.ByteValue.{ByteValue}
use Rattle.key_order.specs.Map.{IsMap, get}
use Rattle.merkle_digest.specs.SipHash.{siphash128}
use Rattle.merkle_search_tree.specs.Loading.{row_count}
use Rattle.merkle_tree_theory.specs.Hashed.{hashed_tree}
use Rattle.merkle_tree_theory.specs.State.{IsNew, SameSettings, map_of}
use Rattle.merkle_tree_theory.specs.Stream.{page_digest}
use Rattle.merkle_tree_theory.specs.declared.page_format.PageFormat.{PageFormat}
use Rattle.merkle_wire.specs.Underway.{nothing, Underway}
use Rattle.merkle_wire.specs.Next.{IsNext, IsStopped}
use Rattle.merkle_wire.specs.Questions.{AsksForRoot, question_bytes}
use Rattle.merkle_wire.specs.Replies.{IsAnsweredWithin, IsAnsweredBy}
use Rattle.merkle_wire.specs.declared.catching_up.Next.{Next}
use Rattle.merkle_wire.specs.declared.catching_up.Next.TheVariants.{Ask, Came}
use Rattle.merkle_wire.specs.declared.question.Question.{Question}
use Rattle.merkle_wire.specs.declared.question.Question.TheVariants.{Root, Outlines, Nodes, RowsAt, RowsIn}
use Rattle.merkle_wire.specs.declared.session_error.SessionError.{SessionError}
use Rattle.c_sides.specs.Needs.{AreNeeds}
use Rattle.c_sides.specs.declared.byte_sync.ByteSync.{ByteSync}
use Rattle.c_sides.specs.declared.byte_sync.Taken.{Taken}
use Rattle.c_sides.specs.declared.byte_sync.Taken.TheVariants.{Asks, Kept, Lost, Failed}
use Rattle.c_rows.specs.Ends.{IsEarly, SendsNothing, early_status}
use Rattle.merkle_wire.specs.ItsRows.{ForRowsOf, digests_of}

-- the empty tree with these settings, no catch-up, no message and no list
pub record IsFresh (key : List ℕ) (base : ℕ) (format : PageFormat) (new : ByteSync) : Type 0 where
  pub tree : IsNew key base format new.tree
  pub session : new.session ≡ None
  pub message : new.message.items ≡ []
  pub list : new.list.items ≡ []

-- the map and the settings stay
pub record SameTree (old new : ByteSync) : Type 0 where
  pub map : map_of new.tree ≡ map_of old.tree
  pub settings : SameSettings old.tree new.tree

-- the catch-up stays
abbrev pub SameSession : ByteSync → ByteSync → Type 0
SameSession old new = new.session ≡ old.session

-- the message stays
abbrev pub SameMessage : ByteSync → ByteSync → Type 0
SameMessage old new = new.message ≡ old.message

-- the list stays
abbrev pub SameList : ByteSync → ByteSync → Type 0
SameList old new = new.list ≡ old.list

-- a call that answers leaves the map, the settings and the catch-up, and the message too where none is to be sent
pub record KeepsSide (status : ℕ) (old new : ByteSync) : Type 0 where
  pub tree : SameTree old new
  pub session : SameSession old new
  pub message : SendsNothing status → SameMessage old new

-- it leaves these, and the list too where no rows are needed
pub record KeepsOrNeeds (status : ℕ) (old new : ByteSync) : Type 0 where
  pub side : KeepsSide status old new
  pub list : status ≢ 8 → SameList old new

-- the catch-up, the message and the list stay
abbrev pub SameTalk : ByteSync → ByteSync → Type 0
SameTalk old new = SameSession old new × SameMessage old new × SameList old new

-- the map has the key with the digest of the value, and the rest stays
pub record IsPairSet (key value : List ℕ) (old new : ByteSync) : Type 0 where
  pub tree : IsSetTo key (siphash128 old.tree.hasher value) old.tree new.tree
  pub talk : SameTalk old new

-- the map no longer has the key, whether it had it was answered, and the rest stays
pub record IsPairDel (key : List ℕ) (found : Bool) (old new : ByteSync) : Type 0 where
  pub tree : IsDel key found old.tree new.tree
  pub talk : SameTalk old new

-- the key has this digest, or none
abbrev pub HasAt : List ℕ → Option (List ℕ) → ByteSync → Type 0
HasAt key found held = get bytes_cmp (pairs_of held.tree) key ≡ found

-- there are this many keys, at most what a `usize` holds
abbrev pub HasKeys : ℕ → ByteSync → Type 0
HasKeys count held = count ≡ row_count (map_of held.tree)

-- the root page has this digest
abbrev pub HasRootDigest : List ℕ → ByteSync → Type 0
HasRootDigest digest held = digest ≡ page_digest held.tree.format key_items held.tree.root

-- the digests that pages lacked are filled in, and nothing else changes
abbrev pub OnlyHashes : ByteSync → ByteSync → Type 0
OnlyHashes old new = (new.tree ≡ hashed_tree key_items old.tree) × SameTalk old new

-- a reply that a side with these rows and this tree makes to a question
abbrev pub IsReplyOf : List (Vec ℕ × ByteValue) → List ℕ → ByteSync → Type 0
IsReplyOf rows question new = IsAnsweredBy byte_laws 16 key_encoding value_encoding rows new.tree question new.message

-- how many rows a reply that tells none speaks of: as many as there are keys, where the root is asked for, and else of none
abbrev pub CountsFor : Question (Vec ℕ) → ByteSync → ℕ → Type 0
CountsFor (Root settings) held count = HasKeys count held
CountsFor (Outlines most gaps) held count = count ≡ 0
CountsFor (Nodes most gaps) held count = count ≡ 0
CountsFor (RowsAt keys) held count = count ≡ 0
CountsFor (RowsIn gaps) held count = count ≡ 0

-- the question asks, and the message is a reply to it of a side with this tree and this many rows
pub record IsAnswered (question : List ℕ) (old new : ByteSync) : Type 0 where
  pub asked : Question (Vec ℕ)
  pub asks : question ≡ question_bytes key_encoding asked
  pub count : ℕ
  pub counted : CountsFor asked old count
  pub row : Vec ℕ × ByteValue
  pub replies : IsReplyOf (replicate count row) question new

-- the question asks for rows, and the list says which
pub record IsNeeded (question : List ℕ) (new : ByteSync) : Type 0 where
  pub asked : Question (Vec ℕ)
  pub asks : question ≡ question_bytes key_encoding asked
  pub needs : AreNeeds asked new.list.items

-- rows were handed in that ascend, and the message is the reply to the question of a side with this tree and these rows
pub record IsAnsweredWith (question list : List ℕ) (new : ByteSync) : Type 0 where
  pub rows : List (Vec ℕ × ByteValue)
  pub spelled : list ≡ row_list (by_bytes_all rows)
  pub ascending : IsMap key_cmp rows
  pub replies : IsReplyOf rows question new

-- the reply ends with the entry that brings it to this many bytes, or has all entries
abbrev pub EndsBy : ℕ → List ℕ → ByteSync → Type 0
EndsBy most question new = IsAnsweredWithin key_encoding value_encoding most question new.message

-- a catch-up began that asks for the root with the settings of the tree, and the message asks that; the tree and the list stay
pub record HasBegun (old new : ByteSync) : Type 0 where
  pub begun : Underway (Vec ℕ) ByteValue
  pub under_way : new.session ≡ Some begun
  pub settings : AsksForRoot byte_laws.key_digest 16 (digests_of old.tree) begun.asked
  pub nothing_found : (begun.found ≡ nothing) × (begun.rounds ≡ 0)
  pub asks : new.message.items ≡ question_bytes key_encoding begun.asked
  pub tree : new.tree ≡ old.tree
  pub list : new.list ≡ old.list

-- the catch-up took the reply, and this comes next: it does so for whatever rows the tree has the digests of
pub record HasTaken (reply : List ℕ) (next : Next (Vec ℕ) ByteValue) (old : ByteSync) : Type 0 where
  pub before : Underway (Vec ℕ) ByteValue
  pub under_way : old.session ≡ Some before
  pub comes : ForRowsOf byte_laws (digests_of old.tree) (λ local. IsNext byte_laws 16 key_encoding value_encoding local before reply next)

-- the catch-up took the reply and asks on by the message; the map, the settings and the list stay
pub record AsksOn (reply : List ℕ) (old new : ByteSync) : Type 0 where
  pub asking : Underway (Vec ℕ) ByteValue
  pub taken : HasTaken reply (Ask asking new.message) old
  pub asks : new.session ≡ Some asking
  pub some : length new.message.items ≢ 0
  pub same : SameTree old new
  pub list : new.list ≡ old.list

-- no catch-up is under way
abbrev pub IsIdle : ByteSync → Type 0
IsIdle held = held.session ≡ None

-- the catch-up is over, and there is no message
abbrev pub IsOver : ByteSync → Type 0
IsOver new = (new.session ≡ None) × (new.message.items ≡ [])

-- the catch-up took the reply, rows came, and they are the list; the map and the settings stay
pub record HasBrought (reply : List ℕ) (old new : ByteSync) : Type 0 where
  pub rows : Vec (Vec ℕ × ByteValue)
  pub taken : HasTaken reply (Came rows) old
  pub list : new.list.items ≡ row_list (by_bytes_all rows.items)
  pub same : SameTree old new
  pub over : IsOver new

-- a catch-up was under way and is over; the map, the settings and the list stay
pub record IsDropped (old new : ByteSync) : Type 0 where
  pub under_way : old.session ≢ None
  pub same : SameTree old new
  pub list : new.list ≡ old.list
  pub over : IsOver new

-- the catch-up could not go on with the reply, for an error of this status: whatever rows the tree has the digests of, the reply is none to what was
-- asked, or outlines were to be asked for after 256 rounds of them, or two of the rows that were found have equal keys
pub record IsStoppedBy (reply : List ℕ) (status : ℕ) (old : ByteSync) : Type 0 where
  pub before : Underway (Vec ℕ) ByteValue
  pub under_way : old.session ≡ Some before
  pub error : SessionError
  pub is : status ≡ early_status error
  pub stopped : ForRowsOf byte_laws (digests_of old.tree) (λ local. IsStopped byte_laws 16 key_encoding value_encoding (λ _. ⊤) (λ _. ⊤) local before reply error)

-- a catch-up was under way and is over, by this status; and where that isn't for memory, it could not go on with the reply
pub record IsGivenUp (reply : List ℕ) (status : ℕ) (old new : ByteSync) : Type 0 where
  pub dropped : IsDropped old new
  pub stopped : (status ≡ 2) ⊎ (status ≡ 7) → IsStoppedBy reply status old

-- what is done with a reply, by what comes after it
abbrev pub IsTaken : List ℕ → Taken → ByteSync → ByteSync → Type 0
IsTaken reply Asks old new = AsksOn reply old new
IsTaken reply Kept old new = HasBrought reply old new
IsTaken reply Lost old new = IsDropped old new
IsTaken reply (Failed status) old new = IsDropped old new × IsEarly status × IsStoppedBy reply status old

-- a reply was given to the catch-up that is under way, or none is, and all stays
abbrev pub TakesReply : List ℕ → ByteSync → ByteSync → Option Taken → Type 0
TakesReply reply old new result = MatchOption result (IsIdle old × (new ≡ old)) (λ taken. IsTaken reply taken old new)

-- what is done with rows that came
abbrev pub IsKeptOf : List (Vec ℕ × ByteValue) → Taken → ByteSync → ByteSync → Type 0
IsKeptOf rows Asks old new = ⊥
IsKeptOf rows Kept old new = (new.list.items ≡ row_list (by_bytes_all rows)) × (new.tree ≡ old.tree) × SameSession old new × SameMessage old new
IsKeptOf rows Lost old new = new ≡ old
IsKeptOf rows (Failed status) old new = ⊥
