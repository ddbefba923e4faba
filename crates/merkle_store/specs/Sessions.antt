-- A catch-up of a replica of entries with a peer, over two streams, and what a peer answers over them.
use Rattle.std.specs.Prelude.{◌≡◌, ℕ, ◌≤◌, Bool, true, false, List, [], length, Option, string_bytes}
use Rattle.std.specs.Global.{Vec}
use Rattle.std.specs.Io.KnownBytes.{Appends, Consumes}
use Rattle.std.specs.List.{AllByRecursion, flat_map}
use Rattle.key_order.specs.Map.{IsMap}
use Rattle.key_order.specs.Text.{Text, text_order}
use Rattle.merkle_bytes.specs.Encodings.{string_encoding}
use Rattle.merkle_digest.specs.SipDigests.{text_digest}
use Rattle.merkle_digest.specs.SipHash.{siphash128}
use Rattle.merkle_replica.specs.Contents.{Contents, side}
use Rattle.merkle_replica.specs.Faithful.{HasSmallMap}
use Rattle.merkle_replica.specs.Laws.{Laws}
use Rattle.merkle_wire.specs.ItsRows.{AreDigestsOf, Digests, ForRowsOf, side_of}
use Rattle.merkle_wire.specs.Next.{IsNext}
use Rattle.merkle_wire.specs.Sessions.{AreBrought}
use Rattle.merkle_wire.specs.Underway.{Underway}
use Rattle.merkle_wire.specs.declared.catching_up.Next.{Next}
use Rattle.store_file.specs.RegisterBytes.{register_bytes}
use Rattle.store_file.specs.WireRegisters.{register_encoding}
use Rattle.store_file.specs.declared.register.Register.{Register}
use Rattle.merkle_store.specs.Exchanges.{AreRepliesBy, BeginsCatchUp, Exchange, IsMessageAnswered, LeadTo, NoneCollides, Wire, on_wire}
use Rattle.merkle_store.specs.Framing.{HasEnded, Streams, frame_of}
use Rattle.merkle_store.specs.declared.serving.Served.{Served}
use Rattle.merkle_store.specs.Kept.{same_register, later_register}

-- a replica of entries under SipHash, whose hasher is seen as its key
abbrev pub EntryContents : Type 0
EntryContents = Contents Text Register (List ℕ)

-- the order of keys, their bytes and digests; the equality of registers, the later of two, and their digests
abbrev pub entry_laws : Laws Text Register (List ℕ)
entry_laws = record {
  cmp = text_order;
  bytes_of = string_bytes;
  key_digest = text_digest;
  eq = same_register;
  join = later_register;
  value_digest = λ key register. siphash128 key (register_bytes register);
}

-- a key in a message: how many bytes there are, and the bytes
abbrev pub text_key_encoding : Text → List ℕ
text_key_encoding key = string_encoding (string_bytes key)

-- a side asks by these digests: they are those of its rows, under the settings of its tree
pub record AsksByRows (own : Digests Text (List ℕ)) (contents : EntryContents) : Type 0 where
  pub digests : AreDigestsOf entry_laws own contents.rows
  pub settings : side_of own contents.rows ≡ side contents

-- a catch-up of the side begins so, with this question
abbrev pub CatchUpBegins : EntryContents → Underway Text Register → List ℕ → Type 0
CatchUpBegins = BeginsCatchUp entry_laws 16 text_key_encoding

-- whatever rows these are the digests of, the reply is taken in a catch-up of them, and this comes next
abbrev pub Takes : Digests Text (List ℕ) → Underway Text Register → List ℕ → Next Text Register → Type 0
Takes own session reply next = ForRowsOf entry_laws own (λ local. IsNext entry_laws 16 text_key_encoding register_encoding local session reply next)

-- a replica answers a message
abbrev pub AnswersMessage : EntryContents → EntryContents → List ℕ → Vec ℕ → Type 0
AnswersMessage old new message reply = IsMessageAnswered entry_laws 16 text_key_encoding register_encoding old new message reply.items

-- all messages of the asking side, each after its length, and all replies likewise
abbrev pub all_asked : Wire → List ℕ
all_asked wire = flat_map (λ e. frame_of e.0) wire

abbrev pub all_told : Wire → List ℕ
all_told wire = flat_map (λ e. frame_of e.1) wire

-- the replica catches up with whoever reads one stream and writes the other: its messages are written, their replies read, of this many bytes at most each,
-- and these entries come
pub record CatchesUp (replica : EntryContents) (most : ℕ) (before after : Streams) (entries : List (Text × Register)) : Type 0 where
  pub session : Underway Text Register
  pub question : Vec ℕ
  pub begins : BeginsCatchUp entry_laws 16 text_key_encoding replica session question.items
  pub exchanges : List Exchange
  pub leads : LeadTo entry_laws 16 text_key_encoding register_encoding (side replica) entries exchanges session question.items
  pub fits : AllByRecursion (λ e. length e.1 ≤ most) (on_wire exchanges)
  pub asked : Appends before.0 after.0 (all_asked (on_wire exchanges))
  pub told : Consumes before.1 after.1 (all_told (on_wire exchanges))

-- the replica replies to these messages, read from one stream, of this many bytes at most each, on the other
pub record IsServed (replica : EntryContents) (most : ℕ) (before after : Streams) (wire : Wire) : Type 0 where
  pub replies : AreRepliesBy entry_laws 16 text_key_encoding register_encoding replica wire
  pub fits : AllByRecursion (λ e. length e.0 ≤ most) wire
  pub asked : Consumes before.1 after.1 (all_asked wire)
  pub told : Appends before.0 after.0 (all_told wire)

-- it does so to all messages that are read
abbrev pub HasServed : EntryContents → ℕ → Streams → Streams → Type 0
HasServed replica most before after = (wire : Wire) × IsServed replica most before after wire

-- the peer asks no more: a message of no bytes was read, which gives the turn to this side; or nothing is left
abbrev pub AsksNoMore : Bool → Option (List ℕ) → Option (List ℕ) → Type 0
AsksNoMore true before after = Consumes before after (frame_of [])
AsksNoMore false before after = HasEnded before after

-- behind them a message of no bytes was read where that gives the turn to this side, and else nothing is left
pub record ServesPeer (replica : EntryContents) (most : ℕ) (before after : Streams) (served : Served) : Type 0 where
  pub read : Option (List ℕ)
  pub answered : HasServed replica most before (after.0, read)
  pub ended : AsksNoMore served.is_turn read after.1

-- a catch-up over two streams, to each of whose messages a peer replied over its own, brings what is missing, while no digest of its replies collides
abbrev pub ServedBring : Type 0
ServedBring = (local peer : EntryContents) (most its_most : ℕ) (before after its_before its_after : Streams) (entries : List (Text × Register))
    (caught_up : CatchesUp local most before after entries) (served : IsServed peer its_most its_before its_after (on_wire caught_up.exchanges))
    → IsMap text_order local.rows → IsMap text_order peer.rows → HasSmallMap entry_laws 16 (side peer)
    → NoneCollides entry_laws 16 text_key_encoding register_encoding peer caught_up.exchanges served.replies → AreBrought entry_laws (side local) (side peer) entries
