-- What a session of messages brings, the rows of the peer that a side lacks, and when it ends early.
use Rattle.std.specs.Prelude.{◌≡◌, ℕ, ◌<◌, true, false, List, map, flat_map, length, take, Some, ⊤, ◌^◌}
use Rattle.std.specs.List.{AllByRecursion}
use Rattle.key_order.specs.Join.{IsJoin}
use Rattle.key_order.specs.Order.{AnyByRecursion, Same}
use Rattle.key_order.specs.Map.{IsMap, get}
use Rattle.merkle_replica.specs.CatchUp.{IsLacked}
use Rattle.merkle_replica.specs.Contents.{Contents, Side, side, with_rows, tree_map}
use Rattle.merkle_replica.specs.Faithful.{AreSetAlike, IsFaithful}
use Rattle.merkle_replica.specs.Laws.{Laws}
use Rattle.merkle_tree_theory.specs.Page.{nodes_of}
use Rattle.merkle_tree_theory.specs.Ranges.{IsPageOf}
use Rattle.merkle_tree_theory.specs.Tree.{Tree}
use Rattle.merkle_wire.specs.Faults.{AreOtherSettings}
use Rattle.merkle_wire.specs.Outlines.{digest_of_all}
use Rattle.merkle_wire.specs.Taking.{has_digest}
use Rattle.merkle_wire.specs.declared.session.BothMessagesError.{BothMessagesError}
use Rattle.merkle_wire.specs.declared.session.BothMessagesError.TheVariants.{First, Second}
use Rattle.merkle_wire.specs.declared.session.MessagesError.{MessagesError}
use Rattle.merkle_wire.specs.declared.session.MessagesError.TheVariants.{Answer, Session, Join}
use Rattle.std.specs.declared.cmp.Ordering.{Ordering}
use Rattle.merkle_wire.specs.declared.answering.AnswerError.TheVariants as answer
use Rattle.merkle_wire.specs.declared.session_error.SessionError.TheVariants as session
use Rattle.merkle_replica.specs.Pulls.{HoldTheJoin}

module _ {K V H : Type 0} (laws : Laws K V H) (local peer : Side K V H) where
  -- the catch-up ended before it joined: for settings only where the sides are not set alike
  abbrev pub EndsBeforeJoin : MessagesError → Type 0
  EndsBeforeJoin (Answer error) = AreOtherSettings error → ¬ AreSetAlike laws local peer
  EndsBeforeJoin (Session error) = ⊤
  EndsBeforeJoin (Join done) = ⊥

  -- at the keys of the nodes of a page of the peer's tree local has the digests ds of values, and the peer es; and the digest of both is one
  abbrev pub HaveOneNodesDigest : List (List ℕ) → List (List ℕ) → Type 0
  HaveOneNodesDigest ds es = (page : Tree K (List ℕ)) × IsPageOf laws.cmp (laws.key_digest peer.hasher) peer.base page (tree_map laws peer)
      × (map (λ n. get laws.cmp (tree_map laws local) n.key) (nodes_of page) ≡ map Some ds) × (map (λ n. n.digest) (nodes_of page) ≡ es) × (digest_of_all ds ≡ digest_of_all es)

  -- where the digest of the nodes of a page of the peer is equal on both sides, the digests of the values are
  abbrev pub HaveFaithfulNodes : Type 0
  HaveFaithfulNodes = (ds es : List (List ℕ)) → HaveOneNodesDigest ds es → ds ≡ es

  -- both sides give each value of the peer's rows one digest
  abbrev pub DigestTheirValuesAlike : Type 0
  DigestTheirValuesAlike = (k : K) (v : V) → get laws.cmp peer.rows k ≡ Some v → laws.value_digest local.hasher v ≡ laws.value_digest peer.hasher v

  -- digests are faithful: those of pages and of values, those of the nodes of a page, and both sides digest the peer's values alike
  pub record IsFaithfulSession : Type 0 where
    pub faithful : IsFaithful laws local peer
    pub nodes : HaveFaithfulNodes
    pub values : DigestTheirValuesAlike

  -- the nodes of no page of the peer collide: where their digest is equal on both sides, the digests of the values, in a row, are the same bytes
  abbrev pub NoNodesCollide : Type 0
  NoNodesCollide = (ds es : List (List ℕ)) → HaveOneNodesDigest ds es → flat_map (λ d. d) ds ≡ flat_map (λ e. e) es

  -- the row is one of the peer's, an equal key with an equal value, that local lacks, or has with another digest, by its own hasher
  abbrev pub IsNewRow : K × V → Type 0
  IsNewRow row = ((v : V) × (get laws.cmp peer.rows row.0 ≡ Some v) × (laws.eq row.1 v ≡ true)) × (has_digest laws local row.0 (laws.value_digest local.hasher row.1) ≡ false)

  -- rows in ascending key order, each of them new, and, while digests are faithful, one at each key that local lacks
  pub record AreBrought (rows : List (K × V)) : Type 0 where
    pub ascending : IsMap laws.cmp rows
    pub new : AllByRecursion IsNewRow rows
    pub all : IsFaithfulSession → (k : K) → IsLacked laws local peer k → AnyByRecursion (λ r. Same laws.cmp k r.0) rows

  -- this many such rows are joined
  abbrev pub HasJoined : ℕ → List (K × V) → Type 0
  HasJoined joined after = (rows : List (K × V)) × (joined ≡ length rows) × AreBrought rows × IsJoin laws.cmp laws.eq laws.join local.rows rows after

  -- nothing is joined; or the first `done` of such rows, and not all
  abbrev pub IsMessagesRefused : MessagesError → List (K × V) → Type 0
  IsMessagesRefused (Answer error) after = (after ≡ local.rows) × (AreOtherSettings error → ¬ AreSetAlike laws local peer)
  IsMessagesRefused (Session error) after = after ≡ local.rows
  IsMessagesRefused (Join done) after = (rows : List (K × V)) × AreBrought rows × (done < length rows)
      × IsJoin laws.cmp laws.eq laws.join local.rows (take done rows) after × (done ≡ 0 → after ≡ local.rows)

-- while digests are faithful before each of the two, both hold the join
abbrev pub BothHoldTheJoin : {K V H : Type 0} → Laws K V H → Contents K V H → Contents K V H → Contents K V H → Contents K V H → Type 0
BothHoldTheJoin laws a b a' b' = IsFaithfulSession laws (side a) (side b) → IsFaithfulSession laws (side b) (with_rows (side a) a'.rows) → HoldTheJoin laws (side a) (side b) a'.rows b'.rows

-- the first of them ended early, or the second
abbrev pub AreBothRefused : {K V H : Type 0} → Laws K V H → Contents K V H → Contents K V H → Contents K V H → Contents K V H → BothMessagesError → Type 0
AreBothRefused laws a b a' b' (First error) = IsMessagesRefused laws (side a) (side b) error a'.rows × (b'.rows ≡ b.rows)
AreBothRefused laws a b a' b' (Second first error) = HasJoined laws (side a) (side b) first a'.rows × IsMessagesRefused laws (side b) (with_rows (side a) a'.rows) error b'.rows

-- the rows of a side can be told and read again: there are fewer than 2 ^ 64, and of these hold what holds of keys and values that are read
pub record CanBeTold {K V H : Type 0} (laws : Laws K V H) (is_key : K → Type 0) (is_value : V → Type 0) (side : Side K V H) : Type 0 where
  pub few : length side.rows < 2 ^ 64
  pub read : (k : K) (v : V) → get laws.cmp side.rows k ≡ Some v → is_key k × is_value v

-- the key is one of the rows', or equal to one
abbrev pub IsKeyOf : {K V : Type 0} → (K → K → Ordering) → List (K × V) → K → Type 0
IsKeyOf {K} {V} cmp rows k = (v : V) × (get cmp rows k ≡ Some v)

-- between sides that are set alike and whose rows can be told, only a lack of memory leaves a message without a reply, or a reply not taken
abbrev pub IsForMemory : {K V H : Type 0} → Laws K V H → Side K V H → Side K V H → (K → Type 0) → (V → Type 0) → MessagesError → Type 0
IsForMemory laws local peer is_key is_value (Answer error) = AreSetAlike laws local peer → CanBeTold laws is_key is_value local → CanBeTold laws is_key is_value peer → error ≡ answer.Memory
IsForMemory laws local peer is_key is_value (Session error) = CanBeTold laws is_key is_value peer → error ≡ session.Memory
IsForMemory laws local peer is_key is_value (Join done) = ⊤
