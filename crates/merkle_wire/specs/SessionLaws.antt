-- What holds of sessions of messages with a peer that answers by its rows: they bring what is missing, they end, and they cost what is missing.
use Rattle.std.specs.Prelude.{◌≡◌, ℕ, ◌+◌, ◌≤◌, ◌↔◌, IsTrue, List, [], ◌∷◌, length, map, Bool, ◌⊎◌, Option, if◌then◌else◌}
use Rattle.std.specs.Global.{Vec}
use Rattle.key_order.specs.Join.{IsJoin}
use Rattle.key_order.specs.Map.{IsMap}
use Rattle.merkle_replica.specs.CatchUp.{IsCatchUp}
use Rattle.merkle_replica.specs.Contents.{Side, tree_map}
use Rattle.merkle_replica.specs.Faithful.{AreSetAlike, HasSmallMap, IsCollisionFree}
use Rattle.merkle_replica.specs.Laws.{Laws}
use Rattle.merkle_replica.specs.Missing.{own_tree}
use Rattle.merkle_tree_theory.specs.Canonical.{IsTreeOf}
use Rattle.merkle_tree_theory.specs.Gap.{Gap, everywhere, part_before, part_behind}
use Rattle.merkle_tree_theory.specs.State.{State}
use Rattle.merkle_tree_theory.specs.declared.page_format.PageFormat.TheVariants.{V2}
use Rattle.merkle_wire.specs.Underway.{nothing, Found, Underway}
use Rattle.merkle_wire.specs.Next.{IsNext, IsStopped}
use Rattle.merkle_wire.specs.Questions.{question_bytes, AsksNothing}
use Rattle.merkle_wire.specs.Replies.{IsReply, AsksWithOthers}
use Rattle.merkle_wire.specs.Sessions.{AreBrought, DigestTheirValuesAlike, IsFaithfulSession, NoNodesCollide, CanBeTold}
use Rattle.merkle_wire.specs.Taking.{HasPageAt, new_keys, HasTakenReply}
use Rattle.merkle_wire.specs.declared.catching_up.Next.{Next}
use Rattle.merkle_wire.specs.declared.catching_up.Next.TheVariants.{Ask, Came}
use Rattle.merkle_wire.specs.declared.message.Kind.{Kind}
use Rattle.merkle_wire.specs.declared.message.Kind.TheVariants.{Outlines as outlines_kind, Nodes as nodes_kind, RowsAt as rows_at_kind}
use Rattle.merkle_wire.specs.declared.question.Question.{Question}
use Rattle.merkle_wire.specs.declared.question.Question.TheVariants.{Root, Outlines, Nodes, RowsAt}
use Rattle.merkle_wire.specs.declared.session_error.SessionError.{SessionError}
use Rattle.merkle_wire.specs.declared.settings.Settings.{Settings}
use Rattle.merkle_wire.specs.Faults.{IsUnread, AreOtherSettings}
use Rattle.merkle_wire.specs.declared.session.MessagesError.{MessagesError}
use Rattle.merkle_wire.specs.declared.session.MessagesError.TheVariants.{Answer, Session, Join}
use Rattle.merkle_wire.specs.declared.limits.Limit.{Limit}
use Rattle.merkle_wire.specs.declared.session_error.SessionError.TheVariants.{Memory, Limit as LimitReached}
use Rattle.merkle_tree_theory.specs.Stream.{page_digest}
use Rattle.merkle_tree_theory.specs.Tree.{Tree, page, Row, high, node, Held, nothing as nothing_held, below}
use Rattle.merkle_tree_theory.specs.declared.page_format.PageFormat.{PageFormat}

-- a catch-up that begins asks for the root, and has found nothing
abbrev pub IsBegun : {K V : Type 0} → Underway K V → Type 0
IsBegun begun = (settings : Settings _) × (begun.asked ≡ Root settings) × (begun.found ≡ nothing) × (begun.rounds ≡ 0)

module _ {K : Type 0} (format : PageFormat) (bytes_of : K → List ℕ) (is_there : Gap K → List ℕ → Bool) where
  abbrev mutual
    -- how many pages aren't there of one that fills a gap, which counts, and those below it; below one that is there none counts
    pub lacked_pages : Gap K → Tree K (List ℕ) → ℕ
    lacked_pages g (page l c r) = 1 + lacked_in_row g r

    -- of those of a row that stands in the gap
    pub lacked_in_row : Gap K → Row K (List ℕ) → ℕ
    lacked_in_row g (high h) = lacked_in_held g h
    lacked_in_row g (node h k d r) = lacked_in_held (part_before g k) h + lacked_in_row (part_behind g k) r

    -- of what stands between two of its keys
    pub lacked_in_held : Gap K → Held K (List ℕ) → ℕ
    lacked_in_held g nothing_held = 0
    lacked_in_held g (below t) = if (is_there g (page_digest format bytes_of t)) then 0 else (lacked_pages g t)

  -- how many pages of a whole tree aren't there
  abbrev pub lacked_of_tree : Tree K (List ℕ) → ℕ
  lacked_of_tree (page l c (high h)) = 0
  lacked_of_tree (page l c (node h k d r)) = lacked_in_held everywhere (below (page l c (node h k d r)))

module _ {K V H : Type 0} (laws : Laws K V H) where
  -- to join such rows is a catch-up, while digests are faithful, and leaves the join of both sides' rows
  abbrev pub BroughtRowsCatchUp : Type 0
  BroughtRowsCatchUp = (local peer : Side K V H) (rows after : List (K × V)) → IsMap laws.cmp peer.rows → AreBrought laws local peer rows
      → IsJoin laws.cmp laws.eq laws.join local.rows rows after → IsFaithfulSession laws local peer
      → IsCatchUp laws local peer (map (λ r. r.0) rows) after × IsJoin laws.cmp laws.eq laws.join local.rows peer.rows after

  -- in page format 2 digests are faithful in a session of two sides that are set alike, where nothing collides
  abbrev pub NoCollisionIsFaithful : ℕ → Type 0
  NoCollisionIsFaithful n = (a b : Side K V H) → AreSetAlike laws a b → DigestTheirValuesAlike laws a b → a.format ≡ V2
      → IsCollisionFree laws n a b → NoNodesCollide laws a b → IsFaithfulSession laws a b

module _ {K V H : Type 0} (laws : Laws K V H) (n : ℕ) (encoding : K → List ℕ) (values : V → List ℕ) where
  -- the peer's reply to what a catch-up asks, as `answer` says of it: it read the same question, up to bytes, and answered by a tree of its map
  pub record IsPeerReply (local peer : Side K V H) (before : Underway K V) (reply : List ℕ) : Type 0 where
    pub question : Question K
    pub tree : State K H
    pub reads : question_bytes encoding before.asked ≡ question_bytes encoding question
    pub settings : (tree.hasher ≡ peer.hasher) × (tree.base ≡ peer.base) × (tree.format ≡ peer.format)
    pub of_peer : IsTreeOf laws.cmp (laws.key_digest peer.hasher) peer.base tree.root (tree_map laws peer)
    pub answers : IsReply laws n encoding values peer.rows tree question reply

  -- one exchange of messages: a reply was taken, as `CatchingUp::take` says of it, after which this came next
  pub record IsExchange (local peer : Side K V H) (before : Underway K V) (next : Next K V) : Type 0 where
    pub reply : List ℕ
    pub answer : IsPeerReply local peer before reply
    pub takes : IsNext laws n encoding values local before reply next

  -- an exchange fails: the message has no reply, as `answer` says of it by a tree with the peer's settings; or the peer's reply is not taken
  abbrev pub FailsToExchange : Side K V H → Side K V H → (K → Type 0) → (V → Type 0) → Underway K V → MessagesError → Type 0
  FailsToExchange local peer is_key is_value before (Answer error) = (IsUnread error → AsksNothing encoding is_key (question_bytes encoding before.asked))
      × (AreOtherSettings error → (tree : State K H) × ((tree.hasher ≡ peer.hasher) × (tree.base ≡ peer.base) × (tree.format ≡ peer.format))
      × AsksWithOthers laws n encoding tree (question_bytes encoding before.asked))
  FailsToExchange local peer is_key is_value before (Session error) = (reply : List ℕ) × IsMap laws.cmp local.rows × IsMap laws.cmp peer.rows
      × IsPeerReply local peer before reply × IsStopped laws n encoding values is_key is_value local before reply error
  FailsToExchange local peer is_key is_value before (Join done) = ⊥

  -- exchanges, one after the other, after which the catch-up waits for a reply
  abbrev pub AreExchangesTo : Side K V H → Side K V H → Underway K V → List (Underway K V) → Underway K V → Type 0
  AreExchangesTo local peer before [] last = before ≡ last
  AreExchangesTo local peer before (next ∷ more) last = (message : Vec ℕ) × IsExchange local peer before (Ask next message) × AreExchangesTo local peer next more last

  -- of sessions so far this holds, where both sides' rows ascend and the peer's map is small
  abbrev pub InSessions : ((local peer : Side K V H) (begun last : Underway K V) (more : List (Underway K V)) → AreExchangesTo local peer begun more last → Type 0) → Type 0
  InSessions Holds = (local peer : Side K V H) → IsMap laws.cmp local.rows → IsMap laws.cmp peer.rows → HasSmallMap laws n peer
      → (begun last : Underway K V) (more : List (Underway K V)) → IsBegun begun → (so_far : AreExchangesTo local peer begun more last) → Holds local peer begun last more so_far

  -- a session that begins with a question for the root, and in which rows came, brings rows of the peer that the side lacks
  abbrev pub SessionsBring : Type 0
  SessionsBring = (local peer : Side K V H) → IsMap laws.cmp local.rows → IsMap laws.cmp peer.rows → HasSmallMap laws n peer
      → (begun last : Underway K V) (settings : Settings K) (more : List (Underway K V)) (rows : Vec (K × V)) → begun.asked ≡ Root settings → begun.found ≡ nothing
      → AreExchangesTo local peer begun more last → IsExchange local peer last (Came rows) → AreBrought laws local peer rows.items

  -- an answer of a peer whose rows can be told fails then only when out of memory or at a limit
  abbrev pub AnswersAreTaken : (K → Type 0) → (V → Type 0) → Type 0
  AnswersAreTaken is_key is_value = InSessions (λ local peer begun last more so_far. CanBeTold laws is_key is_value peer
      → (reply : List ℕ) (error : SessionError) → IsPeerReply local peer last reply → IsStopped laws n encoding values is_key is_value local last reply error
      → (error ≡ Memory) ⊎ ((limit : Limit) × (error ≡ LimitReached limit)))

  -- how many entries were taken of a reply of a kind: outlines, nodes of pages alone, or values at keys
  abbrev pub entries_taken : (local : Side K V H) → Kind → (asked : Question K) (reply : List ℕ) (before after : Found K V) (again : Option (Question K))
      → HasTakenReply laws n encoding values local asked reply before after again → ℕ
  entries_taken local outlines_kind (Outlines most gaps) reply before after again (left, has, asks) = length has.0
  entries_taken local nodes_kind (Nodes most gaps) reply before after again (left, has, asks) = length has.0
  entries_taken local rows_at_kind (RowsAt keys) reply before after again (left, has, asks) = length has.0
  entries_taken local _ _ reply before after again taken = 0

  -- how many entries of a reply of this kind an exchange told
  abbrev pub entries_told : (local peer : Side K V H) → Kind → (before : Underway K V) (next : Next K V) → IsExchange local peer before next → ℕ
  entries_told local peer kind before next e = entries_taken local kind before.asked e.reply before.found e.takes.0 e.takes.1 e.takes.2

  -- and how many exchanges told, one after the other
  abbrev pub told_in : (local peer : Side K V H) → Kind → (before : Underway K V) (more : List (Underway K V)) (last : Underway K V) → AreExchangesTo local peer before more last → ℕ
  told_in local peer kind before [] last is = 0
  told_in local peer kind before (next ∷ more) last (message, e, others) = entries_told local peer kind before (Ask next message) e + told_in local peer kind next more last others

  -- with one exchange more, outlines tell no more pages than the side hasn't at their places, and the nodes of no more are told alone
  abbrev pub LackedPagesAreTold : Type 0
  LackedPagesAreTold = InSessions (λ local peer begun last more so_far. (next : Next K V) (e : IsExchange local peer last next)
      (is_there : Gap K → List ℕ → Bool) → ((g : Gap K) (d : List ℕ) → IsTrue (is_there g d) ↔ HasPageAt laws local g d)
      → let told = λ (kind : Kind). told_in local peer kind begun more last so_far + entries_told local peer kind last next e in
      (told outlines_kind ≤ lacked_of_tree peer.format laws.bytes_of is_there (own_tree laws peer)) × (told nodes_kind ≤ told outlines_kind))

  -- and values are told at no more keys than the side lacks of the peer's, or has with another digest
  abbrev pub LackedKeysAreTold : Type 0
  LackedKeysAreTold = InSessions (λ local peer begun last more so_far. (next : Next K V) (e : IsExchange local peer last next)
      → told_in local peer rows_at_kind begun more last so_far + entries_told local peer rows_at_kind last next e ≤ length (new_keys laws local (tree_map laws peer)))
