-- An exchange of messages with an honest peer whose rows and settings stayed as it answered, by any tree of its map: what comes next is steady, leaves less
-- to ask for, and has keys of the two sides alone; and the reply is refused only when out of memory.
use Rattle.std.proofs.Common.{◌≡◌, ℕ, Bool, true, List, length, refl, sym, ap, subst, ◌∙◌, arith, ◌<◌}
use Rattle.std.specs.List.{AllByRecursion}
use Rattle.std.specs.Cmp.{IsTotalOrder, IsEquivalence}
use Rattle.key_order.specs.Map.{IsMap, SameMap}
use Rattle.merkle_digest.specs.Level.{level_of}
use Rattle.merkle_replica.specs.Contents.{Contents, IsKept, Side, side, tree_map}
use Rattle.merkle_replica.specs.Faithful.{HasSmallMap}
use Rattle.merkle_replica.specs.Laws.{Laws}
use Rattle.merkle_replica.proofs.SideLaws.{same_side}
use Rattle.merkle_tree_theory.specs.Canonical.{IsCanonicalRoot, IsTreeOf, SamePages}
use Rattle.merkle_tree_theory.specs.Gap.{Gap}
use Rattle.merkle_tree_theory.specs.State.{SameSettings}
use Rattle.merkle_tree_theory.specs.Stream.{page_digest}
use Rattle.merkle_tree_theory.specs.Tree.{Tree}
use Rattle.merkle_tree_theory.specs.declared.page_format.PageFormat.{PageFormat}
use Rattle.merkle_wire.specs.Underway.{AsksForSome, nothing, Underway}
use Rattle.merkle_wire.specs.Faults.{AreOtherSettings, IsUnread}
use Rattle.merkle_wire.specs.Next.{IsNext, IsStopped, IfAsks}
use Rattle.merkle_wire.specs.Questions.{question_bytes}
use Rattle.merkle_wire.specs.Replies.{IsReply}
use Rattle.merkle_wire.specs.Sessions.{CanBeTold}
use Rattle.merkle_wire.specs.declared.answering.AnswerError.{AnswerError}
use Rattle.merkle_wire.specs.declared.answering.AnswerError.TheVariants as answer
use Rattle.merkle_wire.specs.declared.catching_up.Next.{Next}
use Rattle.merkle_wire.specs.declared.question.Question.{Question}
use Rattle.merkle_wire.specs.declared.question.Question.TheVariants.{Root}
use Rattle.merkle_wire.specs.declared.session_error.SessionError.{SessionError}
use Rattle.merkle_wire.specs.declared.settings.Settings.{Settings}
use Rattle.merkle_wire.proofs.CostExchanges.{exchange_pays}
use Rattle.merkle_wire.proofs.CostKeys.{AsksLacked, PayForKeys, Wants, exchange_pays_for_keys}
use Rattle.merkle_wire.proofs.Costs.{PayFor}
use Rattle.merkle_wire.proofs.Exchanges.{Tell}
use Rattle.merkle_wire.proofs.ExchangeKeys.{next_keys}
use Rattle.merkle_wire.proofs.NextCovers.{exchanged, sides_met}
use Rattle.merkle_wire.proofs.PageCovers.{AreSides}
use Rattle.merkle_wire.proofs.PagesLacked.{TellsOwnPages}
use Rattle.merkle_wire.proofs.TellingQuestions.{SameQuestion, question_tells}
use Rattle.merkle_wire.proofs.SessionEnds.{leaves_less}
use Rattle.merkle_wire.proofs.AskedNext.{next_steady}
use Rattle.merkle_wire.proofs.SteadyCatchUps.{memory_alone, stay, IsMemoryOrLimit}
use Rattle.merkle_wire.specs.declared.message.Kind.TheVariants.{Outlines as outlines_kind, Nodes as nodes_kind, RowsAt as rows_at_kind}
use Rattle.merkle_wire.proofs.Covering.{Covers, CoversNext, ForItsTrees}
use Rattle.merkle_wire.proofs.Steady.{AsksForPages, HasKeysOfSides, IsFilled, IsSteadyCatchUp, times_asked, times_found, left_for}
use Rattle.merkle_wire.specs.SessionLaws.{entries_taken}

-- what comes of a reply: where it is taken, what comes next covers what is missing, is steady, leaves less to ask for, and has keys of the two sides alone;
-- and it is refused only when out of memory
pub record Comes {K V H : Type 0} (laws : Laws K V H) (n : ℕ) (encoding : K → List ℕ) (values : V → List ℕ) (local peer : Side K V H) (before : Underway K V) (reply : List ℕ) : Type 1 where
  pub covers : (next : Next K V) → IsNext laws n encoding values local before reply next → (root : Tree K (List ℕ))
      → IsTreeOf laws.cmp (laws.key_digest peer.hasher) peer.base root (tree_map laws peer) → HasSmallMap laws n peer
      → Covers laws local peer root before → CoversNext laws local peer root encoding next
  pub steady : (next : Next K V) → IsNext laws n encoding values local before reply next
      → ForItsTrees laws n peer (λ root. IsSteadyCatchUp laws peer root before → IfAsks (IsSteadyCatchUp laws peer root) next)
  pub less : (next : Next K V) → IsNext laws n encoding values local before reply next
      → ForItsTrees laws n peer (λ root. IsSteadyCatchUp laws peer root before → IfAsks (λ after. left_for laws peer root after < left_for laws peer root before) next)
  pub keys : (next : Next K V) → IsNext laws n encoding values local before reply next → HasKeysOfSides laws local peer before
      → (HasSmallMap laws n peer → IfAsks (HasKeysOfSides laws local peer) next)
  pub stops : (is_key : K → Type 0) (is_value : V → Type 0) (error : SessionError) → IsStopped laws n encoding values is_key is_value local before reply error
      → ForItsTrees laws n peer (λ root. IsSteadyCatchUp laws peer root before → CanBeTold laws is_key is_value peer → IsMemoryOrLimit error)

module _ {K V H : Type 0} (laws : Laws K V H) (o : IsTotalOrder laws.cmp) (eqv : IsEquivalence laws.eq)
    (respects : (h : H) (a b : V) → laws.eq a b ≡ true → laws.value_digest h a ≡ laws.value_digest h b)
    (one_tree : (hasher : H) (base : ℕ) (a b : List (K × List ℕ)) (t u : Tree K (List ℕ)) → SameMap laws.cmp (λ d e. d ≡ e) a b
    → IsTreeOf laws.cmp (laws.key_digest hasher) base t a → IsTreeOf laws.cmp (laws.key_digest hasher) base u b → SamePages laws.cmp t u)
    (encoding : K → List ℕ) (values : V → List ℕ) (tell : Tell laws encoding values) (n : ℕ) (local : Side K V H) (up : IsMap laws.cmp local.rows)
    (met peer : Contents K V H) (rows : peer.rows ≡ met.rows) (settings : SameSettings met.tree peer.tree)
    (kept : IsKept laws.cmp laws.value_digest peer) (canonical : IsCanonicalRoot (λ k. level_of (laws.key_digest peer.tree.hasher k) peer.tree.base) peer.tree.root) where
  module _ (before : Underway K V) (question : Question K) (message reply : List ℕ) (asked : message ≡ question_bytes encoding before.asked)
      (read : message ≡ question_bytes encoding question)
      (is : IsReply laws n encoding values met.rows peer.tree question reply) where
    same : side peer ≡ side met
    same = same_side met peer rows settings

    sides : (root : Tree K (List ℕ)) → IsTreeOf laws.cmp (laws.key_digest met.tree.hasher) met.tree.base root (tree_map laws (side met)) → HasSmallMap laws n (side met)
        → AreSides laws local (side peer) root peer.tree.root
    sides root of_peer small = sides_met laws o eqv respects one_tree encoding values tell n local up met peer rows settings kept canonical (subst (HasSmallMap laws n) (sym same) small) root of_peer

    lengths : HasSmallMap laws n (side met) → AllByRecursion (λ p. length p.1 ≡ n) (tree_map laws (side peer))
    lengths small = (subst (HasSmallMap laws n) (sym same) small).digests

    alike : SameQuestion laws.cmp encoding before.asked question
    alike = question_tells laws.cmp encoding tell.keys before.asked question (sym asked ∙ read)

    replies : IsReply laws n encoding values peer.rows peer.tree question reply
    replies = subst (λ rs. IsReply laws n encoding values rs peer.tree question reply) (sym rows) is

    -- what comes next is steady
    stays_steady : (next : Next K V) → IsNext laws n encoding values local before reply next
        → ForItsTrees laws n (side met) (λ root. IsSteadyCatchUp laws (side met) root before → IfAsks (IsSteadyCatchUp laws (side met) root) next)
    stays_steady next (found, again, taken, goes) root of_peer small steady =
        let here = subst (λ s. IsSteadyCatchUp laws s root before) (sym same) steady in
        let t = stay laws o eqv encoding values tell n local peer root (sides root of_peer small)
        (lengths small) before.asked question before.rounds before.left reply before.found found again here alike replies taken in
        subst (λ s. IfAsks (IsSteadyCatchUp laws s root) next) same (next_steady laws (side peer) root encoding again before.rounds found next t.fit t.steady goes)

    -- it leaves less to ask for
    goes_on_less : (next : Next K V) → IsNext laws n encoding values local before reply next
        → ForItsTrees laws n (side met) (λ root. IsSteadyCatchUp laws (side met) root before → IfAsks (λ after. left_for laws (side met) root after < left_for laws (side met) root before) next)
    goes_on_less next comes root of_peer small steady =
        subst (λ s. IfAsks (λ after. left_for laws s root after < left_for laws s root before) next) same
        (leaves_less laws o eqv encoding values tell n local peer root (sides root of_peer small) (lengths small) before question reply next
        (subst (λ s. IsSteadyCatchUp laws s root before) (sym same) steady) alike replies comes)

    -- and has keys of the two sides alone
    stays_at_keys : (next : Next K V) → IsNext laws n encoding values local before reply next → HasKeysOfSides laws local (side met) before
        → HasSmallMap laws n (side met) → IfAsks (HasKeysOfSides laws local (side met)) next
    stays_at_keys next comes keys small =
        let of_met = subst (λ s. IsTreeOf laws.cmp (laws.key_digest s.hasher) s.base peer.tree.root (tree_map laws s)) same (canonical, kept.digested) in
        subst (λ s. IfAsks (HasKeysOfSides laws local s) next) same
        (next_keys laws o eqv encoding values tell n local peer peer.tree.root (sides peer.tree.root of_met small) (lengths small) before question reply next
        (subst (λ s. HasKeysOfSides laws local s before) (sym same) keys) alike replies comes)

    -- and the reply fails only when out of memory or at a limit
    stops_for_memory : (is_key : K → Type 0) (is_value : V → Type 0) (error : SessionError) → IsStopped laws n encoding values is_key is_value local before reply error
        → ForItsTrees laws n (side met) (λ root. IsSteadyCatchUp laws (side met) root before → CanBeTold laws is_key is_value (side met) → IsMemoryOrLimit error)
    stops_for_memory is_key is_value error stopped root of_peer small steady told =
        memory_alone laws o eqv encoding values tell n local peer root (sides root of_peer small) (lengths small) is_key is_value
        (subst (CanBeTold laws is_key is_value) (sym same) told) before question reply error
        (subst (λ s. IsSteadyCatchUp laws s root before) (sym same) steady) alike replies stopped

    -- and what it tells of pages is paid for
    pub exchanged_pays : (one_digest : (format : PageFormat) (t u : Tree K (List ℕ)) → SamePages laws.cmp t u
        → page_digest format laws.bytes_of t ≡ page_digest format laws.bytes_of u) (is_there : Gap K → List ℕ → Bool) (tells : TellsOwnPages laws local is_there)
        (next : Next K V) (takes : IsNext laws n encoding values local before reply next)
        → ForItsTrees laws n (side met) (λ root. IsSteadyCatchUp laws (side met) root before → PayFor laws (side met) root is_there
        (entries_taken laws n encoding values local outlines_kind before.asked reply before.found takes.0 takes.1 takes.2)
        (entries_taken laws n encoding values local nodes_kind before.asked reply before.found takes.0 takes.1 takes.2) before next)
    exchanged_pays one_digest is_there tells next takes root of_peer small steady =
        subst (λ s. PayFor laws s root is_there (entries_taken laws n encoding values local outlines_kind before.asked reply before.found takes.0 takes.1 takes.2)
        (entries_taken laws n encoding values local nodes_kind before.asked reply before.found takes.0 takes.1 takes.2) before next) same
        (exchange_pays laws o eqv encoding values tell n local peer root (sides root of_peer small) (lengths small) one_digest is_there tells before question reply next
        (subst (λ s. IsSteadyCatchUp laws s root before) (sym same) steady) alike replies takes)

    -- so are the values that it tells at keys
    pub exchanged_pays_for_keys : (next : Next K V) (takes : IsNext laws n encoding values local before reply next) (root : Tree K (List ℕ))
        → IsTreeOf laws.cmp (laws.key_digest met.tree.hasher) met.tree.base root (tree_map laws (side met)) → HasSmallMap laws n (side met)
        → Wants laws local (side met) before.found → AsksLacked laws local (side met) before.asked
        → PayForKeys laws local (side met) root (entries_taken laws n encoding values local rows_at_kind before.asked reply before.found takes.0 takes.1 takes.2) before next
    exchanged_pays_for_keys next takes root of_peer small wants lacked =
        subst (λ s. PayForKeys laws local s root (entries_taken laws n encoding values local rows_at_kind before.asked reply before.found takes.0 takes.1 takes.2) before next) same
        (exchange_pays_for_keys laws o eqv encoding values tell n local peer root (sides root of_peer small) (lengths small) before question reply next
        (subst (λ s. Wants laws local s before.found) (sym same) wants) (subst (λ s. AsksLacked laws local s before.asked) (sym same) lacked) alike replies takes)

    pub comes : Comes laws n encoding values local (side met) before reply
    comes = record {
      covers = λ next goes root of_peer small covers.
          exchanged laws o eqv respects one_tree encoding values tell n local up met peer rows settings kept canonical
          (subst (HasSmallMap laws n) (sym same) small) before question message reply next asked read is goes
          root of_peer covers;
      steady = stays_steady;
      less = goes_on_less;
      keys = stays_at_keys;
      stops = stops_for_memory;
    }

-- a message has no reply when out of memory, where it asks something by the peer's settings
pub unanswered_for_memory : (error : AnswerError) → (IsUnread error → ⊥) → (AreOtherSettings error → ⊥) → error ≡ answer.Memory
unanswered_for_memory answer.Memory unread others = refl
unanswered_for_memory (answer.Malformed e) unread others = absurd (unread tt)
unanswered_for_memory answer.OtherSettings unread others = absurd (others tt)

module _ {K V H : Type 0} (laws : Laws K V H) where
  -- a catch-up that begins is steady
  pub begun_steady : (peer : Side K V H) (root : Tree K (List ℕ)) (begun : Underway K V) (settings : Settings K) → begun.asked ≡ Root settings → begun.found ≡ nothing
      → begun.rounds ≡ 0 → IsSteadyCatchUp laws peer root begun
  begun_steady peer root begun settings asked found zero = record {
    some = subst AsksForSome (sym asked) tt;
    asked = subst (AsksForPages laws peer root begun.rounds) (sym asked) zero;
    below = subst (λ f. AllByRecursion (IsFilled laws peer root 256 begun.rounds) f.below) (sym found) tt;
    nodes = subst (λ f. AllByRecursion (IsFilled laws peer root 257 0) f.nodes) (sym found) tt;
    once = λ k. omega (arith, ap (times_asked laws peer root k) asked, ap (times_found laws peer root k) found);
  }
