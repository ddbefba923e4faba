-- A session with an honest peer, whatever carries the messages: each of its answers is taken, unless out of memory, and they come to an end.
use Rattle.std.proofs.Common.{◌≡◌, ℕ, ◌+◌, ◌*◌, ◌≤◌, Bool, true, List, [], ◌∷◌, length, refl, sym, ap, subst, ◌⊎◌, inl, inr, arith, ◌<◌}
use Rattle.std.proofs.lemmas.List.{length-map}
use Rattle.std.specs.Cmp.{IsTotalOrder, IsEquivalence}
use Rattle.key_order.specs.Map.{IsMap, SameMap}
use Rattle.merkle_replica.specs.Contents.{Contents, Side, side, tree_map, IsKept}
use Rattle.merkle_replica.specs.Faithful.{HasSmallMap}
use Rattle.merkle_replica.specs.Laws.{Laws}
use Rattle.merkle_replica.proofs.Rounds.{contents_of}
use Rattle.merkle_tree_theory.specs.Canonical.{IsTreeOf, SamePages}
use Rattle.merkle_tree_theory.specs.Gap.{Gap}
use Rattle.merkle_tree_theory.specs.Stream.{page_digest}
use Rattle.merkle_tree_theory.specs.Tree.{Tree}
use Rattle.merkle_tree_theory.specs.declared.page_format.PageFormat.{PageFormat}
use Rattle.merkle_wire.specs.SessionLaws.{lacked_of_tree, entries_told, told_in, IsPeerReply, IsExchange, AreExchangesTo, IsBegun, entries_taken}
use Rattle.merkle_wire.specs.Next.{IsNext, IsStopped, IfAsks}
use Rattle.merkle_wire.specs.Sessions.{CanBeTold}
use Rattle.merkle_wire.specs.Taking.{new_keys}
use Rattle.merkle_wire.specs.Underway.{Underway}
use Rattle.merkle_wire.specs.declared.catching_up.Next.{Next}
use Rattle.merkle_wire.specs.declared.catching_up.Next.TheVariants.{Ask, Came}
use Rattle.merkle_wire.specs.declared.session_error.SessionError.{SessionError}
use Rattle.merkle_wire.proofs.CostKeys.{AsksLacked, PayForKeys, Wants, asked_at, keys_left, left_at, lacked as lacked_keys}
use Rattle.merkle_wire.proofs.Costs.{PayFor, nodes_by, nodes_of, pages_by, pages_of}
use Rattle.merkle_wire.proofs.Exchanges.{Tell}
use Rattle.merkle_wire.proofs.PagesLacked.{TellsOwnPages}
use Rattle.merkle_wire.proofs.SteadyExchanges.{Comes, begun_steady, comes, exchanged_pays, exchanged_pays_for_keys}
use Rattle.merkle_wire.proofs.Times.{total-less}
use Rattle.merkle_wire.specs.declared.message.Kind.TheVariants.{Outlines as outlines_kind, Nodes as nodes_kind, RowsAt as rows_at_kind}
use Rattle.merkle_wire.proofs.Steady.{IsSteadyCatchUp, left_by, left_for, left_of, total}
use Rattle.merkle_wire.proofs.SteadyCatchUps.{IsMemoryOrLimit}
use Rattle.merkle_wire.specs.Questions.{question_bytes}

module _ {K V H : Type 0} (laws : Laws K V H) (o : IsTotalOrder laws.cmp) (eqv : IsEquivalence laws.eq)
    (respects : (h : H) (a b : V) → laws.eq a b ≡ true → laws.value_digest h a ≡ laws.value_digest h b)
    (one_tree : (hasher : H) (base : ℕ) (a b : List (K × List ℕ)) (t u : Tree K (List ℕ)) → SameMap laws.cmp (λ d e. d ≡ e) a b
    → IsTreeOf laws.cmp (laws.key_digest hasher) base t a → IsTreeOf laws.cmp (laws.key_digest hasher) base u b → SamePages laws.cmp t u)
    (encoding : K → List ℕ) (values : V → List ℕ) (tell : Tell laws encoding values) (n : ℕ) (local peer : Side K V H) (up : IsMap laws.cmp local.rows)
    (up_peer : IsMap laws.cmp peer.rows) (small : HasSmallMap laws n peer) where
  module _ (before : Underway K V) (reply : List ℕ) (a : IsPeerReply laws n encoding values local peer before reply) (root : Tree K (List ℕ))
      (of_peer : IsTreeOf laws.cmp (laws.key_digest peer.hasher) peer.base root (tree_map laws peer)) (steady : IsSteadyCatchUp laws peer root before) where
    abbrev now : Contents K V H
    now = record { rows = peer.rows; tree = a.tree }

    tree : IsTreeOf laws.cmp (laws.key_digest a.tree.hasher) a.tree.base a.tree.root (tree_map laws (side now))
    tree =
        let same : peer ≡ side now = λ i. record { hasher = sym a.settings.0 i; base = sym a.settings.1 i; format = sym a.settings.2 i; rows = peer.rows } in
        subst (λ s. IsTreeOf laws.cmp (laws.key_digest s.hasher) s.base a.tree.root (tree_map laws s)) same a.of_peer

    kept : IsKept laws.cmp laws.value_digest now
    kept = record { ascending = up_peer; digested = tree.1 }

    pub came : Comes laws n encoding values local peer before reply
    came = comes laws o eqv respects one_tree encoding values tell n local up (contents_of peer root) now refl a.settings kept tree.0
        before a.question (question_bytes encoding before.asked) reply refl a.reads a.answers

    answered_steady : (next : Next K V) → IsNext laws n encoding values local before reply next → IfAsks (IsSteadyCatchUp laws peer root) next
    answered_steady next takes = came.steady next takes root of_peer small steady

    answered_for_memory : (is_key : K → Type 0) (is_value : V → Type 0) → CanBeTold laws is_key is_value peer → (error : SessionError)
        → IsStopped laws n encoding values is_key is_value local before reply error → IsMemoryOrLimit error
    answered_for_memory is_key is_value told error stopped = came.stops is_key is_value error stopped root of_peer small steady told

    answered_less : (next : Next K V) → IsNext laws n encoding values local before reply next → IfAsks (λ after. left_for laws peer root after < left_for laws peer root before) next
    answered_less next takes = came.less next takes root of_peer small steady

    answered_pays : (one_digest : (format : PageFormat) (t u : Tree K (List ℕ)) → SamePages laws.cmp t u
        → page_digest format laws.bytes_of t ≡ page_digest format laws.bytes_of u) (is_there : Gap K → List ℕ → Bool) (tells : TellsOwnPages laws local is_there)
        (next : Next K V) (takes : IsNext laws n encoding values local before reply next)
        → PayFor laws peer root is_there (entries_taken laws n encoding values local outlines_kind before.asked reply before.found takes.0 takes.1 takes.2)
        (entries_taken laws n encoding values local nodes_kind before.asked reply before.found takes.0 takes.1 takes.2) before next
    answered_pays one_digest is_there tells next takes =
        exchanged_pays laws o eqv respects one_tree encoding values tell n local up (contents_of peer root) now refl a.settings kept tree.0
        before a.question (question_bytes encoding before.asked) reply refl a.reads a.answers
        one_digest is_there tells next takes root of_peer small steady

    answered_pays_for_keys : (next : Next K V) (takes : IsNext laws n encoding values local before reply next) → Wants laws local peer before.found → AsksLacked laws local peer before.asked
        → PayForKeys laws local peer root (entries_taken laws n encoding values local rows_at_kind before.asked reply before.found takes.0 takes.1 takes.2) before next
    answered_pays_for_keys next takes =
        exchanged_pays_for_keys laws o eqv respects one_tree encoding values tell n local up (contents_of peer root) now refl a.settings kept tree.0
        before a.question (question_bytes encoding before.asked) reply refl a.reads a.answers
        next takes root of_peer small

  -- so a session has no more exchanges than were to be asked for at first
  chain_short : (root : Tree K (List ℕ)) → IsTreeOf laws.cmp (laws.key_digest peer.hasher) peer.base root (tree_map laws peer) → (before last : Underway K V) (more : List (Underway K V))
      → AreExchangesTo laws n encoding values local peer before more last → IsSteadyCatchUp laws peer root before → length more + left_for laws peer root last ≤ left_for laws peer root before
  chain_short root of_peer before last [] is steady = omega (arith, ap (left_for laws peer root) is)
  chain_short root of_peer before last (next ∷ more) (message, e, others) steady =
      let after = answered_steady before e.reply e.answer root of_peer steady (Ask next message) e.takes in
      omega (arith, answered_less before e.reply e.answer root of_peer steady (Ask next message) e.takes, chain_short root of_peer next last more others after)

  first_answer : (before last : Underway K V) (more : List (Underway K V)) → AreExchangesTo laws n encoding values local peer before more last
      → (more ≡ []) ⊎ ((root : Tree K (List ℕ)) × IsTreeOf laws.cmp (laws.key_digest peer.hasher) peer.base root (tree_map laws peer))
  first_answer before last [] is = inl refl
  first_answer before last (next ∷ more) (message, e, others) = inr (e.answer.tree.root, e.answer.of_peer)

  pub session_short : (begun last : Underway K V) (more : List (Underway K V)) → IsBegun begun → AreExchangesTo laws n encoding values local peer begun more last
      → length more ≤ 3 * length peer.rows + 2
  session_short begun last more b exchanges = by (first_answer begun last more exchanges)
    where
      by : (more ≡ []) ⊎ ((root : Tree K (List ℕ)) × IsTreeOf laws.cmp (laws.key_digest peer.hasher) peer.base root (tree_map laws peer)) → length more ≤ 3 * length peer.rows + 2
      by (inl none) = omega (arith, ap length none)
      by (inr (root, of_peer)) =
          omega (
            arith,
            chain_short root of_peer begun last more exchanges (begun_steady laws peer root begun b.0 b.1 b.2 b.3),
            ap (left_by laws peer root) b.1,
            ap (left_of laws peer root) b.2,
          )

  -- and a catch-up that is steady stays so
  chain_steady : (root : Tree K (List ℕ)) → IsTreeOf laws.cmp (laws.key_digest peer.hasher) peer.base root (tree_map laws peer)
      → (before last : Underway K V) (more : List (Underway K V)) → AreExchangesTo laws n encoding values local peer before more last
      → IsSteadyCatchUp laws peer root before → IsSteadyCatchUp laws peer root last
  chain_steady root of_peer before last [] is steady = subst (IsSteadyCatchUp laws peer root) is steady
  chain_steady root of_peer before last (next ∷ more) (message, e, others) steady =
      chain_steady root of_peer next last more others (answered_steady before e.reply e.answer root of_peer steady (Ask next message) e.takes)

  module _ (is_key : K → Type 0) (is_value : V → Type 0) (told : CanBeTold laws is_key is_value peer) where
    pub answers_taken : (begun last : Underway K V) (more : List (Underway K V)) → IsBegun begun → AreExchangesTo laws n encoding values local peer begun more last
        → (reply : List ℕ) (error : SessionError) → IsPeerReply laws n encoding values local peer last reply
        → IsStopped laws n encoding values is_key is_value local last reply error → IsMemoryOrLimit error
    answers_taken begun last more b exchanges reply error answer stopped =
        let root = answer.tree.root in
        let steady = chain_steady root answer.of_peer begun last more exchanges (begun_steady laws peer root begun b.0 b.1 b.2 b.3) in
        answered_for_memory last reply answer root answer.of_peer steady is_key is_value told error stopped

  -- the pages that are told in a session are paid for by those that the side hasn't
  module _ (one_digest : (format : PageFormat) (t u : Tree K (List ℕ)) → SamePages laws.cmp t u → page_digest format laws.bytes_of t ≡ page_digest format laws.bytes_of u)
      (is_there : Gap K → List ℕ → Bool) (tells : TellsOwnPages laws local is_there)
      (root : Tree K (List ℕ)) (of_peer : IsTreeOf laws.cmp (laws.key_digest peer.hasher) peer.base root (tree_map laws peer)) where
    abbrev pages_left : Underway K V → ℕ
    pages_left u = pages_by laws peer root is_there u.asked + pages_of laws peer root is_there u.found

    abbrev nodes_left : Underway K V → ℕ
    nodes_left u = nodes_by laws peer root is_there u.asked + nodes_of laws peer root is_there u.found

    abbrev pages_in : (before : Underway K V) (more : List (Underway K V)) (last : Underway K V) → AreExchangesTo laws n encoding values local peer before more last → ℕ
    pages_in = told_in laws n encoding values local peer outlines_kind

    abbrev nodes_in : (before : Underway K V) (more : List (Underway K V)) (last : Underway K V) → AreExchangesTo laws n encoding values local peer before more last → ℕ
    nodes_in = told_in laws n encoding values local peer nodes_kind

    chain_pays : (before last : Underway K V) (more : List (Underway K V)) (exchanges : AreExchangesTo laws n encoding values local peer before more last) → IsSteadyCatchUp laws peer root before
        → (pages_in before more last exchanges + pages_left last ≤ pages_left before)
        × (nodes_in before more last exchanges + nodes_left last ≤ pages_in before more last exchanges + nodes_left before)
    chain_pays before last [] is steady = (omega (arith, ap pages_left is), omega (arith, ap nodes_left is))
    chain_pays before last (next ∷ more) (message, e, others) steady =
        let here = answered_pays before e.reply e.answer root of_peer steady one_digest is_there tells (Ask next message) e.takes in
        let rest = chain_pays next last more others (answered_steady before e.reply e.answer root of_peer steady (Ask next message) e.takes) in
        (omega (arith, here.0, rest.0), omega (arith, here.1, rest.1))

    least : (pages nodes : ℕ) (before : Underway K V) (next : Next K V) → PayFor laws peer root is_there pages nodes before next → (pages ≤ pages_left before) × (nodes ≤ pages + nodes_left before)
    least pages nodes before (Ask session message) p = (omega (arith, p.0), omega (arith, p.1))
    least pages nodes before (Came rows) p = p

    pub session_pays : (begun last : Underway K V) (more : List (Underway K V)) (next : Next K V) → IsBegun begun
        → (so_far : AreExchangesTo laws n encoding values local peer begun more last) (e : IsExchange laws n encoding values local peer last next)
        → (pages_in begun more last so_far + entries_told laws n encoding values local peer outlines_kind last next e ≤ lacked_of_tree peer.format laws.bytes_of is_there root)
        × (nodes_in begun more last so_far + entries_told laws n encoding values local peer nodes_kind last next e
        ≤ pages_in begun more last so_far + entries_told laws n encoding values local peer outlines_kind last next e)
    session_pays begun last more next b so_far e =
        let first = begun_steady laws peer root begun b.0 b.1 b.2 b.3 in
        let chain = chain_pays begun last more so_far first in
        let steady = chain_steady root of_peer begun last more so_far first in
        let end = least (entries_told laws n encoding values local peer outlines_kind last next e) (entries_told laws n encoding values local peer nodes_kind last next e) last next
        (answered_pays last e.reply e.answer root of_peer steady one_digest is_there tells next e.takes) in (
          omega (arith, chain.0, end.0, ap (pages_by laws peer root is_there) b.1, ap (pages_of laws peer root is_there) b.2),
          omega (arith, chain.1, end.1, ap (nodes_by laws peer root is_there) b.1, ap (nodes_of laws peer root is_there) b.2),
        )

  -- so are the values that are told at keys, by those of the keys that the side lacks, or has with another digest
  module _ (root : Tree K (List ℕ)) (of_peer : IsTreeOf laws.cmp (laws.key_digest peer.hasher) peer.base root (tree_map laws peer)) where
    abbrev keys_in : (before : Underway K V) (more : List (Underway K V)) (last : Underway K V) → AreExchangesTo laws n encoding values local peer before more last → ℕ
    keys_in = told_in laws n encoding values local peer rows_at_kind

    abbrev left : Underway K V → ℕ
    left = keys_left laws local peer root

    abbrev IsLimited : Underway K V → Type 0
    IsLimited u = Wants laws local peer u.found × AsksLacked laws local peer u.asked

    chain_keys : (before last : Underway K V) (more : List (Underway K V)) (exchanges : AreExchangesTo laws n encoding values local peer before more last)
        → IsSteadyCatchUp laws peer root before → IsLimited before
        → (keys_in before more last exchanges + left last ≤ left before) × IsLimited last
    chain_keys before last [] is steady limited = (omega (arith, ap left is), subst IsLimited is limited)
    chain_keys before last (next ∷ more) (message, e, others) steady limited =
        let (pays, wants, lacked) = answered_pays_for_keys before e.reply e.answer root of_peer steady (Ask next message) e.takes limited.0 limited.1 in
        let rest = chain_keys next last more others (answered_steady before e.reply e.answer root of_peer steady (Ask next message) e.takes) (wants, lacked) in
        (omega (arith, pays, rest.0), rest.1)

    keys_least : (keys : ℕ) (before : Underway K V) (next : Next K V) → PayForKeys laws local peer root keys before next → keys ≤ left before
    keys_least keys before (Ask session message) (p, wants, lacked) = omega (arith, p)
    keys_least keys before (Came rows) p = p

    total_ones : {X : Type 0} (xs : List X) → total (λ x. 1) xs ≡ length xs
    total_ones [] = refl
    total_ones (x ∷ xs) = omega (arith, total_ones xs)

    begun_left : (begun : Underway K V) → IsBegun begun → left begun ≤ length (new_keys laws local (tree_map laws peer))
    begun_left begun b =
        let keys = lacked_keys laws local peer in
        omega (
          arith,
          total-less (λ p. asked_at laws peer root p.0 begun.asked + left_at laws peer root p.0 begun.found) (λ p. 1)
              (λ p. omega (arith, ap (asked_at laws peer root p.0) b.1, ap (left_at laws peer root p.0) b.2)) keys,
          total_ones keys,
          length-map keys (λ p. p.0),
        )

    pub session_pays_for_keys : (begun last : Underway K V) (more : List (Underway K V)) (next : Next K V) → IsBegun begun
        → (so_far : AreExchangesTo laws n encoding values local peer begun more last) (e : IsExchange laws n encoding values local peer last next)
        → keys_in begun more last so_far + entries_told laws n encoding values local peer rows_at_kind last next e ≤ length (new_keys laws local (tree_map laws peer))
    session_pays_for_keys begun last more next b so_far e =
        let first = begun_steady laws peer root begun b.0 b.1 b.2 b.3 in
        let limited : IsLimited begun = (subst (Wants laws local peer) (sym b.2) tt, subst (AsksLacked laws local peer) (sym b.1) tt) in
        let chain = chain_keys begun last more so_far first limited in
        let steady = chain_steady root of_peer begun last more so_far first in
        let end = keys_least (entries_told laws n encoding values local peer rows_at_kind last next e) last next
        (answered_pays_for_keys last e.reply e.answer root of_peer steady next e.takes chain.1.0 chain.1.1) in
        omega (arith, chain.0, end, begun_left begun b)
