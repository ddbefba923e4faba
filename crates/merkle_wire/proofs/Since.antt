-- An exchange of messages, by the rows and settings that both sides had as the catch-up began, and which stayed since then.
use Rattle.std.proofs.Common.{◌≡◌, ℕ, ◌++◌, Bool, true, List, refl, ap, subst, ◌∙◌, ◌<◌}
use Rattle.std.specs.Cmp.{IsTotalOrder, IsEquivalence}
use Rattle.std.specs.Ordering.{is_eq}
use Rattle.std.specs.declared.cmp.Ordering.{Ordering}
use Rattle.key_order.specs.Map.{IsMap, SameMap}
use Rattle.merkle_digest.specs.Level.{level_of}
use Rattle.merkle_replica.specs.Contents.{Contents, side, tree_map}
use Rattle.merkle_replica.specs.Faithful.{HasSmallMap}
use Rattle.merkle_replica.specs.Laws.{Laws}
use Rattle.merkle_replica.proofs.SideLaws.{same_side}
use Rattle.merkle_tree_theory.specs.Canonical.{IsCanonicalRoot, IsTreeOf, SamePages}
use Rattle.merkle_tree_theory.specs.State.{SameSettings, map_of}
use Rattle.merkle_tree_theory.specs.Tree.{Tree}
use Rattle.merkle_tree_theory.proofs.TreeOf.{same_pairs}
use Rattle.merkle_tree_theory.proofs.Unique.{unique_root}
use Rattle.merkle_wire.specs.Limits.{no_limits}
use Rattle.merkle_wire.specs.Next.{IfAsks}
use Rattle.merkle_wire.specs.Questions.{question_bytes}
use Rattle.merkle_wire.specs.SessionLaws.{FailsToExchange, IsExchange, IsPeerReply}
use Rattle.merkle_wire.specs.Sessions.{EndsBeforeJoin, IsForMemory}
use Rattle.merkle_wire.specs.Underway.{Underway}
use Rattle.merkle_wire.specs.declared.catching_up.Next.{Next}
use Rattle.merkle_wire.specs.declared.session.MessagesError.{MessagesError}
use Rattle.merkle_wire.specs.declared.session.MessagesError.TheVariants.{Answer, Session, Join}
use Rattle.merkle_wire.proofs.Covering.{Covers, CoversNext, TellsOwn}
use Rattle.merkle_wire.proofs.Exchanges.{Tell}
use Rattle.merkle_wire.proofs.ExchangeKeys.{asks_something}
use Rattle.merkle_wire.proofs.SettingsTold.{next_own, own_are_not_others}
use Rattle.merkle_wire.proofs.Steady.{HasKeysOfSides, IsSteadyCatchUp, left_for}
use Rattle.merkle_wire.proofs.SteadyExchanges.{Comes, unanswered_for_memory}
use Rattle.merkle_wire.proofs.SteadySessions.{came}
use Rattle.merkle_wire.proofs.WithinLimits.{unlimited_stops}

-- two trees of one map are the same, up to equal keys
pub one_tree : {K H : Type 0} (cmp : K → K → Ordering) → IsTotalOrder cmp → (eq : K → K → Bool) → ((x y : K) → eq x y ≡ is_eq (cmp x y)) → (digest_of : H → K → List ℕ)
    → ((h : H) (x y : K) → eq x y ≡ true → digest_of h x ≡ digest_of h y) → (hasher : H) (base : ℕ) (a b : List (K × List ℕ)) (t u : Tree K (List ℕ))
    → SameMap cmp (λ d e. d ≡ e) a b → IsTreeOf cmp (digest_of hasher) base t a → IsTreeOf cmp (digest_of hasher) base u b → SamePages cmp t u
one_tree cmp o eq matches digest_of respects hasher base a b t u same f e =
    unique_root (λ k. level_of (digest_of hasher k) base) cmp (λ x y q. ap (λ d. level_of d base) (respects hasher x y (matches x y ∙ ap is_eq q))) t u f.0 e.0
    (same_pairs cmp o (digest_of hasher) base a b t u same f e)

module _ {K V H : Type 0} (laws : Laws K V H) (o : IsTotalOrder laws.cmp) (eqv : IsEquivalence laws.eq)
    (respects : (h : H) (a b : V) → laws.eq a b ≡ true → laws.value_digest h a ≡ laws.value_digest h b)
    (one_tree : (hasher : H) (base : ℕ) (a b : List (K × List ℕ)) (t u : Tree K (List ℕ)) → SameMap laws.cmp (λ d e. d ≡ e) a b
    → IsTreeOf laws.cmp (laws.key_digest hasher) base t a → IsTreeOf laws.cmp (laws.key_digest hasher) base u b → SamePages laws.cmp t u)
    (encoding : K → List ℕ) (values : V → List ℕ) (tell : Tell laws encoding values) (n : ℕ) (local a peer b : Contents K V H)
    (rows : a.rows ≡ local.rows) (settings : SameSettings local.tree a.tree) (peer_rows : b.rows ≡ peer.rows) (peer_settings : SameSettings peer.tree b.tree)
    (canonical : IsCanonicalRoot (λ k. level_of (laws.key_digest peer.tree.hasher k) peer.tree.base) peer.tree.root)
    (digested : SameMap laws.cmp (λ d e. d ≡ e) (map_of peer.tree) (tree_map laws (side peer))) (small : HasSmallMap laws n (side peer))
    (before : Underway K V) (steady : IsSteadyCatchUp laws (side peer) peer.tree.root before) where
  of_reply : IsMap laws.cmp local.rows → IsMap laws.cmp peer.rows → (reply : List ℕ) → IsPeerReply laws n encoding values (side local) (side peer) before reply
      → Comes laws n encoding values (side local) (side peer) before reply
  of_reply up up_peer reply answer =
      came laws o eqv respects one_tree encoding values tell n (side local) (side peer) up up_peer small before reply answer peer.tree.root (canonical, digested) steady

  module _ (next : Next K V) (e : IsExchange laws n encoding values (side a) (side b) before next) (up : IsMap laws.cmp a.rows) (up_peer : IsMap laws.cmp b.rows) where
    here : IsExchange laws n encoding values (side local) (side peer) before next
    here = subst (λ s. IsExchange laws n encoding values (side local) s before next) (same_side peer b peer_rows peer_settings)
        (subst (λ s. IsExchange laws n encoding values s (side b) before next) (same_side local a rows settings) e)

    comes : Comes laws n encoding values (side local) (side peer) before here.reply
    comes = of_reply (subst (IsMap laws.cmp) rows up) (subst (IsMap laws.cmp) peer_rows up_peer) here.reply here.answer

    -- what comes next covers what is missing, is steady, leaves less to ask for, has keys of the two sides alone, and tells own settings
    pub covers_on : Covers laws (side local) (side peer) peer.tree.root before → CoversNext laws (side local) (side peer) peer.tree.root encoding next
    covers_on covers = comes.covers next here.takes peer.tree.root (canonical, digested) small covers

    pub steady_on : IfAsks (IsSteadyCatchUp laws (side peer) peer.tree.root) next
    steady_on = comes.steady next here.takes peer.tree.root (canonical, digested) small steady

    pub less_on : IfAsks (λ after. left_for laws (side peer) peer.tree.root after < left_for laws (side peer) peer.tree.root before) next
    less_on = comes.less next here.takes peer.tree.root (canonical, digested) small steady

    pub keys_on : HasKeysOfSides laws (side local) (side peer) before → IfAsks (HasKeysOfSides laws (side local) (side peer)) next
    keys_on keys = comes.keys next here.takes keys small

    pub own_on : IfAsks (λ session. TellsOwn laws n (side local) session.asked) next
    own_on = next_own laws n encoding values (side local) before here.reply next here.takes

  -- an exchange fails before rows are joined, for settings only where the sides are not set alike; else it fails only when out of memory
  module _ (eq : K → K → Bool) (told : (x y : K) (r s : List ℕ) → encoding x ++ r ≡ encoding y ++ s → (eq x y ≡ true) × (r ≡ s))
      (respects_key : (h : H) (a b : K) → eq a b ≡ true → laws.key_digest h a ≡ laws.key_digest h b)
      (is_key : K → Type 0) (is_value : V → Type 0) (own : TellsOwn laws n (side local) before.asked) where
    abbrev Fails : MessagesError → Type 0
    Fails = FailsToExchange laws n encoding values (side local) (side peer) is_key is_value before

    at_first : (error : MessagesError) → FailsToExchange laws n encoding values (side a) (side b) is_key is_value before error → Fails error
    at_first error fails =
        subst (λ s. FailsToExchange laws n encoding values (side local) s is_key is_value before error) (same_side peer b peer_rows peer_settings)
        (subst (λ s. FailsToExchange laws n encoding values s (side b) is_key is_value before error) (same_side local a rows settings) fails)

    early : (error : MessagesError) → Fails error → EndsBeforeJoin laws (side local) (side peer) error
    early (Answer error) fails = λ others alike.
        let (tree, same, (question, read, tells)) = fails.1 others in
        own_are_not_others encoding eq told laws respects_key n (side local) (side peer) alike tree same.0 same.1 same.2 before.asked question read own tells
    early (Session error) fails = tt
    early (Join done) fails = absurd fails

    for_memory : before.left ≡ no_limits → HasKeysOfSides laws (side local) (side peer) before → (error : MessagesError) → Fails error
        → IsForMemory laws (side local) (side peer) is_key is_value error
    for_memory none keys (Answer error) fails = λ alike can peer_can.
        unanswered_for_memory error
        (λ unread. asks_something laws (side local) (side peer) is_key is_value encoding before (question_bytes encoding before.asked) keys can peer_can refl (fails.0 unread))
        (λ others. early (Answer error) fails others alike)
    for_memory none keys (Session error) (reply, up, up_peer, answer, stopped) = λ can.
        unlimited_stops laws n encoding values is_key is_value (side local) before reply error none stopped
        ((of_reply up up_peer reply answer).stops is_key is_value error stopped peer.tree.root (canonical, digested) small steady can)
    for_memory none keys (Join done) fails = absurd fails

    pub fails_early : (error : MessagesError) → FailsToExchange laws n encoding values (side a) (side b) is_key is_value before error
        → EndsBeforeJoin laws (side local) (side peer) error
    fails_early error fails = early error (at_first error fails)

    pub fails_for_memory : before.left ≡ no_limits → HasKeysOfSides laws (side local) (side peer) before → (error : MessagesError)
        → FailsToExchange laws n encoding values (side a) (side b) is_key is_value before error → IsForMemory laws (side local) (side peer) is_key is_value error
    fails_for_memory none keys error fails = for_memory none keys error (at_first error fails)
