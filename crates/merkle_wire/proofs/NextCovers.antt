-- What comes after a reply covers what is missing, while digests are faithful: a question with what was found, or the rows in the end.
use Rattle.std.proofs.Common.{◌≡◌, ℕ, true, List, [], ◌∷◌, length, Option, Some, None, sym, ap, subst, ◌∙◌, ◌⊎◌, inl, inr}
use Rattle.std.specs.List.{AllByRecursion}
use Rattle.std.specs.List.Sorted.{IsPermutation}
use Rattle.std.proofs.lemmas.List.Sorted.{IsPermutation-sym, All-permutation}
use Rattle.std.specs.Cmp.{IsTotalOrder, IsEquivalence}
use Rattle.key_order.specs.Map.{IsMap, SameMap}
use Rattle.key_order.specs.Order.{AnyByRecursion, Same}
use Rattle.key_order.proofs.SameMaps.{same_map-own}
use Rattle.merkle_digest.specs.Level.{level_of}
use Rattle.merkle_diff.proofs.Each.{each-with, each-of_All, All-of_each, any-get, any-unmapped}
use Rattle.merkle_replica.specs.CatchUp.{IsLacked}
use Rattle.merkle_replica.specs.Contents.{Contents, Side, side, tree_map, IsKept}
use Rattle.merkle_replica.specs.Faithful.{HasSmallMap}
use Rattle.merkle_replica.specs.Laws.{Laws}
use Rattle.merkle_replica.proofs.Rounds.{any-append}
use Rattle.merkle_replica.proofs.SideLaws.{same_side}
use Rattle.merkle_tree_theory.specs.Canonical.{IsCanonicalRoot, IsTreeOf, SamePages}
use Rattle.merkle_tree_theory.specs.State.{SameSettings}
use Rattle.merkle_tree_theory.specs.Gap.{IsInGap}
use Rattle.merkle_tree_theory.specs.Tree.{Tree}
use Rattle.merkle_wire.specs.Underway.{AsksNothingMore, IsTakenFrom, Found, nothing, Underway}
use Rattle.merkle_wire.specs.Gaps.{owned_gap}
use Rattle.merkle_wire.specs.Next.{GoesOn, AsksOrGoesOn, IsNext}
use Rattle.merkle_wire.specs.Questions.{question_bytes}
use Rattle.merkle_wire.specs.Replies.{IsReply}
use Rattle.merkle_wire.specs.Sessions.{IsFaithfulSession, IsNewRow}
use Rattle.merkle_wire.specs.declared.catching_up.Next.{Next}
use Rattle.merkle_wire.specs.declared.catching_up.Next.TheVariants.{Ask, Came}
use Rattle.merkle_wire.specs.declared.question.Question.{Question}
use Rattle.merkle_wire.specs.declared.question.Question.TheVariants.{Root, Outlines, Nodes, RowsAt, RowsIn}
use Rattle.merkle_wire.specs.declared.settings.Settings.{Settings}
use Rattle.merkle_wire.proofs.Exchanges.{Tell, IsAgain, takes}
use Rattle.merkle_wire.proofs.PageCovers.{AreSides}
use Rattle.merkle_wire.proofs.TellingQuestions.{question_tells}
use Rattle.merkle_wire.proofs.Covering.{IsNodeOver, IsAmong, AsksAbout, Covers, CoversNext}
use Rattle.merkle_wire.proofs.Lacking.{all_whole}

-- what some element of a list has, one has in any order
any-permuted : {X : Type 0} (P : X → Type 0) (xs ys : List X) → IsPermutation xs ys → AnyByRecursion P xs → AnyByRecursion P ys
any-permuted P xs ys p a =
    let In : _ → Type 0 = λ x. P x → AnyByRecursion P ys in
    any-get In P (AnyByRecursion P ys) xs (λ x f q. f q) (each-of_All In xs (All-permutation In ys xs (IsPermutation-sym xs ys p) (All-of_each In ys (own ys)))) a
  where
    own : (zs : List _) → AllByRecursion (λ x. P x → AnyByRecursion P zs) zs
    own [] = tt
    own (z ∷ zs) = ((λ q. inl q), each-with (λ x. P x → AnyByRecursion P zs) (λ x. P x → AnyByRecursion P (z ∷ zs)) zs (λ x f q. inr (f q)) (own zs))

module _ {K V H : Type 0} (laws : Laws K V H) (o : IsTotalOrder laws.cmp) (local peer : Side K V H) (root : Tree K (List ℕ)) (encoding : K → List ℕ) where
  abbrev Lacked : K → Type 0
  Lacked = IsLacked laws local peer

  abbrev New : K × V → Type 0
  New = IsNewRow laws local peer

  abbrev Among : K → Found K V → Type 0
  Among = IsAmong laws peer root

  -- a question that is made of a part of what was found: what is not asked about is still among it
  abbrev Asks : Question K → Found K V → Found K V → Type 0
  Asks question before after = (after.rows ≡ before.rows) × ((k : K) → Among k before → AsksAbout laws peer root k question ⊎ Among k after)

  taken_from : (question : Question K) (before after : Found K V) → IsTakenFrom question before after → Asks question before after
  taken_from (Root settings) before after t = absurd t
  taken_from (Outlines most gaps) before after (is, e) = (ap (λ f. f.rows) e, λ k a. go k a)
    where
      go : (k : K) → Among k before → AsksAbout laws peer root k (Outlines most gaps) ⊎ Among k after
      go k (inl a) = inl (any-unmapped owned_gap (IsInGap laws.cmp k) gaps.items (subst (AnyByRecursion (IsInGap laws.cmp k)) is a))
      go k (inr a) = inr (subst (Among k) (sym e) (inr a))
  taken_from (Nodes most gaps) before after (is, e) = (ap (λ f. f.rows) e, λ k a. go k a)
    where
      go : (k : K) → Among k before → AsksAbout laws peer root k (Nodes most gaps) ⊎ Among k after
      go k (inr (inl a)) = inl (any-unmapped owned_gap (IsNodeOver laws peer root k) gaps.items (subst (AnyByRecursion (IsNodeOver laws peer root k)) is a))
      go k (inl a) = inr (subst (Among k) (sym e) (inl a))
      go k (inr (inr a)) = inr (subst (Among k) (sym e) (inr (inr a)))
  taken_from (RowsAt keys) before after (is, e) = (ap (λ f. f.rows) e, λ k a. go k a)
    where
      go : (k : K) → Among k before → AsksAbout laws peer root k (RowsAt keys) ⊎ Among k after
      go k (inr (inr (inl a))) = inl (any-unmapped (λ w. w.key) (Same laws.cmp k) keys.items (subst (AnyByRecursion (Same laws.cmp k)) is a))
      go k (inl a) = inr (subst (Among k) (sym e) (inl a))
      go k (inr (inl a)) = inr (subst (Among k) (sym e) (inr (inl a)))
      go k (inr (inr (inr a))) = inr (subst (Among k) (sym e) (inr (inr (inr a))))
  taken_from (RowsIn gaps) before after (is, e) = (ap (λ f. f.rows) e, λ k a. go k a)
    where
      go : (k : K) → Among k before → AsksAbout laws peer root k (RowsIn gaps) ⊎ Among k after
      go k (inr (inr (inr (inl a)))) = inl (any-unmapped owned_gap (IsInGap laws.cmp k) gaps.items (subst (AnyByRecursion (IsInGap laws.cmp k)) is a))
      go k (inl a) = inr (subst (Among k) (sym e) (inl a))
      go k (inr (inl a)) = inr (subst (Among k) (sym e) (inr (inl a)))
      go k (inr (inr (inl a))) = inr (subst (Among k) (sym e) (inr (inr (inl a))))
      go k (inr (inr (inr (inr a)))) = inr (subst (Among k) (sym e) (inr (inr (inr (inr a)))))

  -- of the pages below all rows are asked for
  whole_keeps : (f : Found K V) (k : K) → Among k f → Among k (all_whole f)
  whole_keeps f k (inl a) = inr (inr (inr (inl (any-append (IsInGap laws.cmp k) f.whole f.below (inr a)))))
  whole_keeps f k (inr (inl a)) = inr (inl a)
  whole_keeps f k (inr (inr (inl a))) = inr (inr (inl a))
  whole_keeps f k (inr (inr (inr (inl a)))) = inr (inr (inr (inl (any-append (IsInGap laws.cmp k) f.whole f.below (inl a)))))
  whole_keeps f k (inr (inr (inr (inr a)))) = inr (inr (inr (inr a)))

  -- where nothing is to be asked for, a key is a row's
  done_rows : (f : Found K V) (k : K) → AsksNothingMore f → Among k f → AnyByRecursion (λ r. Same laws.cmp k r.0) f.rows
  done_rows f k done (inl a) = absurd (subst (AnyByRecursion (IsInGap laws.cmp k)) done.0 a)
  done_rows f k done (inr (inl a)) = absurd (subst (AnyByRecursion (IsNodeOver laws peer root k)) done.1 a)
  done_rows f k done (inr (inr (inl a))) = absurd (subst (AnyByRecursion (Same laws.cmp k)) done.2 a)
  done_rows f k done (inr (inr (inr (inl a)))) = absurd (subst (AnyByRecursion (IsInGap laws.cmp k)) done.3 a)
  done_rows f k done (inr (inr (inr (inr a)))) = a

  goes_on : (rounds : ℕ) (found : Found K V) (next : Next K V) → AllByRecursion New found.rows → (IsFaithfulSession laws local peer → (k : K) → Lacked k → Among k found)
      → GoesOn laws.cmp encoding rounds found next
      → CoversNext laws local peer root encoding next
  goes_on rounds found (Ask session message) new all (asked, is, same) = (is, by (both asked.1))
    where
      both : IsTakenFrom session.asked found session.found ⊎ IsTakenFrom session.asked (all_whole found) session.found → Asks session.asked found session.found
      both (inl t) = taken_from session.asked found session.found t
      both (inr t) = let (rows, asks) = taken_from session.asked (all_whole found) session.found t in (rows, λ k a. asks k (whole_keeps found k a))

      by : Asks session.asked found session.found → Covers laws local peer root session
      by (rows, asks) = record { new = subst (AllByRecursion New) (sym rows) new; all = λ faith k l. asks k (all faith k l) }
  goes_on rounds found (Came rows) new all (done, came) = record {
    ascending = came.1;
    new = each-of_All New rows.items (All-permutation New found.rows rows.items came.0 (All-of_each New found.rows new));
    all = λ faith k l. any-permuted (λ r. Same laws.cmp k r.0) found.rows rows.items came.0 (done_rows found k done (all faith k l));
  }

module _ {K V H : Type 0} (laws : Laws K V H) (o : IsTotalOrder laws.cmp) (eqv : IsEquivalence laws.eq) (encoding : K → List ℕ) (values : V → List ℕ) (tell : Tell laws encoding values) (n : ℕ)
    (local : Side K V H) (peer : Contents K V H) (root : Tree K (List ℕ)) (sides : AreSides laws local (side peer) root peer.tree.root)
    (small : AllByRecursion (λ p. length p.1 ≡ n) (tree_map laws (side peer))) where
  asks_or_goes_on : (again : Option (Question K)) (rounds : ℕ) (found : Found K V) (next : Next K V) → AllByRecursion (IsNewRow laws local (side peer)) found.rows
      → (IsFaithfulSession laws local (side peer) → (k : K) → IsLacked laws local (side peer) k
      → IsAgain laws o eqv encoding values tell n local peer root sides small k again ⊎ IsAmong laws (side peer) root k found)
      → AsksOrGoesOn laws.cmp encoding again rounds found next → CoversNext laws local (side peer) root encoding next
  asks_or_goes_on None rounds found next new all goes = goes_on laws o local (side peer) root encoding rounds found next new (λ faith k l. by k (all faith k l)) goes
    where
      by : (k : K) → ⊥ ⊎ IsAmong laws (side peer) root k found → IsAmong laws (side peer) root k found
      by k (inl a) = absurd a
      by k (inr a) = a
  asks_or_goes_on (Some question) rounds found (Ask session message) new all (is, same) =
      (is ∙ ap (λ s. question_bytes encoding s.asked) (sym same), subst (Covers laws local (side peer) root) (sym same) (record { new = new; all = all }))
  asks_or_goes_on (Some question) rounds found (Came rows) new all goes = absurd goes

  -- an exchange of messages covers on
  pub exchange_covers : (before : Underway K V) (question : Question K) (message reply : List ℕ) (next : Next K V)
      → message ≡ question_bytes encoding before.asked → message ≡ question_bytes encoding question
      → IsReply laws n encoding values peer.rows peer.tree question reply → IsNext laws n encoding values local before reply next
      → Covers laws local (side peer) root before → CoversNext laws local (side peer) root encoding next
  exchange_covers before question message reply next asked read is (found, again, taken, goes) c =
      let t = takes laws o eqv encoding values tell n local peer root sides small before.asked question reply before.found found again
      (question_tells laws.cmp encoding tell.keys before.asked question (sym asked ∙ read)) is taken in
      asks_or_goes_on again before.rounds found next (t.new c.new) (λ faith k l. by k (t.covers faith k l) (t.keeps k) (c.all faith k l)) goes
    where
      by : (k : K) → (AsksAbout laws (side peer) root k before.asked → IsAgain laws o eqv encoding values tell n local peer root sides small k again ⊎ IsAmong laws (side peer) root k found)
          → (IsAmong laws (side peer) root k before.found → IsAmong laws (side peer) root k found) → AsksAbout laws (side peer) root k before.asked ⊎ IsAmong laws (side peer) root k before.found
          → IsAgain laws o eqv encoding values tell n local peer root sides small k again ⊎ IsAmong laws (side peer) root k found
      by k f g (inl a) = f a
      by k f g (inr a) = inr (g a)

-- the same of a peer whose rows and settings stayed as it answered, by any tree of its map
module _ {K V H : Type 0} (laws : Laws K V H) (o : IsTotalOrder laws.cmp) (eqv : IsEquivalence laws.eq)
    (respects : (h : H) (a b : V) → laws.eq a b ≡ true → laws.value_digest h a ≡ laws.value_digest h b)
    (one_tree : (hasher : H) (base : ℕ) (a b : List (K × List ℕ)) (t u : Tree K (List ℕ)) → SameMap laws.cmp (λ d e. d ≡ e) a b
    → IsTreeOf laws.cmp (laws.key_digest hasher) base t a → IsTreeOf laws.cmp (laws.key_digest hasher) base u b → SamePages laws.cmp t u)
    (encoding : K → List ℕ) (values : V → List ℕ) (tell : Tell laws encoding values) (n : ℕ) (local : Side K V H) (up : IsMap laws.cmp local.rows)
    (met peer : Contents K V H) (rows : peer.rows ≡ met.rows) (settings : SameSettings met.tree peer.tree)
    (kept : IsKept laws.cmp laws.value_digest peer) (canonical : IsCanonicalRoot (λ k. level_of (laws.key_digest peer.tree.hasher k) peer.tree.base) peer.tree.root)
    (small : HasSmallMap laws n (side peer)) where
  -- the sides that met, by any tree of the peer's map
  pub sides_met : (root : Tree K (List ℕ)) → IsTreeOf laws.cmp (laws.key_digest met.tree.hasher) met.tree.base root (tree_map laws (side met)) → AreSides laws local (side peer) root peer.tree.root
  sides_met root of_peer =
      let map = tree_map laws (side peer) in
      let of_map = subst (λ s. IsTreeOf laws.cmp (laws.key_digest s.hasher) s.base root (tree_map laws s)) (sym (same_side met peer rows settings)) of_peer in
      let own = same_map-own laws.cmp o map in
      let tree : IsTreeOf laws.cmp (laws.key_digest peer.tree.hasher) peer.tree.base peer.tree.root map = (canonical, kept.digested) in
      record {
        up = up;
        up_peer = kept.ascending;
        respects = respects;
        is_tree = tree;
        same = one_tree peer.tree.hasher peer.tree.base map map root peer.tree.root own of_map tree;
        back = one_tree peer.tree.hasher peer.tree.base map map peer.tree.root root own tree of_map;
      }

  pub exchanged : (before : Underway K V) (question : Question K) (message reply : List ℕ) (next : Next K V)
      → message ≡ question_bytes encoding before.asked → message ≡ question_bytes encoding question
      → IsReply laws n encoding values met.rows peer.tree question reply → IsNext laws n encoding values local before reply next
      → (root : Tree K (List ℕ)) → IsTreeOf laws.cmp (laws.key_digest met.tree.hasher) met.tree.base root (tree_map laws (side met))
      → Covers laws local (side met) root before → CoversNext laws local (side met) root encoding next
  exchanged before question message reply next asked read is goes root of_peer c =
      let same = same_side met peer rows settings in
      let sides = sides_met root of_peer in
      subst (λ s. CoversNext laws local s root encoding next) same
      (exchange_covers laws o eqv encoding values tell n local peer root sides small.digests before question message reply next asked read
      (subst (λ rs. IsReply laws n encoding values rs peer.tree question reply) (sym rows) is) goes (subst (λ s. Covers laws local s root before) (sym same) c))

module _ {K V H : Type 0} (laws : Laws K V H) (encoding : K → List ℕ) where
  -- a catch-up that begins covers all: it asks for the root
  pub begun_covers : (local peer : Side K V H) (root : Tree K (List ℕ)) (begun : Underway K V) (settings : Settings K) → begun.asked ≡ Root settings
      → begun.found ≡ nothing → Covers laws local peer root begun
  begun_covers local peer root begun settings asked found = record {
    new = subst (λ f. AllByRecursion (IsNewRow laws local peer) f.rows) (sym found) tt;
    all = λ faith k l. inl (subst (AsksAbout laws peer root k) (sym asked) tt);
  }
