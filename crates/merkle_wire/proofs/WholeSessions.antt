-- A session of messages brings what is missing, and when digests are faithful in one.
use Rattle.std.proofs.Common.{◌≡◌, ℕ, true, List, [], ◌∷◌, length, map, Some, refl, sym, ap, subst, ◌∙◌, arith}
use Rattle.std.proofs.lemmas.List.{length-map}
use Rattle.std.specs.Cmp.{IsTotalOrder, IsEquivalence}
use Rattle.std.specs.List.{AllByRecursion, flat_map}
use Rattle.std.specs.declared.cmp.Ordering.{Ordering}
use Rattle.key_order.specs.Map.{IsMap, SameMap, get}
use Rattle.key_order.proofs.ListParts.{each-behind, join_tells}
use Rattle.merkle_replica.specs.Contents.{Contents, Side, side, tree_map, IsKept}
use Rattle.merkle_replica.specs.Faithful.{HasSmallMap}
use Rattle.merkle_replica.specs.Laws.{Laws}
use Rattle.merkle_replica.proofs.Rounds.{contents_of}
use Rattle.merkle_tree_theory.specs.Canonical.{IsTreeOf, SamePages}
use Rattle.merkle_tree_theory.specs.Page.{nodes_of, row_nodes, pairs, row_pairs, held_pairs}
use Rattle.merkle_tree_theory.specs.Ranges.{IsPageOf}
use Rattle.merkle_tree_theory.specs.Tree.{Tree, page, Row, high, node, Node}
use Rattle.merkle_tree_theory.proofs.PagesIn.{pairs_down, inside}
use Rattle.merkle_wire.specs.Sessions.{HaveFaithfulNodes, NoNodesCollide, AreBrought}
use Rattle.merkle_wire.specs.Underway.{Underway, nothing}
use Rattle.merkle_wire.specs.declared.catching_up.Next.{Next}
use Rattle.merkle_wire.specs.declared.catching_up.Next.TheVariants.{Ask, Came}
use Rattle.merkle_wire.proofs.Exchanges.{Tell}
use Rattle.merkle_wire.proofs.Fitting.{found_each}
use Rattle.merkle_wire.proofs.NextCovers.{begun_covers, exchanged}
use Rattle.merkle_wire.specs.SessionLaws.{IsExchange, AreExchangesTo}
use Rattle.merkle_wire.proofs.Covering.{Covers, CoversNext}
use Rattle.merkle_wire.specs.declared.settings.Settings.{Settings}
use Rattle.merkle_wire.specs.declared.question.Question.TheVariants.{Root}
use Rattle.std.specs.Global.{Vec}
use Rattle.merkle_wire.specs.Questions.{question_bytes}

module _ {K V H : Type 0} (laws : Laws K V H) (o : IsTotalOrder laws.cmp) (eqv : IsEquivalence laws.eq)
    (respects : (h : H) (a b : V) → laws.eq a b ≡ true → laws.value_digest h a ≡ laws.value_digest h b)
    (one_tree : (hasher : H) (base : ℕ) (a b : List (K × List ℕ)) (t u : Tree K (List ℕ)) → SameMap laws.cmp (λ d e. d ≡ e) a b
    → IsTreeOf laws.cmp (laws.key_digest hasher) base t a → IsTreeOf laws.cmp (laws.key_digest hasher) base u b → SamePages laws.cmp t u)
    (encoding : K → List ℕ) (values : V → List ℕ) (tell : Tell laws encoding values) (n : ℕ) (local peer : Side K V H) (up : IsMap laws.cmp local.rows)
    (up_peer : IsMap laws.cmp peer.rows) (small : HasSmallMap laws n peer) where
  one_covers : (before : Underway K V) (next : Next K V) (root : Tree K (List ℕ)) → IsTreeOf laws.cmp (laws.key_digest peer.hasher) peer.base root (tree_map laws peer)
      → IsExchange laws n encoding values local peer before next
      → Covers laws local peer root before → CoversNext laws local peer root encoding next
  one_covers before next root of_peer e covers =
      let a = e.answer in
      let now : Contents K V H = record { rows = peer.rows; tree = a.tree } in
      let same : peer ≡ side now = λ i. record { hasher = sym a.settings.0 i; base = sym a.settings.1 i; format = sym a.settings.2 i; rows = peer.rows } in
      let tree = subst (λ s. IsTreeOf laws.cmp (laws.key_digest s.hasher) s.base a.tree.root (tree_map laws s)) same a.of_peer in
      let kept : IsKept laws.cmp laws.value_digest now = record { ascending = up_peer; digested = tree.1 } in
      exchanged laws o eqv respects one_tree encoding values tell n local up (contents_of peer root) now refl a.settings kept tree.0 (subst (HasSmallMap laws n) same small)
      before a.question (question_bytes encoding before.asked) e.reply next refl a.reads a.answers e.takes root of_peer covers

  chain_brings : (before last : Underway K V) (more : List (Underway K V)) (rows : Vec (K × V)) (root : Tree K (List ℕ))
      → IsTreeOf laws.cmp (laws.key_digest peer.hasher) peer.base root (tree_map laws peer) → AreExchangesTo laws n encoding values local peer before more last
      → IsExchange laws n encoding values local peer last (Came rows) → Covers laws local peer root before → AreBrought laws local peer rows.items
  chain_brings before last [] rows root of_peer same e covers = one_covers last (Came rows) root of_peer e (subst (Covers laws local peer root) same covers)
  chain_brings before last (next ∷ more) rows root of_peer (message, one, others) e covers =
      chain_brings next last more rows root of_peer others e (one_covers before (Ask next message) root of_peer one covers).1

  -- the peer answers last by a tree of its map
  pub session_brings : (begun last : Underway K V) (settings : Settings K) (more : List (Underway K V)) (rows : Vec (K × V)) → begun.asked ≡ Root settings → begun.found ≡ nothing
      → AreExchangesTo laws n encoding values local peer begun more last → IsExchange laws n encoding values local peer last (Came rows) → AreBrought laws local peer rows.items
  session_brings begun last settings more rows asks_root nothing_found so_far e =
      let root = e.answer.tree.root in
      chain_brings begun last more rows root e.answer.of_peer so_far e (begun_covers laws encoding local peer root begun settings asks_root nothing_found)

-- digests of n bytes each, one after the other, tell as many digests
digests_tell : (n : ℕ) (ds es : List (List ℕ)) → AllByRecursion (λ d. length d ≡ n) ds → AllByRecursion (λ d. length d ≡ n) es → length ds ≡ length es
    → flat_map (λ d. d) ds ≡ flat_map (λ e. e) es → ds ≡ es
digests_tell n [] [] a b c e = refl
digests_tell n [] (y ∷ es) a b c e = absurd (omega (arith, c))
digests_tell n (x ∷ ds) [] a b c e = absurd (omega (arith, c))
digests_tell n (x ∷ ds) (y ∷ es) a b c e =
    let (first, more) = join_tells x y (flat_map (λ d. d) ds) (flat_map (λ d. d) es) (a.0 ∙ sym b.0) e in
    let rest = digests_tell n ds es a.1 b.1 (omega (arith, c)) more in
    (λ i. first i ∷ rest i)

-- what holds of all digests of a map holds of those of an equal map
each_of : {K : Type 0} (cmp : K → K → Ordering) (P : List ℕ → Type 0) (ps qs : List (K × List ℕ)) → SameMap cmp (λ d e. d ≡ e) ps qs → AllByRecursion (λ p. P p.1) qs → AllByRecursion (λ p. P p.1) ps
each_of cmp P [] [] s a = tt
each_of cmp P [] (q ∷ qs) s a = absurd s
each_of cmp P (p ∷ ps) [] s a = absurd s
each_of cmp P (p ∷ ps) (q ∷ qs) s a = (subst P (sym s.1) a.0, each_of cmp P ps qs s.2 a.1)

-- and of those of the nodes of a row
each_node : {K : Type 0} (P : List ℕ → Type 0) (r : Row K (List ℕ)) → AllByRecursion (λ p. P p.1) (row_pairs r) → AllByRecursion P (map (λ n. n.digest) (row_nodes r))
each_node P (high h) a = tt
each_node P (node h k d r) a = let (here, rest) = each-behind (λ p. P p.1) (held_pairs h) ((k, d) ∷ row_pairs r) a in (here, each_node P r rest)

module _ {K V H : Type 0} (laws : Laws K V H) (o : IsTotalOrder laws.cmp) (n : ℕ) where
  lengths : (s : Side K V H) → HasSmallMap laws n s → (nodes : List (Node K (List ℕ))) (ds : List (List ℕ))
      → map (λ m. get laws.cmp (tree_map laws s) m.key) nodes ≡ map Some ds → AllByRecursion (λ d. length d ≡ n) ds
  lengths s small nodes [] e = tt
  lengths s small [] (d ∷ ds) e = absurd (cc)
  lengths s small (m ∷ ms) (d ∷ ds) e =
      let here : get laws.cmp (tree_map laws s) m.key ≡ Some d = cc in
      let rest : map (λ m. get laws.cmp (tree_map laws s) m.key) ms ≡ map Some ds = cc in
      (found_each laws.cmp o (λ x. length x ≡ n) (tree_map laws s) m.key d small.digests here, lengths s small ms ds rest)

  -- the digests of the nodes of a page have n bytes
  page_lengths : (s : Side K V H) → HasSmallMap laws n s → (p : Tree K (List ℕ)) → IsPageOf laws.cmp (laws.key_digest s.hasher) s.base p (tree_map laws s)
      → AllByRecursion (λ d. length d ≡ n) (map (λ m. m.digest) (nodes_of p))
  page_lengths s small (page l c r) (t, is_tree, in_t) =
      each_node (λ d. length d ≡ n) r (inside (pairs_down (λ p. length p.1 ≡ n)) (page l c r) t (each_of laws.cmp (λ d. length d ≡ n) (pairs t) (tree_map laws s) is_tree.1 small.digests) in_t)

  -- where no nodes collide, their digests are faithful
  pub faithful_nodes : (a b : Side K V H) → HasSmallMap laws n a → HasSmallMap laws n b → NoNodesCollide laws a b → HaveFaithfulNodes laws a b
  faithful_nodes a b small small' none ds es one =
      let nodes = nodes_of one.0 in
      digests_tell n ds es (lengths a small nodes ds one.2) (subst (AllByRecursion (λ e. length e ≡ n)) one.3 (page_lengths b small' one.0 one.1))
      (sym (length-map ds Some) ∙ sym (ap length one.2) ∙ length-map nodes (λ m. get laws.cmp (tree_map laws a) m.key) ∙ sym (length-map nodes (λ m. m.digest)) ∙ ap length one.3)
      (none ds es one)
