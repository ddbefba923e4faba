-- A session with an honest peer comes to its end: each exchange leaves less to ask for.
use Rattle.std.specs.Prelude.{⊤}
use Rattle.std.proofs.Common.{◌≡◌, ℕ, ◌+◌, ◌*◌, ◌≤◌, Bool, true, false, not, List, [], ◌∷◌, ◌++◌, length, map, flat_map, Option, Some, None, refl, sym, ap, subst, ◌∙◌, ◌⊎◌, inl, inr, arith, ◌<◌}
use Rattle.std.proofs.lemmas.List.{length-append, length-map}
use Rattle.std.specs.Global.{Vec}
use Rattle.std.specs.List.{AllByRecursion, filter, AllZip}
use Rattle.std.specs.Cmp.{IsTotalOrder, IsEquivalence, tied_back}
use Rattle.key_order.specs.Map.{SameMap, get, last_key}
use Rattle.key_order.proofs.SameKeys.{SameKeys}
use Rattle.key_order.proofs.ListParts.{each-before, each-behind, join_tells}
use Rattle.merkle_diff.proofs.Each.{each-all, each-mapped, each-with}
use Rattle.merkle_replica.specs.Contents.{Contents, Side, side, tree_map}
use Rattle.merkle_replica.specs.Laws.{Laws}
use Rattle.merkle_search_tree.proofs.SameItems.{same_gap-back, same_gap-own, same_gap-trans}
use Rattle.merkle_tree_theory.specs.Gap.{Gap, SameGap, everywhere, part_behind}
use Rattle.merkle_tree_theory.specs.Outline.{outline_over}
use Rattle.merkle_tree_theory.specs.Tree.{Tree}
use Rattle.merkle_wire.specs.Underway.{IsTakenFrom, Found, Underway}
use Rattle.merkle_wire.specs.Coming.{AscendIn, LiesIn, OutlinesCome}
use Rattle.merkle_wire.specs.Gaps.{owned_gap}
use Rattle.merkle_wire.specs.Messages.{front}
use Rattle.merkle_wire.specs.Next.{AsksOrGoesOn, IsNext, IfAsks}
use Rattle.merkle_wire.specs.Outlines.{Outline, rows_told, digests_told, page_told, IsTold, nodes_among}
use Rattle.merkle_wire.specs.Replies.{IsPartOf, IsReply, Part, items_over, outline_over_bytes, part_in_bytes}
use Rattle.merkle_wire.specs.Sessions.{IsKeyOf}
use Rattle.merkle_wire.specs.Taking.{AreBehind, AreTaken, IsBehind, IsRootTaken, IsPageTaken, has_digest, new_keys, AddsRows, PartsCome, AsksAgain, HasTakenReply}
use Rattle.merkle_wire.specs.declared.catching_up.Next.{Next}
use Rattle.merkle_wire.specs.declared.catching_up.Next.TheVariants.{Ask, Came}
use Rattle.merkle_wire.specs.declared.gaps.OwnedGap.{OwnedGap}
use Rattle.merkle_wire.specs.declared.message.Kind.{Kind}
use Rattle.merkle_wire.specs.declared.message.Kind.TheVariants.{Outlines as outlines_kind, Nodes as nodes_kind, RowsIn as rows_in_kind}
use Rattle.merkle_wire.specs.declared.question.Question.{Question}
use Rattle.merkle_wire.specs.declared.question.Question.TheVariants.{Root, Outlines, Nodes, RowsAt, RowsIn}
use Rattle.merkle_wire.proofs.Exchanges.{Tell, same_begin, sent_fits}
use Rattle.merkle_wire.proofs.FilledGaps.{fills-alike, fills-same}
use Rattle.merkle_wire.proofs.Fitting.{fits_read}
use Rattle.merkle_wire.proofs.ExchangeKeys.{key_alike, of_tree}
use Rattle.merkle_wire.proofs.PageCovers.{AreSides, nodes_peers}
use Rattle.merkle_wire.proofs.Sayable.{filled_ascends, filled_some, keys_in}
use Rattle.merkle_wire.proofs.Outside.{ascend-alike}
use Rattle.merkle_wire.proofs.SameNodes.{keys_over-same}
use Rattle.merkle_wire.proofs.SteadyCatchUps.{stay, up_root, up_tree}
use Rattle.merkle_wire.proofs.StepCovers.{parts_theirs}
use Rattle.merkle_wire.proofs.TakenGaps.{IsGapOrNone, nodes_or_none}
use Rattle.merkle_wire.proofs.Lengths.{filter_length, same_keys_length, some_long}
use Rattle.merkle_wire.proofs.TellingQuestions.{SameGapTold, SameQuestion}
use Rattle.merkle_wire.proofs.TellingReplies.{SameOutline, outlines_tell, parts_tell}
use Rattle.merkle_wire.proofs.Times.{total-append, total-mapped}
use Rattle.merkle_wire.proofs.RowsCounted.{ascending_counted, behind_counted, parts_counted, rows_alike}
use Rattle.merkle_wire.proofs.Steady.{AsksForPages, IsFilled, IsSteadyCatchUp, left_by, left_for, left_of, nodes_over, count_in, times_in, total}
use Rattle.merkle_wire.proofs.Covering.{IsRowOfPeer}
use Rattle.merkle_wire.proofs.Lacking.{all_whole}
use Rattle.merkle_wire.proofs.Continued.{TellsFirst}

module _ {K V H : Type 0} (laws : Laws K V H) (o : IsTotalOrder laws.cmp) (eqv : IsEquivalence laws.eq) (encoding : K → List ℕ) (values : V → List ℕ) (tell : Tell laws encoding values) (n : ℕ)
    (local : Side K V H) (peer : Contents K V H) (root : Tree K (List ℕ)) (sides : AreSides laws local (side peer) root peer.tree.root)
    (small : AllByRecursion (λ p. length p.1 ≡ n) (tree_map laws (side peer))) where
  abbrev tree : Tree K (List ℕ)
  tree = peer.tree.root

  abbrev rows_of : Gap K → ℕ
  rows_of = count_in laws.cmp peer.rows

  abbrev nodes_of : Gap K → ℕ
  nodes_of = nodes_over laws (side peer) root

  abbrev left_found : Found K V → ℕ
  left_found = left_of laws (side peer) root

  abbrev Keys : List K → Type 0
  Keys = AllByRecursion (IsKeyOf laws.cmp peer.rows)

  abbrev keys_of : Gap K → List K
  keys_of h = keys_in laws.cmp o peer.tree.format laws.bytes_of tree (up_tree laws o eqv encoding values tell n local peer root sides small) h

  -- the nodes of a page that fills a gap ascend in it, are keys of the peer's rows, and there is one
  record AreNodesOf (g h : Gap K) : Type 0 where
    pub up : AscendIn laws.cmp g (keys_of h)
    pub keys : Keys (keys_of h)
    pub some : 1 ≤ length (keys_of h)
    pub as_many : nodes_of g ≡ length (keys_of h)

  filled_nodes : (m rounds : ℕ) (g h : Gap K) → SameGap laws.cmp g h → IsFilled laws (side peer) root m rounds g → AreNodesOf g h
  filled_nodes m rounds g h s (t, f, low) =
      let up = up_tree laws o eqv encoding values tell n local peer root sides small in
      let (u, fu, same) = fills-same laws.cmp o g t root tree (up_root laws o eqv encoding values tell n local peer root sides small) sides.same f in
      let fh = fills-alike laws.cmp o g h u tree s fu in
      let nodes = nodes_among (outline_over peer.tree.format laws.bytes_of laws.cmp tree h) in
      record {
        up = ascend-alike laws.cmp o h g (keys_of h) (same_gap-back laws.cmp o g h s) (filled_ascends laws.cmp o peer.tree.format laws.bytes_of tree up h u fh);
        keys = each-mapped (λ m. m.0) (IsKeyOf laws.cmp peer.rows) nodes
            (each-with (λ m. get laws.cmp (tree_map laws (side peer)) m.0 ≡ Some m.1) (λ m. IsKeyOf laws.cmp peer.rows m.0) nodes
            (λ m e. of_tree laws o local (side peer) m.0 m.1 e) (nodes_peers laws o eqv local (side peer) root tree sides h));
        some = some_long (keys_of h) (filled_some laws.cmp o peer.tree.format laws.bytes_of tree up h u fh);
        as_many = same_keys_length laws.cmp _ (keys_of h) (keys_over-same laws.cmp o peer.tree.format laws.bytes_of root tree g h sides.same s);
      }

  keys_alike : (js ks : List K) → SameKeys laws.cmp js ks → Keys ks → Keys js
  keys_alike [] [] s a = tt
  keys_alike [] (k ∷ ks) s a = absurd s
  keys_alike (j ∷ js) [] s a = absurd s
  keys_alike (j ∷ js) (k ∷ ks) s a = (key_alike laws o local (side peer) peer.rows k j (tied_back o j k s.0) a.0, keys_alike js ks s.1 a.1)

  same_nodes_length : (ns ms : List (K × List ℕ)) → SameMap laws.cmp (λ d e. d ≡ e) ns ms → length ns ≡ length ms
  same_nodes_length [] [] s = refl
  same_nodes_length [] (y ∷ ms) s = absurd s
  same_nodes_length (x ∷ ns) [] s = absurd s
  same_nodes_length (x ∷ ns) (y ∷ ms) s = omega (arith, same_nodes_length ns ms s.2)

  keys_added : (before after : Found K V) (nodes : List (K × List ℕ)) → after ≡ record before { wanted = before.wanted ++ new_keys laws local nodes }
      → left_found after ≤ left_found before + length nodes
  keys_added before after nodes e =
      let new = filter (λ m. not (has_digest laws local m.0 m.1)) nodes in
      subst (λ f. left_found f ≤ left_found before + length nodes) (sym e)
      (omega (arith, length-append before.wanted (new_keys laws local nodes), length-map new (λ m. m.0), filter_length (λ m. not (has_digest laws local m.0 m.1)) nodes))

  own_left : (g h : Gap K) (own : List (Gap K)) → AreNodesOf g h → SameGap laws.cmp g h → IsGapOrNone laws local g own → total nodes_of own ≤ length (keys_of h)
  own_left g h [] nodes s one = omega arith
  own_left g h (x ∷ []) nodes s one =
      omega (
        arith,
        same_keys_length laws.cmp _ (keys_of h)
            (keys_over-same laws.cmp o peer.tree.format laws.bytes_of root tree x h sides.same (same_gap-trans laws.cmp o x g h (same_gap-back laws.cmp o g x one) s)),
      )
  own_left g h (x ∷ y ∷ others) nodes s one = absurd one

  -- what a question about the page over a gap leaves to ask for
  abbrev left_about : Bool → Gap K → ℕ
  left_about true g = 3 * rows_of g
  left_about false g = 2 * nodes_of g

  one_less : (with_pages : Bool) (g h : Gap K) (x y : Outline K V) (before after : Found K V) → AreNodesOf g h → SameGap laws.cmp g h → SameOutline laws.cmp laws.eq x y
      → IsTold laws.cmp peer.rows with_pages (outline_over peer.tree.format laws.bytes_of laws.cmp tree h) y → LiesIn laws.cmp n g x → IsPageTaken laws local g x before after
      → left_found after + 1 ≤ left_found before + left_about with_pages g
  one_less true g h (rows_told rs) y before after nodes s same told lies taken =
      omega (arith, ap left_found taken, nodes.some, ascending_counted laws o local peer.rows g (keys_of h) nodes.up nodes.keys)
  one_less true g h (digests_told ns) (digests_told ms) before after nodes s same (none, told) lies taken =
      omega (
        arith,
        keys_added before after ns taken,
        same_nodes_length ns ms same,
        ap length told,
        length-map (nodes_among (outline_over peer.tree.format laws.bytes_of laws.cmp tree h)) (λ m. m.0),
        nodes.some,
        ascending_counted laws o local peer.rows g (keys_of h) nodes.up nodes.keys,
      )
  one_less true g h (page_told c js ps) (page_told d ks qs) before after nodes s same (with, is, are, beside) lies (gaps, own, new, kept, taken) =
      let keys = subst (SameKeys laws.cmp js) are same.1 in
      subst (λ f. left_found f + 1 ≤ left_found before + 3 * rows_of g) (sym taken)
      (omega (
        arith,
        total-append rows_of before.below gaps,
        total-append nodes_of before.nodes own,
        own_left g h own nodes s (nodes_or_none laws local g js c own kept),
        same_keys_length laws.cmp js (keys_of h) keys,
        nodes.some,
        parts_counted laws o local peer.rows g js ps gaps new lies.1 (keys_alike js (keys_of h) keys nodes.keys),
      ))
  one_less false g h (rows_told rs) y before after nodes s same told lies taken = omega (arith, ap left_found taken, nodes.some, nodes.as_many)
  one_less false g h (digests_told ns) (digests_told ms) before after nodes s same (none, told) lies taken =
      omega (
        arith,
        keys_added before after ns taken,
        same_nodes_length ns ms same,
        ap length told,
        length-map (nodes_among (outline_over peer.tree.format laws.bytes_of laws.cmp tree h)) (λ m. m.0),
        nodes.some,
        nodes.as_many,
      )
  one_less false g h (page_told c js ps) (page_told d ks qs) before after nodes s same told lies taken = let never : false ≡ true = told.0 in absurd (cc)
  one_less true g h (digests_told ns) (rows_told ss) before after nodes s same told lies taken = absurd same
  one_less true g h (digests_told ns) (page_told d ks qs) before after nodes s same told lies taken = absurd same
  one_less true g h (page_told c js ps) (rows_told ss) before after nodes s same told lies taken = absurd same
  one_less true g h (page_told c js ps) (digests_told ms) before after nodes s same told lies taken = absurd same
  one_less false g h (digests_told ns) (rows_told ss) before after nodes s same told lies taken = absurd same
  one_less false g h (digests_told ns) (page_told d ks qs) before after nodes s same told lies taken = absurd same
  one_less false g h (page_told c js ps) (rows_told ss) before after nodes s same told lies taken = absurd same
  one_less false g h (page_told c js ps) (digests_told ms) before after nodes s same told lies taken = absurd same

  abbrev Filled : ℕ → OwnedGap K → Type 0
  Filled rounds g = IsFilled laws (side peer) root 257 rounds (owned_gap g)

  outlines_less : (with_pages : Bool) (rounds : ℕ) (ts us : List (OwnedGap K × Outline K V)) (before after : Found K V) → AllByRecursion (Filled rounds) (map (λ t. t.0) ts)
      → AllZip (λ t u. SameGapTold laws.cmp encoding t.0 u.0 × SameOutline laws.cmp laws.eq t.1 u.1) ts us
      → AllByRecursion (λ u. IsTold laws.cmp peer.rows with_pages (items_over laws.cmp laws.bytes_of peer.tree u.0) u.1) us
      → AllByRecursion (λ t. LiesIn laws.cmp n (owned_gap t.0) t.1) ts → AreTaken laws local ts before after
      → left_found after + length ts ≤ left_found before + total (λ g. left_about with_pages (owned_gap g)) (map (λ t. t.0) ts)
  outlines_less with_pages rounds [] us before after filled s told lies taken = omega (arith, ap left_found taken)
  outlines_less with_pages rounds (t ∷ ts) [] before after filled s told lies taken = absurd s
  outlines_less with_pages rounds (t ∷ ts) (u ∷ us) before after filled s told lies (mid, one, more) =
      omega (
        arith,
        one_less with_pages (owned_gap t.0) (owned_gap u.0) t.1 u.1 before mid (filled_nodes 257 rounds (owned_gap t.0) (owned_gap u.0) s.0.0.0 filled.0) s.0.0.0 s.0.1 told.0 lies.0 one,
        outlines_less with_pages rounds ts us mid after filled.1 s.1 told.1 lies.1 more,
      )

  abbrev By : Question K → ℕ
  By = left_by laws (side peer) root

  abbrev Again : Option (Question K) → ℕ
  Again None = 0
  Again (Some question) = By question

  again_left : {X : Type 0} (ask : Vec X → Question K) (weight : List X → ℕ) (left : List X) (again : Option (Question K))
      → ((xs : Vec X) → By (ask xs) ≡ weight xs.items) → AsksAgain ask left again → Again again ≤ weight left
  again_left ask weight left again is (inl (none, e)) = omega (arith, ap Again e)
  again_left ask weight left again is (inr (rest, items, some, e)) = omega (arith, ap Again e, is rest, ap weight items)

  thrice : (gaps : List (OwnedGap K)) → total (λ g. 3 * rows_of (owned_gap g)) gaps ≡ 3 * total (λ g. rows_of (owned_gap g)) gaps
  thrice [] = refl
  thrice (g ∷ gs) = omega (arith, thrice gs)

  twice : (gaps : List (OwnedGap K)) → total (λ g. 2 * nodes_of (owned_gap g)) gaps ≡ 2 * total (λ g. nodes_of (owned_gap g)) gaps
  twice [] = refl
  twice (g ∷ gs) = omega (arith, twice gs)

  -- what was read of a reply is what was sent
  pub lists_alike : (with_pages : Bool) (kind : Kind) (gaps gaps' left : List (OwnedGap K)) (reply : List ℕ) (before after : Found K V)
      (told' : List (OwnedGap K × Outline K V)) → AllZip (SameGapTold laws.cmp encoding) gaps gaps'
      → (answers : TellsFirst (λ g. IsTold laws.cmp peer.rows with_pages (items_over laws.cmp laws.bytes_of peer.tree g)) gaps' told')
      → reply ≡ front kind ++ flat_map (outline_over_bytes encoding values) told'
      → (has : OutlinesCome laws.cmp encoding values n kind (λ told. AreTaken laws local told before after) gaps reply left)
      → AllZip (λ t u. SameGapTold laws.cmp encoding t.0 u.0 × SameOutline laws.cmp laws.eq t.1 u.1) has.0 told'
  lists_alike with_pages kind gaps gaps' left reply before after told' alike answers sent (told, read, some, are, lies, taken) =
      let bytes = (join_tells (front kind) (front kind) (flat_map (outline_over_bytes encoding values) told) (flat_map (outline_over_bytes encoding values) told') refl (sym read ∙ sent)).1 in
      outlines_tell laws.cmp laws.eq encoding values tell.keys tell.value (SameGapTold laws.cmp encoding) (λ g h e. e.1) n told told' left answers.0
      (same_begin laws o eqv encoding values tell n local peer root sides small
      (SameGapTold laws.cmp encoding) gaps gaps' told told' left answers.0 alike are answers.1) (fits_read laws local n told before after lies taken)
      (sent_fits laws o eqv encoding values tell n local peer root sides small with_pages told' answers.3) bytes

  outlines_left : (with_pages : Bool) (kind : Kind) (rounds : ℕ) (gaps gaps' left : List (OwnedGap K)) (reply : List ℕ) (before after : Found K V)
      (told' : List (OwnedGap K × Outline K V)) → AllByRecursion (Filled rounds) gaps
      → AllZip (SameGapTold laws.cmp encoding) gaps gaps' → TellsFirst (λ g. IsTold laws.cmp peer.rows with_pages (items_over laws.cmp laws.bytes_of peer.tree g)) gaps'
      told' → reply ≡ front kind ++ flat_map (outline_over_bytes encoding values) told'
      → OutlinesCome laws.cmp encoding values n kind (λ told. AreTaken laws local told before after) gaps reply left
      → left_found after + total (λ g. left_about with_pages (owned_gap g)) left + 1 ≤ left_found before + total (λ g. left_about with_pages (owned_gap g)) gaps
  outlines_left with_pages kind rounds gaps gaps' left reply before after told' filled alike answers sent (told, read, some, are, lies, taken) =
      let lists = lists_alike with_pages kind gaps gaps' left reply before after told' alike answers sent (told, read, some, are, lies, taken) in
      let about : OwnedGap K → ℕ = λ g. left_about with_pages (owned_gap g) in
      omega (
        arith,
        some_long told some,
        ap (total about) are,
        total-append about (map (λ t. t.0) told) left,
        outlines_less with_pages rounds told told' before after
            (each-before (Filled rounds) (map (λ t. t.0) told) left (subst (AllByRecursion (Filled rounds)) are filled)) lists answers.3 lies taken,
      )

  -- parts of the rows in gaps
  abbrev in_gaps : List (OwnedGap K) → ℕ
  in_gaps gaps = total (λ g. rows_of (owned_gap g)) gaps + length gaps

  part_less : (t : OwnedGap K × Part K V) (left : List (OwnedGap K)) → AscendIn laws.cmp (owned_gap t.0) (map (λ r. r.0) t.1.rows) → Keys (map (λ r. r.0) t.1.rows)
      → IsBehind laws.cmp (owned_gap t.0) t.1 left
      → in_gaps left ≤ rows_of (owned_gap t.0)
  part_less t left up keys (inl (all, none)) = subst (λ gs. in_gaps gs ≤ rows_of (owned_gap t.0)) (sym none) (omega arith)
  part_less t left up keys (inr (row, rows, own, some, are, same, is)) =
      let behind = part_behind (owned_gap t.0) (last_key row.0 rows) in
      let to : List (K × V) → List K = map (λ r. r.0) in
      subst (λ gs. in_gaps gs ≤ rows_of (owned_gap t.0)) (sym is)
      (omega (
        arith,
        rows_alike laws o local peer.rows (owned_gap own) behind (same_gap-back laws.cmp o behind (owned_gap own) same),
        behind_counted laws o local peer.rows (owned_gap t.0) row rows (subst (λ rs. AscendIn laws.cmp (owned_gap t.0) (to rs)) are up) (subst (λ rs. Keys (to rs)) are keys),
      ))

  parts_less : (ts : List (OwnedGap K × Part K V)) (left : List (OwnedGap K)) → AllByRecursion (λ t. AscendIn laws.cmp (owned_gap t.0) (map (λ r. r.0) t.1.rows)) ts
      → AllByRecursion (λ r. IsKeyOf laws.cmp peer.rows r.0) (flat_map (λ t. t.1.rows) ts)
      → AreBehind laws.cmp ts left → in_gaps left + length ts ≤ in_gaps (map (λ t. t.0) ts)
  parts_less [] left up keys none = subst (λ gs. in_gaps gs + 0 ≤ 0) (sym none) (omega arith)
  parts_less (t ∷ ts) left up keys (first, rest, one, more, e) =
      let IsKey : K × V → Type 0 = λ r. IsKeyOf laws.cmp peer.rows r.0 in
      let others = flat_map (λ (x : OwnedGap K × Part K V). x.1.rows) ts in
      subst (λ gs. in_gaps gs + length (t ∷ ts) ≤ in_gaps (map (λ x. x.0) (t ∷ ts))) (sym e)
      (omega (
        arith,
        total-append (λ g. rows_of (owned_gap g)) first rest,
        length-append first rest,
        part_less t first up.0 (each-mapped (λ r. r.0) (IsKeyOf laws.cmp peer.rows) t.1.rows (each-before IsKey t.1.rows others keys)) one,
        parts_less ts rest up.1 (each-behind IsKey t.1.rows others keys) more,
      ))

  parts_left : (gaps gaps' left : List (OwnedGap K)) (reply : List ℕ) (before after : Found K V) (told' : List (OwnedGap K × Part K V)) → AllZip (SameGapTold laws.cmp encoding) gaps gaps'
      → TellsFirst (IsPartOf laws.cmp peer.rows) gaps' told' → reply ≡ front rows_in_kind ++ flat_map (part_in_bytes encoding values) told'
      → PartsCome laws.cmp encoding values (λ rows. AddsRows laws local rows before after) gaps reply left
      → left_found after + in_gaps left + 1 ≤ left_found before + in_gaps gaps
  parts_left gaps gaps' left reply before after told' alike answers sent (behind, rest, is_left, (told, read, some, are, up, (are_behind, taken))) =
      let bytes = (join_tells (front rows_in_kind) (front rows_in_kind) (flat_map (part_in_bytes encoding values) told) (flat_map (part_in_bytes encoding values) told') refl (sym read ∙ sent)).1 in
      let lists = parts_tell laws.cmp laws.eq encoding values tell.keys tell.value (SameGapTold laws.cmp encoding) (λ g h e. e.1) told told' rest answers.0
      (same_begin laws o eqv encoding values tell n local peer root sides small
      (SameGapTold laws.cmp encoding) gaps gaps' told told' rest answers.0 alike are answers.1) (each-all (λ t. ⊤) told (λ t. tt)) (each-all (λ t. ⊤) told' (λ t. tt)) bytes in
      let rows = flat_map (λ (t : OwnedGap K × Part K V). t.1.rows) told in
      let theirs = parts_theirs laws o eqv local (side peer) root tree sides (SameGapTold laws.cmp encoding) (λ g h e. e.0) told told' lists answers.3 in
      let keys = each-with (IsRowOfPeer laws local (side peer)) (λ r. IsKeyOf laws.cmp peer.rows r.0) rows (λ r (v, there, e). (v, there)) theirs in
      omega (
        arith,
        some_long told some,
        ap left_found taken,
        ap in_gaps are,
        ap in_gaps is_left,
        total-append (λ g. rows_of (owned_gap g)) (map (λ t. t.0) told) rest,
        length-append (map (λ t. t.0) told) rest,
        total-append (λ g. rows_of (owned_gap g)) behind rest,
        length-append behind rest,
        parts_less told behind up keys are_behind,
      )

  -- the root
  all_rows : (rs : List (K × V)) → total (λ r. times_in laws.cmp r.0 everywhere) rs ≡ length rs
  all_rows [] = refl
  all_rows (r ∷ rs) = omega (arith, all_rows rs)

  root_left : (digest : Option (List ℕ)) (before after : Found K V) → IsRootTaken laws local digest before after → left_found after + 1 ≤ left_found before + (3 * length peer.rows + 2)
  root_left None before after e = omega (arith, ap left_found e)
  root_left (Some d) before after (inl (own, e)) = omega (arith, ap left_found e)
  root_left (Some d) before after (inr (lacks, inl e)) =
      subst (λ f. left_found f + 1 ≤ left_found before + (3 * length peer.rows + 2)) (sym e)
      (omega (arith, all_rows peer.rows, total-append rows_of before.whole (everywhere ∷ []), length-append before.whole (everywhere ∷ [])))
  root_left (Some d) before after (inr (lacks, inr e)) =
      subst (λ f. left_found f + 1 ≤ left_found before + (3 * length peer.rows + 2)) (sym e) (omega (arith, all_rows peer.rows, total-append rows_of before.below (everywhere ∷ [])))

  -- a reply leaves less to ask for
  taken_less : (u : Underway K V) (question : Question K) (reply : List ℕ) (after : Found K V) (again : Option (Question K))
      → IsSteadyCatchUp laws (side peer) root u → SameQuestion laws.cmp encoding u.asked question
      → IsReply laws n encoding values peer.rows peer.tree question reply → HasTakenReply laws n encoding values local u.asked reply u.found after again
      → left_found after + Again again + 1 ≤ left_found u.found + By u.asked
  taken_less u question reply after again s = by u.asked question s.asked
    where
      by : (asked question : Question K) → AsksForPages laws (side peer) root u.rounds asked → SameQuestion laws.cmp encoding asked question
          → IsReply laws n encoding values peer.rows peer.tree question reply
          → HasTakenReply laws n encoding values local asked reply u.found after again → left_found after + Again again + 1 ≤ left_found u.found + By asked
      by (Root a) (Root b) pages alike is (count, digest, read, taken, none) = omega (arith, ap Again none, root_left digest u.found after taken)
      by (Outlines m gs) (Outlines m' hs) pages alike (told', answers, sent) (left, has, asks) =
          omega (
            arith,
            again_left (Outlines m) (λ xs. 3 * total (λ g. rows_of (owned_gap g)) xs) left again (λ xs. refl) asks,
            thrice left,
            thrice gs.items,
            outlines_left true outlines_kind u.rounds gs.items hs.items left reply u.found after told' pages alike answers sent has,
          )
      by (Nodes m gs) (Nodes m' hs) pages alike (told', answers, sent) (left, has, asks) =
          omega (
            arith,
            again_left (Nodes m) (λ xs. 2 * total (λ g. nodes_of (owned_gap g)) xs) left again (λ xs. refl) asks,
            twice left,
            twice gs.items,
            outlines_left false nodes_kind 0 gs.items hs.items left reply u.found after told' pages alike answers sent has,
          )
      by (RowsAt ws) (RowsAt xs) pages alike is (left, (told, read, some, are, any, taken), asks) =
          omega (
            arith,
            again_left RowsAt length left again (λ ys. refl) asks,
            some_long told some,
            ap left_found taken,
            ap length are,
            length-append (map (λ t. t.0) told) left,
            length-map told (λ t. t.0),
          )
      by (RowsIn gs) (RowsIn hs) pages alike (told', answers, sent) (left, has, asks) =
          omega (arith, again_left RowsIn in_gaps left again (λ xs. refl) asks, parts_left gs.items hs.items left reply u.found after told' alike answers sent has)
      by asked question pages alike is taken = absurd alike

  -- what is asked for next was left
  taken_from_left : (question : Question K) (f after : Found K V) → IsTakenFrom question f after → By question + left_found after ≤ left_found f
  taken_from_left (Root settings) f after t = absurd t
  taken_from_left (Outlines most gaps) f after (is, e) =
      subst (λ x. By (Outlines most gaps) + left_found x ≤ left_found f) (sym e) (omega (arith, ap (total rows_of) is, total-mapped rows_of owned_gap gaps.items))
  taken_from_left (Nodes most gaps) f after (is, e) =
      subst (λ x. By (Nodes most gaps) + left_found x ≤ left_found f) (sym e) (omega (arith, ap (total nodes_of) is, total-mapped nodes_of owned_gap gaps.items))
  taken_from_left (RowsAt keys) f after (is, e) = subst (λ x. By (RowsAt keys) + left_found x ≤ left_found f) (sym e) (omega (arith, ap length is, length-map keys.items (λ w. w.key)))
  taken_from_left (RowsIn gaps) f after (is, e) =
      subst (λ x. By (RowsIn gaps) + left_found x ≤ left_found f) (sym e)
      (omega (arith, ap (total rows_of) is, total-mapped rows_of owned_gap gaps.items, ap length is, length-map gaps.items owned_gap))

  -- a gap that a page fills has a row
  some_rows : (rounds : ℕ) (gaps : List (Gap K)) → AllByRecursion (IsFilled laws (side peer) root 256 rounds) gaps → length gaps ≤ total rows_of gaps
  some_rows rounds [] a = omega arith
  some_rows rounds (g ∷ gaps) (filled, a) =
      let nodes = filled_nodes 256 rounds g g (same_gap-own laws.cmp o g) filled in
      omega (arith, nodes.some, ascending_counted laws o local peer.rows g (keys_of g) nodes.up nodes.keys, some_rows rounds gaps a)

  whole_left : (rounds : ℕ) (f : Found K V) → AllByRecursion (IsFilled laws (side peer) root 256 rounds) f.below → left_found (all_whole f) ≤ left_found f
  whole_left rounds f a = omega (arith, total-append rows_of f.whole f.below, length-append f.whole f.below, some_rows rounds f.below a)

  next_left : (again : Option (Question K)) (rounds : ℕ) (f : Found K V) (session : Underway K V) (message : Vec ℕ) → AllByRecursion (IsFilled laws (side peer) root 256 rounds) f.below
      → AsksOrGoesOn laws.cmp encoding again rounds f (Ask session message) → left_for laws (side peer) root session ≤ left_found f + Again again
  next_left None rounds f session message a (asked, is, more) = by asked.1
    where
      by : IsTakenFrom session.asked f session.found ⊎ IsTakenFrom session.asked (all_whole f) session.found → left_for laws (side peer) root session ≤ left_found f + 0
      by (inl t) = omega (arith, taken_from_left session.asked f session.found t)
      by (inr t) = omega (arith, taken_from_left session.asked (all_whole f) session.found t, whole_left rounds f a)
  next_left (Some question) rounds f session message a (is, e) = omega (arith, ap (left_for laws (side peer) root) e)

  pub leaves_less : (before : Underway K V) (question : Question K) (reply : List ℕ) (next : Next K V) → IsSteadyCatchUp laws (side peer) root before
      → SameQuestion laws.cmp encoding before.asked question
      → IsReply laws n encoding values peer.rows peer.tree question reply → IsNext laws n encoding values local before reply next
      → IfAsks (λ after. left_for laws (side peer) root after < left_for laws (side peer) root before) next
  leaves_less before question reply (Came rows) s alike is comes = tt
  leaves_less before question reply (Ask session message) s alike is (found, again, taken, goes) =
      let t = stay laws o eqv encoding values tell n local peer root sides small before.asked question before.rounds before.left reply before.found found again s alike is taken in
      omega (arith, taken_less before question reply found again s alike is taken, next_left again before.rounds found session message t.steady.below goes)
