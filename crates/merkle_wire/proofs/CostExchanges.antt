-- What one reply of an honest peer costs: it tells pages that the side hasn't, each once, and the nodes of no more.
use Rattle.std.proofs.Common.{◌≡◌, ℕ, ◌+◌, ◌≤◌, Bool, true, false, List, [], ◌∷◌, length, map, Option, Some, None, refl, sym, ap, subst, ◌∙◌, ◌⊎◌, inl, inr, arith}
use Rattle.std.proofs.lemmas.List.{length-append, length-map}
use Rattle.std.specs.List.{AllByRecursion, AllZip}
use Rattle.std.specs.Cmp.{IsTotalOrder, IsEquivalence}
use Rattle.key_order.specs.Map.{IsMap}
use Rattle.key_order.proofs.Bools.{which}
use Rattle.key_order.proofs.ListParts.{each-before}
use Rattle.key_order.proofs.SameKeys.{SameKeys, same_keys-back}
use Rattle.merkle_digest.specs.Level.{level_of}
use Rattle.merkle_replica.specs.Contents.{Contents, Side, side, tree_map}
use Rattle.merkle_replica.specs.Laws.{Laws}
use Rattle.merkle_search_tree.proofs.SameItems.{same_gap-back, same_gap-own}
use Rattle.merkle_tree_theory.specs.Canonical.{SamePages}
use Rattle.merkle_tree_theory.specs.Gap.{Gap, SameGap, everywhere}
use Rattle.merkle_tree_theory.specs.Outline.{outline_over, whole_item}
use Rattle.merkle_tree_theory.specs.Page.{pairs}
use Rattle.merkle_tree_theory.specs.Stream.{page_digest}
use Rattle.merkle_tree_theory.specs.Tree.{Tree, page, high, node, below}
use Rattle.merkle_tree_theory.specs.declared.page_format.PageFormat.{PageFormat}
use Rattle.merkle_tree_theory.proofs.InGaps.{all_within}
use Rattle.merkle_tree_theory.proofs.PagesIn.{itself}
use Rattle.merkle_wire.specs.SessionLaws.{lacked_of_tree, lacked_pages, entries_taken}
use Rattle.merkle_wire.specs.Underway.{Found, Underway}
use Rattle.merkle_wire.specs.Gaps.{owned_gap}
use Rattle.merkle_wire.specs.Next.{IsNext}
use Rattle.merkle_wire.specs.Outlines.{Outline, rows_told, digests_told, page_told, IsTold}
use Rattle.merkle_wire.specs.Replies.{IsReply, items_over, whole_digest}
use Rattle.merkle_wire.specs.Taking.{AreNewGaps, AreTaken, HasPageAt, IsRootTaken, IsPageTaken, HasTakenReply}
use Rattle.merkle_wire.specs.declared.catching_up.Next.{Next}
use Rattle.merkle_wire.specs.declared.gaps.OwnedGap.{OwnedGap}
use Rattle.merkle_wire.specs.declared.message.Kind.TheVariants.{Outlines as outlines_kind, Nodes as nodes_kind}
use Rattle.merkle_wire.specs.declared.question.Question.{Question}
use Rattle.merkle_wire.specs.declared.question.Question.TheVariants.{Root, Outlines, Nodes, RowsAt, RowsIn}
use Rattle.merkle_wire.proofs.Costs.{PayFor, again_of, again_weighs, next_pays, nodes_by, nodes_of, over, pages_by, pages_of}
use Rattle.merkle_wire.proofs.Exchanges.{Tell, root_tells}
use Rattle.merkle_wire.proofs.FilledGaps.{fills-alike, fills-same}
use Rattle.merkle_wire.proofs.PageCovers.{AreSides}
use Rattle.merkle_wire.proofs.PagesLacked.{TellsOwnPages, held-same, lacked-same, lacked_filled, lacked_over, lacked_over-same, parts_lacked}
use Rattle.merkle_wire.proofs.SessionEnds.{lists_alike}
use Rattle.merkle_wire.proofs.SteadyCatchUps.{up_root, up_tree}
use Rattle.merkle_wire.proofs.TakenGaps.{IsGapOrNone, nodes_or_none}
use Rattle.merkle_wire.proofs.TellingQuestions.{SameGapTold, SameQuestion}
use Rattle.merkle_wire.proofs.TellingReplies.{SameOutline}
use Rattle.merkle_wire.proofs.Times.{total-append}
use Rattle.merkle_wire.proofs.Steady.{AsksForPages, IsFilled, IsSteadyCatchUp, total}

total-equal : {X : Type 0} (f h : X → ℕ) → ((x : X) → f x ≡ h x) → (xs : List X) → total f xs ≡ total h xs
total-equal f h e [] = refl
total-equal f h e (x ∷ xs) = omega (arith, e x, total-equal f h e xs)

module _ {K V H : Type 0} (laws : Laws K V H) (o : IsTotalOrder laws.cmp) (eqv : IsEquivalence laws.eq) (encoding : K → List ℕ) (values : V → List ℕ) (tell : Tell laws encoding values) (n : ℕ)
    (local : Side K V H) (peer : Contents K V H) (root : Tree K (List ℕ)) (sides : AreSides laws local (side peer) root peer.tree.root)
    (small : AllByRecursion (λ p. length p.1 ≡ n) (tree_map laws (side peer)))
    (one_digest : (format : PageFormat) (t u : Tree K (List ℕ)) → SamePages laws.cmp t u → page_digest format laws.bytes_of t ≡ page_digest format laws.bytes_of u)
    (is_there : Gap K → List ℕ → Bool) (tells : TellsOwnPages laws local is_there) where
  abbrev tree : Tree K (List ℕ)
  tree = peer.tree.root

  abbrev format : PageFormat
  format = peer.tree.format

  abbrev pages_found : Found K V → ℕ
  pages_found = pages_of laws (side peer) root is_there

  abbrev nodes_found : Found K V → ℕ
  nodes_found = nodes_of laws (side peer) root is_there

  abbrev over_root : Gap K → ℕ
  over_root = over laws (side peer) root is_there

  -- a page that fills a gap counts itself
  some_lacked : (g : Gap K) (t : Tree K (List ℕ)) → 1 ≤ lacked_pages format laws.bytes_of is_there g t
  some_lacked g (page l c r) = omega arith

  abbrev Filled : ℕ → Gap K → Type 0
  Filled rounds g = IsFilled laws (side peer) root 257 rounds g

  over_filled : (rounds : ℕ) (g : Gap K) → Filled rounds g → 1 ≤ over_root g
  over_filled rounds g (t, f, low) =
      omega (arith, some_lacked g t, lacked_filled laws o local format (one_digest format) is_there tells root (up_root laws o eqv encoding values tell n local peer root sides small) g t f)

  one_pays : (rounds : ℕ) (g h : Gap K) (x y : Outline K V) (before after : Found K V) → Filled rounds g → SameGap laws.cmp g h → SameOutline laws.cmp laws.eq x y
      → IsTold laws.cmp peer.rows true (outline_over format laws.bytes_of laws.cmp tree h) y → IsPageTaken laws local g x before after → pages_found after + 1 ≤ pages_found before + over_root g
  one_pays rounds g h (rows_told rs) y before after filled s same told taken = omega (arith, ap pages_found taken, over_filled rounds g filled)
  one_pays rounds g h (digests_told ns) y before after filled s same told taken = omega (arith, ap pages_found taken, over_filled rounds g filled)
  one_pays rounds g h (page_told c js ps) (page_told d ks qs) before after (t, f, low) s same (with, is, are, beside) (gaps, own, new, kept, taken) =
      let up = up_tree laws o eqv encoding values tell n local peer root sides small in
      let up_own = up_root laws o eqv encoding values tell n local peer root sides small in
      let (u, fu, alike) = fills-same laws.cmp o g t root tree up_own sides.same f in
      let keys = subst (SameKeys laws.cmp js) are same.1 in
      subst (λ x. pages_found x + 1 ≤ pages_found before + over_root g) (sym taken)
      (omega (
        arith,
        total-append over_root before.below gaps,
        total-equal over_root (lacked_over laws.cmp format laws.bytes_of is_there tree)
            (λ y. lacked_over-same laws o local format (one_digest format) is_there tells root tree y y sides.same (same_gap-own laws.cmp o y)) gaps,
        lacked_filled laws o local format (one_digest format) is_there tells root up_own g t f,
        lacked-same laws o local format (one_digest format) is_there tells g h t u s alike,
        parts_lacked laws o local format (one_digest format) is_there tells tree up
            (λ k. level_of (laws.key_digest peer.tree.hasher k) peer.tree.base) sides.is_tree.0 h g u js gaps (fills-alike laws.cmp o g h u tree s fu)
            (same_gap-back laws.cmp o g h s) (same_keys-back laws.cmp o js _ keys) (subst (λ ps. AreNewGaps laws local g js ps gaps) (same.2 ∙ beside) new),
      ))
  one_pays rounds g h (page_told c js ps) (rows_told ss) before after filled s same told taken = absurd same
  one_pays rounds g h (page_told c js ps) (digests_told ms) before after filled s same told taken = absurd same

  abbrev SameTold : OwnedGap K × Outline K V → OwnedGap K × Outline K V → Type 0
  SameTold t u = SameGapTold laws.cmp encoding t.0 u.0 × SameOutline laws.cmp laws.eq t.1 u.1

  abbrev Told : Bool → OwnedGap K × Outline K V → Type 0
  Told with_pages u = IsTold laws.cmp peer.rows with_pages (items_over laws.cmp laws.bytes_of peer.tree u.0) u.1

  all_pay : (rounds : ℕ) (ts us : List (OwnedGap K × Outline K V)) (before after : Found K V) → AllByRecursion (λ g. Filled rounds (owned_gap g)) (map (λ t. t.0) ts)
      → AllZip SameTold ts us → AllByRecursion (Told true) us
      → AreTaken laws local ts before after → pages_found after + length ts ≤ pages_found before + total (λ g. over_root (owned_gap g)) (map (λ t. t.0) ts)
  all_pay rounds [] us before after filled s told taken = omega (arith, ap pages_found taken)
  all_pay rounds (t ∷ ts) [] before after filled s told taken = absurd s
  all_pay rounds (t ∷ ts) (u ∷ us) before after filled s told (mid, one, more) =
      omega (
        arith,
        one_pays rounds (owned_gap t.0) (owned_gap u.0) t.1 u.1 before mid filled.0 s.0.0.0 s.0.1 told.0 one,
        all_pay rounds ts us mid after filled.1 s.1 told.1 more,
      )

  -- of each page that was told with those below it the nodes are asked for once at most
  one_gap : (g : Gap K) (own : List (Gap K)) → IsGapOrNone laws local g own → length own ≤ 1
  one_gap g [] one = omega arith
  one_gap g (x ∷ []) one = omega arith
  one_gap g (x ∷ y ∷ own) one = absurd one

  nodes_more : (ts : List (OwnedGap K × Outline K V)) (before after : Found K V) → AreTaken laws local ts before after → nodes_found after ≤ nodes_found before + length ts
  nodes_more [] before after taken = omega (arith, ap nodes_found taken)
  nodes_more (t ∷ ts) before after (mid, one, more) = omega (arith, by t.1 one, nodes_more ts mid after more)
    where
      by : (x : Outline K V) → IsPageTaken laws local (owned_gap t.0) x before mid → nodes_found mid ≤ nodes_found before + 1
      by (rows_told rs) taken = omega (arith, ap nodes_found taken)
      by (digests_told ns) taken = omega (arith, ap nodes_found taken)
      by (page_told c js ps) (gaps, own, new, kept, taken) =
          subst (λ f. nodes_found f ≤ nodes_found before + 1) (sym taken)
          (omega (arith, length-append before.nodes own, one_gap (owned_gap t.0) own (nodes_or_none laws local (owned_gap t.0) js c own kept)))

  -- nodes alone leave what was found of pages and of nodes
  nodes_alone : (ts us : List (OwnedGap K × Outline K V)) (before after : Found K V) → AllZip SameTold ts us → AllByRecursion (Told false) us → AreTaken laws local ts before after
      → (pages_found after ≡ pages_found before) × (nodes_found after ≡ nodes_found before)
  nodes_alone [] us before after s told taken = (ap pages_found taken, ap nodes_found taken)
  nodes_alone (t ∷ ts) [] before after s told taken = absurd s
  nodes_alone (t ∷ ts) (u ∷ us) before after s told (mid, one, more) =
      let rest = nodes_alone ts us mid after s.1 told.1 more in
      let first = by t.1 u.1 s.0.1 told.0 one in
      (rest.0 ∙ first.0, rest.1 ∙ first.1)
    where
      by : (x y : Outline K V) → SameOutline laws.cmp laws.eq x y → Told false (u.0, y) → IsPageTaken laws local (owned_gap t.0) x before mid
          → (pages_found mid ≡ pages_found before) × (nodes_found mid ≡ nodes_found before)
      by (rows_told rs) y same told taken = (ap pages_found taken, ap nodes_found taken)
      by (digests_told ns) y same told taken = (ap pages_found taken, ap nodes_found taken)
      by (page_told c js ps) (page_told d ks qs) same told taken = let never : false ≡ true = told.0 in absurd (cc)
      by (page_told c js ps) (rows_told ss) same told taken = absurd same
      by (page_told c js ps) (digests_told ms) same told taken = absurd same

  -- the root
  whole_lacked : (t : Tree K (List ℕ)) (d : List ℕ) → whole_digest (whole_item format laws.bytes_of t) ≡ Some d → IsMap laws.cmp (pairs t) → (HasPageAt laws local everywhere d → ⊥)
      → lacked_over laws.cmp format laws.bytes_of is_there t everywhere ≤ lacked_of_tree format laws.bytes_of is_there t
  whole_lacked (page l c (high h)) d e up lacks = absurd (cc)
  whole_lacked (page l c (node h k x r)) d e up lacks =
      let t : Tree K (List ℕ) = page l c (node h k x r) in
      let is : page_digest format laws.bytes_of t ≡ d = cc in
      let fills = lacked_filled laws o local format (one_digest format) is_there tells t up everywhere t (record { inside = itself t; some = tt; all = all_within laws.cmp (pairs t) }) in
      by is fills (which (is_there everywhere (page_digest format laws.bytes_of t)))
    where
      by : page_digest format laws.bytes_of (page l c (node h k x r)) ≡ d → lacked_over laws.cmp format laws.bytes_of is_there
          (page l c (node h k x r)) everywhere ≡ lacked_pages format laws.bytes_of is_there everywhere (page l c (node h k x r))
          → (is_there everywhere (page_digest format laws.bytes_of (page l c (node h k x r))) ≡ false) ⊎ (is_there everywhere (page_digest format laws.bytes_of (page l c (node h k x r))) ≡ true)
          → lacked_over laws.cmp format laws.bytes_of is_there (page l c (node h k x r)) everywhere ≤ lacked_of_tree format laws.bytes_of is_there (page l c (node h k x r))
      by is fills (inl not) = rw not (omega (arith, fills))
      by is fills (inr found) = absurd (lacks (tells.there everywhere d (ap (is_there everywhere) (sym is) ∙ found)))

  whole-same : (t u : Tree K (List ℕ)) → SamePages laws.cmp t u → lacked_of_tree format laws.bytes_of is_there t ≡ lacked_of_tree format laws.bytes_of is_there u
  whole-same (page l c (high x)) (page m e (high y)) q = refl
  whole-same (page l c (high x)) (page m e (node y j b s)) q = absurd q.2
  whole-same (page l c (node x k d r)) (page m e (high y)) q = absurd q.2
  whole-same (page l c (node x k d r)) (page m e (node y j b s)) q =
      held-same laws o local format (one_digest format) is_there tells everywhere everywhere (below (page l c (node x k d r))) (below (page m e (node y j b s))) (tt, tt) q

  root_pays : (digest : Option (List ℕ)) (before after : Found K V) → digest ≡ whole_digest (whole_item format laws.bytes_of tree) → IsRootTaken laws local digest before after
      → (pages_found after ≤ pages_found before + lacked_of_tree format laws.bytes_of is_there root) × (nodes_found after ≡ nodes_found before)
  root_pays None before after is e = (omega (arith, ap pages_found e), ap nodes_found e)
  root_pays (Some d) before after is (inl (own, e)) = (omega (arith, ap pages_found e), ap nodes_found e)
  root_pays (Some d) before after is (inr (lacks, inl e)) = (omega (arith, ap pages_found e), ap nodes_found e)
  root_pays (Some d) before after is (inr (lacks, inr e)) = (
    subst (λ f. pages_found f ≤ pages_found before + lacked_of_tree format laws.bytes_of is_there root) (sym e)
        (omega (
          arith,
          total-append over_root before.below (everywhere ∷ []),
          lacked_over-same laws o local format (one_digest format) is_there tells root tree everywhere everywhere sides.same (tt, tt),
          whole_lacked tree d (sym is) (up_tree laws o eqv encoding values tell n local peer root sides small) lacks,
          whole-same root tree sides.same,
        )),
    ap nodes_found e,
  )

  -- a reply is paid for
  reply_pays : (u : Underway K V) (question : Question K) (reply : List ℕ) (after : Found K V) (again : Option (Question K))
      → IsSteadyCatchUp laws (side peer) root u → SameQuestion laws.cmp encoding u.asked question
      → IsReply laws n encoding values peer.rows peer.tree question reply → (taken : HasTakenReply laws n encoding values local u.asked reply u.found after again)
      → (entries_taken laws n encoding values local outlines_kind u.asked reply u.found after again
      taken + (again_of (pages_by laws (side peer) root is_there) again + pages_found after) ≤ pages_by laws (side peer) root is_there u.asked + pages_found u.found)
      × (entries_taken laws n encoding values local nodes_kind u.asked reply u.found after again taken + (again_of (nodes_by laws (side peer) root is_there) again + nodes_found after)
      ≤ entries_taken laws n encoding values local outlines_kind u.asked reply u.found after again taken + (nodes_by laws (side peer) root is_there u.asked + nodes_found u.found))
  reply_pays u question reply after again s = by u.asked question s.asked
    where
      by : (asked question : Question K) → AsksForPages laws (side peer) root u.rounds asked → SameQuestion laws.cmp encoding asked question
          → IsReply laws n encoding values peer.rows peer.tree question reply → (taken : HasTakenReply laws n encoding values local asked reply u.found after again)
          → (entries_taken laws n encoding values local outlines_kind asked reply u.found after again
          taken + (again_of (pages_by laws (side peer) root is_there) again + pages_found after) ≤ pages_by laws (side peer) root is_there asked + pages_found u.found)
          × (entries_taken laws n encoding values local nodes_kind asked reply u.found after again taken + (again_of (nodes_by laws (side peer) root is_there) again + nodes_found after)
          ≤ entries_taken laws n encoding values local outlines_kind asked reply u.found after again taken + (nodes_by laws (side peer) root is_there asked + nodes_found u.found))
      by (Root a) (Root b) pages alike (settings, sent) (count, digest, read, taken, none) =
          let is = root_tells laws o eqv encoding values tell n local peer root sides small count (length peer.rows) digest (whole_digest (whole_item format laws.bytes_of tree)) (sym read ∙ sent) in
          let (p, q) = root_pays digest u.found after is taken in
          (omega (arith, p, ap (again_of (pages_by laws (side peer) root is_there)) none), omega (arith, q, ap (again_of (nodes_by laws (side peer) root is_there)) none))
      by (Outlines m gs) (Outlines m' hs) pages alike (told', answers, sent) (left, has, asks) =
          let lists = lists_alike laws o eqv encoding values tell n local peer root sides small true outlines_kind gs.items hs.items left reply u.found after told' alike answers sent has in
          let (told, read, some, are, lies, taken) = has in
          let about : OwnedGap K → ℕ = λ g. over_root (owned_gap g) in
          let Filled_at : OwnedGap K → Type 0 = λ g. Filled u.rounds (owned_gap g) in (
            omega (
              arith,
              ap (total about) are,
              total-append about (map (λ t. t.0) told) left,
              all_pay u.rounds told told' u.found after (each-before Filled_at (map (λ t. t.0) told) left (subst (AllByRecursion Filled_at) are pages)) lists answers.3 taken,
              again_weighs (pages_by laws (side peer) root is_there) (Outlines m) (total about) left again (λ xs. refl) asks,
            ),
            omega (arith, nodes_more told u.found after taken, again_weighs (nodes_by laws (side peer) root is_there) (Outlines m) (λ xs. 0) left again (λ xs. refl) asks),
          )
      by (Nodes m gs) (Nodes m' hs) pages alike (told', answers, sent) (left, has, asks) =
          let lists = lists_alike laws o eqv encoding values tell n local peer root sides small false nodes_kind gs.items hs.items left reply u.found after told' alike answers sent has in
          let (told, read, some, are, lies, taken) = has in
          let (p, q) = nodes_alone told told' u.found after lists answers.3 taken in (
            omega (arith, p, again_weighs (pages_by laws (side peer) root is_there) (Nodes m) (λ xs. 0) left again (λ xs. refl) asks),
            omega (
              arith,
              q,
              ap length are,
              length-append (map (λ t. t.0) told) left,
              length-map told (λ t. t.0),
              again_weighs (nodes_by laws (side peer) root is_there) (Nodes m) (λ xs. length xs) left again (λ xs. refl) asks,
            ),
          )
      by (RowsAt ws) (RowsAt xs) pages alike is (left, (told, read, some, are, any, taken), asks) = (
        omega (arith, ap pages_found taken, again_weighs (pages_by laws (side peer) root is_there) RowsAt (λ ys. 0) left again (λ ys. refl) asks),
        omega (arith, ap nodes_found taken, again_weighs (nodes_by laws (side peer) root is_there) RowsAt (λ ys. 0) left again (λ ys. refl) asks),
      )
      by (RowsIn gs) (RowsIn hs) pages alike is (left, (behind, rest, is_left, (told, read, some, are, up, (are_behind, taken))), asks) = (
        omega (arith, ap pages_found taken, again_weighs (pages_by laws (side peer) root is_there) RowsIn (λ ys. 0) left again (λ ys. refl) asks),
        omega (arith, ap nodes_found taken, again_weighs (nodes_by laws (side peer) root is_there) RowsIn (λ ys. 0) left again (λ ys. refl) asks),
      )
      by asked question pages alike is taken = absurd alike

  -- so is an exchange
  pub exchange_pays : (before : Underway K V) (question : Question K) (reply : List ℕ) (next : Next K V) → IsSteadyCatchUp laws (side peer) root before
      → SameQuestion laws.cmp encoding before.asked question
      → IsReply laws n encoding values peer.rows peer.tree question reply → (takes : IsNext laws n encoding values local before reply next)
      → PayFor laws (side peer) root is_there (entries_taken laws n encoding values local outlines_kind before.asked reply before.found takes.0 takes.1 takes.2)
      (entries_taken laws n encoding values local nodes_kind before.asked reply before.found takes.0 takes.1 takes.2) before next
  exchange_pays before question reply next s alike is (found, again, taken, goes) =
      let (p, q) = reply_pays before question reply found again s alike is taken in
      next_pays laws (side peer) root is_there encoding (entries_taken laws n encoding values local outlines_kind before.asked reply before.found found again taken)
      (entries_taken laws n encoding values local nodes_kind before.asked reply before.found found again taken) before again before.rounds found next p q goes
