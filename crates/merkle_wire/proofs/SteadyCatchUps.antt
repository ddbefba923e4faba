-- A catch-up with a peer that answers by its rows stays steady: each of its replies can be taken, and what comes next is steady.
use Rattle.std.specs.Prelude.{⊤}
use Rattle.std.proofs.Common.{◌≡◌, ◌≢◌, ℕ, ◌+◌, ◌<◌, ◌≤◌, Bool, true, false, List, [], ◌∷◌, ◌++◌, length, map, flat_map, Option, Some, None, refl, sym, ap, subst, ◌∙◌, inl, inr, arith, ◌⊎◌}
use Rattle.std.specs.Global.{Vec}
use Rattle.std.specs.List.{AllByRecursion, AllZip}
use Rattle.std.specs.Cmp.{IsTotalOrder, IsEquivalence, tied_itself}
use Rattle.key_order.specs.Map.{IsMap, get}
use Rattle.key_order.specs.Order.{Same}
use Rattle.key_order.proofs.ListParts.{each-append, each-before, each-behind, join_tells}
use Rattle.key_order.proofs.SameKeys.{SameKeys, same_keys-back}
use Rattle.key_order.proofs.SameMaps.{ascends, same_is_map}
use Rattle.merkle_bytes.specs.Options.{IsOption, option_bytes}
use Rattle.merkle_bytes.specs.Runs.{bound_key}
use Rattle.merkle_diff.proofs.Each.{each-all, each-with}
use Rattle.merkle_digest.specs.Level.{level_of}
use Rattle.merkle_replica.specs.Contents.{Contents, Side, side, tree_map}
use Rattle.merkle_replica.specs.Laws.{Laws}
use Rattle.merkle_replica.proofs.Bounds.{ascending_digests}
use Rattle.merkle_search_tree.proofs.SameItems.{same_gap-back}
use Rattle.merkle_tree_theory.specs.Canonical.{IsCanonicalRoot}
use Rattle.merkle_tree_theory.specs.Gap.{Gap, SameGap, everywhere}
use Rattle.merkle_tree_theory.specs.Lookup.{Fills}
use Rattle.merkle_tree_theory.specs.Outline.{Item, outline_over, whole_item}
use Rattle.merkle_tree_theory.specs.Page.{level, pairs}
use Rattle.merkle_tree_theory.specs.Tree.{Tree, page, high, node}
use Rattle.merkle_tree_theory.proofs.InGaps.{all_within}
use Rattle.merkle_tree_theory.proofs.PagesIn.{itself}
use Rattle.merkle_tree_theory.proofs.SameRanges.{same-pairs}
use Rattle.merkle_tree_theory.proofs.Sound.{level_low}
use Rattle.merkle_tree_theory.proofs.StreamParts.{digest_length}
use Rattle.merkle_wire.specs.Underway.{AsksForSome, Found, Underway}
use Rattle.merkle_wire.specs.Coming.{IsPageDigest, OutlinesCome}
use Rattle.merkle_wire.specs.Fit.{IsFit, IsOutlineIn, IsPartIn}
use Rattle.merkle_wire.specs.Gaps.{owned_gap}
use Rattle.merkle_wire.specs.Messages.{front}
use Rattle.merkle_wire.specs.Next.{HaveTwins, IsStopped}
use Rattle.merkle_wire.specs.Outlines.{Outline, rows_told, digests_told, page_told, IsTold, keys_among, nodes_among, outline_bytes, pages_beside}
use Rattle.merkle_wire.specs.Replies.{IsPartOf, IsReply, items_over, part_bytes, whole_digest, outline_over_bytes}
use Rattle.merkle_wire.specs.Sessions.{CanBeTold}
use Rattle.merkle_wire.specs.Taking.{AreNewGaps, AreTaken, IsRootTaken, IsPageTaken, value_row, AddsRows, PartsCome, ValuesCome, AsksAgain, HasTakenReply}
use Rattle.merkle_wire.specs.declared.gaps.OwnedGap.{OwnedGap}
use Rattle.merkle_wire.specs.declared.message.Kind.{Kind}
use Rattle.merkle_wire.specs.declared.message.Kind.TheVariants.{Outlines as outlines_kind, Nodes as nodes_kind, RowsAt as rows_at_kind, RowsIn as rows_in_kind}
use Rattle.merkle_wire.specs.declared.limits.Limits.{Limits}
use Rattle.merkle_wire.specs.declared.question.Question.{Question}
use Rattle.merkle_wire.specs.declared.question.Question.TheVariants.{Root, Outlines, Nodes, RowsAt, RowsIn}
use Rattle.merkle_wire.specs.declared.session_error.SessionError.{SessionError}
use Rattle.merkle_wire.specs.declared.session_error.SessionError.TheVariants.{Limit, Malformed, Memory, NoNode, NotInGap, NothingCame, OtherKind, Refused, TooManyRounds, Twice}
use Rattle.merkle_wire.specs.declared.wanted.Wanted.{Wanted}
use Rattle.merkle_wire.proofs.Exchanges.{Tell, root_tells, same_begin, sent_fits}
use Rattle.merkle_wire.proofs.FilledGaps.{IsBelow, fills-alike, fills-same, parts_filled, same_level}
use Rattle.merkle_wire.proofs.Fitting.{fits_read}
use Rattle.merkle_wire.proofs.PageCovers.{AreSides, nodes_peers}
use Rattle.merkle_wire.proofs.Sayable.{answers_say, outline_said, part_said, value_said}
use Rattle.merkle_wire.proofs.TakenGaps.{IsGapOrNone, nodes_or_none}
use Rattle.merkle_wire.proofs.TellingQuestions.{SameGapTold, SameQuestion, SameWanted}
use Rattle.merkle_wire.proofs.TellingReplies.{Fits, SameOutline, outlines_tell}
use Rattle.merkle_wire.proofs.Times.{total-append, total-permuted}
use Rattle.merkle_wire.proofs.TimesTaken.{outlines_times, parts_times, root_times, rows_added, times_about, values_times}
use Rattle.merkle_wire.proofs.AskedNext.{AreSteady, IsAgainFit, again_fit, times_again}
use Rattle.merkle_wire.proofs.Steady.{AsksForPages, IsFilled, IsSteadyCatchUp, times_asked, times_at, times_in, total}
use Rattle.merkle_wire.specs.declared.limits.Limit.{Limit as LimitOf}
use Rattle.merkle_wire.proofs.Continued.{TellsFirst}

-- memory ran out, or a limit was reached
abbrev pub IsMemoryOrLimit : SessionError → Type 0
IsMemoryOrLimit error = (error ≡ Memory) ⊎ ((limit : LimitOf) × (error ≡ Limit limit))

module _ {K V H : Type 0} (laws : Laws K V H) (o : IsTotalOrder laws.cmp) (eqv : IsEquivalence laws.eq) (encoding : K → List ℕ) (values : V → List ℕ) (tell : Tell laws encoding values) (n : ℕ)
    (local : Side K V H) (peer : Contents K V H) (root : Tree K (List ℕ)) (sides : AreSides laws local (side peer) root peer.tree.root)
    (small : AllByRecursion (λ p. length p.1 ≡ n) (tree_map laws (side peer))) where
  abbrev tree : Tree K (List ℕ)
  tree = peer.tree.root

  pub up_tree : IsMap laws.cmp (pairs tree)
  up_tree = ascends laws.cmp o (λ d e. d ≡ e) (pairs tree) (tree_map laws (side peer)) sides.is_tree.1 (ascending_digests laws.cmp o (laws.value_digest peer.tree.hasher) peer.rows sides.up_peer)

  pub up_root : IsMap laws.cmp (pairs root)
  up_root = same_is_map laws.cmp o (λ d e. d ≡ e) (pairs tree) (pairs root) (same-pairs laws.cmp tree root sides.back) up_tree

  abbrev Steady : ℕ → (K → ℕ) → Found K V → Type 0
  Steady = AreSteady laws (side peer) root encoding

  abbrev Filled : ℕ → ℕ → Gap K → Type 0
  Filled = IsFilled laws (side peer) root

  abbrev items : Gap K → List (Item K (List ℕ))
  items g = outline_over peer.tree.format laws.bytes_of laws.cmp tree g

  -- the pages below one that was told
  from_tree : (m r rounds : ℕ) (g : Gap K) → r + rounds < 257 → m ≡ r → IsBelow laws o local peer.tree.format tree m g → Filled 256 rounds g
  from_tree m r rounds g low e (v, f, less) =
      let (w, fills, same) = fills-same laws.cmp o g v tree root up_tree sides.back f in
      (w, fills, omega (arith, low, e, less, same_level laws.cmp o v w same))

  page_steady : (rounds : ℕ) (g h : Gap K) (keys : List K) (pages : List (Option (List ℕ))) (gaps : List (Gap K)) → Filled 257 rounds g → SameGap laws.cmp g h
      → SameKeys laws.cmp keys (keys_among (nodes_among (items h))) → pages ≡ pages_beside None (items h) → AreNewGaps laws local g keys pages gaps
      → AllByRecursion (Filled 256 rounds) gaps
  page_steady rounds g h keys pages gaps (t, f, low) s are beside new =
      let (u, fu, same) = fills-same laws.cmp o g t root tree up_root sides.same f in
      let below = parts_filled laws o local peer.tree.format tree up_tree (λ k. level_of (laws.key_digest peer.tree.hasher k) peer.tree.base) sides.is_tree.0 h g u keys
      gaps (fills-alike laws.cmp o g h u tree s fu) (same_gap-back laws.cmp o g h s)
      (same_keys-back laws.cmp o keys _ are) (subst (λ ps. AreNewGaps laws local g keys ps gaps) beside new) in
      each-with (IsBelow laws o local peer.tree.format tree (level u)) (Filled 256 rounds) gaps (λ x. from_tree (level u) (level t) rounds x low (sym (same_level laws.cmp o t u same))) below

  own_steady : (rounds : ℕ) (g : Gap K) (nodes : List (Gap K)) → Filled 257 rounds g → IsGapOrNone laws local g nodes → AllByRecursion (Filled 257 0) nodes
  own_steady rounds g [] filled one = tt
  own_steady rounds g (own ∷ []) (t, f, low) one = ((t, fills-alike laws.cmp o g own t root one f, omega (arith, low)), tt)
  own_steady rounds g (own ∷ other ∷ others) filled one = absurd one

  abbrev Pages : ℕ → Found K V → Type 0
  Pages rounds f = AllByRecursion (Filled 256 rounds) f.below × AllByRecursion (Filled 257 0) f.nodes

  one_pages : (with_pages : Bool) (rounds : ℕ) (g h : Gap K) (x y : Outline K V) (before after : Found K V) → (with_pages ≡ true → Filled 257 rounds g)
      → SameGap laws.cmp g h → SameOutline laws.cmp laws.eq x y
      → IsTold laws.cmp peer.rows with_pages (items h) y → IsPageTaken laws local g x before after → Pages rounds before → Pages rounds after
  one_pages with_pages rounds g h (rows_told rs) y before after filled s same told taken p = subst (Pages rounds) (sym taken) p
  one_pages with_pages rounds g h (digests_told ns) y before after filled s same told taken p = subst (Pages rounds) (sym taken) p
  one_pages with_pages rounds g h (page_told c js ps) (page_told d ks qs) before after filled s same (with, is, are, beside) (gaps, nodes, new, kept, taken) p =
      subst (Pages rounds) (sym taken) (
        each-append (Filled 256 rounds) before.below gaps p.0 (page_steady rounds g h js ps gaps (filled with) s (subst (SameKeys laws.cmp js) are same.1) (same.2 ∙ beside) new),
        each-append (Filled 257 0) before.nodes nodes p.1 (own_steady rounds g nodes (filled with) (nodes_or_none laws local g js c nodes kept)),
      )
  one_pages with_pages rounds g h (page_told c js ps) (rows_told ss) before after filled s same told taken p = absurd same
  one_pages with_pages rounds g h (page_told c js ps) (digests_told ms) before after filled s same told taken p = absurd same

  abbrev Told : Bool → OwnedGap K × Outline K V → Type 0
  Told with_pages u = IsTold laws.cmp peer.rows with_pages (items (owned_gap u.0)) u.1

  abbrev SameTold : OwnedGap K × Outline K V → OwnedGap K × Outline K V → Type 0
  SameTold t u = SameGapTold laws.cmp encoding t.0 u.0 × SameOutline laws.cmp laws.eq t.1 u.1

  all_pages : (with_pages : Bool) (rounds : ℕ) (ts us : List (OwnedGap K × Outline K V)) (before after : Found K V)
      → (with_pages ≡ true → AllByRecursion (λ g. Filled 257 rounds (owned_gap g)) (map (λ t. t.0) ts))
      → AllZip SameTold ts us → AllByRecursion (Told with_pages) us → AreTaken laws local ts before after → Pages rounds before → Pages rounds after
  all_pages with_pages rounds [] us before after filled s told taken p = subst (Pages rounds) (sym taken) p
  all_pages with_pages rounds (t ∷ ts) [] before after filled s told taken p = absurd s
  all_pages with_pages rounds (t ∷ ts) (u ∷ us) before after filled s told (mid, one, more) p =
      all_pages with_pages rounds ts us mid after (λ with. (filled with).1) s.1 told.1 more
      (one_pages with_pages rounds (owned_gap t.0) (owned_gap u.0) t.1 u.1 before mid (λ with. (filled with).0) s.0.0.0 s.0.1 told.0 one p)

  -- what is taken of a reply is steady with what is asked again
  pub record StaySteady (rounds : ℕ) (again : Option (Question K)) (after : Found K V) : Type 0 where
    pub fit : IsAgainFit laws (side peer) root encoding rounds again
    pub steady : Steady rounds (times_again laws (side peer) root encoding again) after

  outlines_stay : (with_pages : Bool) (kind : Kind) (ask : Vec (OwnedGap K) → Question K) (r rounds : ℕ) (gaps gaps' left : List (OwnedGap K)) (reply : List ℕ)
      (before after : Found K V) (again : Option (Question K)) (told' : List (OwnedGap K × Outline K V))
      → ((xs : Vec (OwnedGap K)) → xs.items ≢ [] → AsksForSome (ask xs))
      → ((xs : Vec (OwnedGap K)) → AllByRecursion (λ g. Filled 257 r (owned_gap g)) xs.items → AsksForPages laws (side peer) root rounds (ask xs))
      → ((k : K) (xs : Vec (OwnedGap K)) → times_asked laws (side peer) root k (ask xs) ≡ total (λ g. times_about laws o local (side peer) root tree sides.same n k with_pages (owned_gap g)) xs.items)
      → (with_pages ≡ true → r ≡ rounds) → AllByRecursion (λ g. Filled 257 r (owned_gap g)) gaps
      → Steady rounds (λ k. total (λ g. times_about laws o local (side peer) root tree sides.same n k with_pages (owned_gap g)) gaps) before
      → AllZip (SameGapTold laws.cmp encoding) gaps gaps' → TellsFirst (λ g. IsTold laws.cmp peer.rows with_pages (items_over laws.cmp laws.bytes_of peer.tree g)) gaps'
      told' → reply ≡ front kind ++ flat_map (outline_over_bytes encoding values) told'
      → OutlinesCome laws.cmp encoding values n kind (λ told. AreTaken laws local told before after) gaps reply left → AsksAgain ask left again → StaySteady rounds again after
  outlines_stay with_pages kind ask r rounds gaps gaps' left reply before after again told' some pages count same_rounds filled s same answers sent (told, read, any, are, lies, taken) asks =
      let bytes = (join_tells (front kind) (front kind) (flat_map (outline_over_bytes encoding values) told) (flat_map (outline_over_bytes encoding values) told') refl (sym read ∙ sent)).1 in
      let alike = outlines_tell laws.cmp laws.eq encoding values tell.keys tell.value (SameGapTold laws.cmp encoding) (λ g h e. e.1) n told told' left answers.0
      (same_begin laws o eqv encoding values tell n local peer root sides small
      (SameGapTold laws.cmp encoding) gaps gaps' told told' left answers.0 same are answers.1) (fits_read laws local n told before after lies taken)
      (sent_fits laws o eqv encoding values tell n local peer root sides small with_pages told' answers.3) bytes in
      let both = subst (AllByRecursion (λ g. Filled 257 r (owned_gap g))) are filled in
      let first = each-before (λ g. Filled 257 r (owned_gap g)) (map (λ t. t.0) told) left both in
      let after_pages = all_pages with_pages rounds told told' before after
      (λ with. subst (λ q. AllByRecursion (λ g. Filled 257 q (owned_gap g)) (map (λ t. t.0) told)) (same_rounds with) first) alike answers.3 taken (s.below, s.nodes) in
      let (fit, left_times) = again_fit laws (side peer) root encoding ask (λ g. Filled 257 r (owned_gap g))
      (λ k g. times_about laws o local (side peer) root tree sides.same n k with_pages (owned_gap g)) rounds left again some pages count asks
      (each-behind (λ g. Filled 257 r (owned_gap g)) (map (λ t. t.0) told) left both) in
      record {
        fit = fit;
        steady = record {
          below = after_pages.0;
          nodes = after_pages.1;
          once = λ k.
              let about : OwnedGap K → ℕ = λ g. times_about laws o local (side peer) root tree sides.same n k with_pages (owned_gap g) in
              omega (
                arith,
                s.once k,
                ap (total about) are,
                total-append about (map (λ t. t.0) told) left,
                left_times k,
                outlines_times laws o local (side peer) root tree sides.same n k (SameGapTold laws.cmp encoding) (λ g h e. e.0) with_pages told told' before after alike answers.3 lies taken,
              );
        };
      }

  values_stay : (rounds : ℕ) (keys left : List (Wanted K)) (reply : List ℕ) (before after : Found K V) (again : Option (Question K))
      → Steady rounds (λ k. total (λ w. times_at laws.cmp k w.key) keys) before
      → ValuesCome values (λ rows. AddsRows laws local rows before after) keys reply left → AsksAgain RowsAt left again → StaySteady rounds again after
  values_stay rounds keys left reply before after again s (told, read, any, are, each, taken) asks =
      let (fit, left_times) = again_fit laws (side peer) root encoding RowsAt (λ w. ⊤) (λ k w. times_at laws.cmp k w.key) rounds left again (λ xs e. e) (λ xs a. tt)
      (λ k xs. refl) asks (each-all (λ w. ⊤) left (λ w. tt)) in
      record {
        fit = fit;
        steady = record {
          below = subst (λ f. AllByRecursion (Filled 256 rounds) f.below) (sym taken) s.below;
          nodes = subst (λ f. AllByRecursion (Filled 257 0) f.nodes) (sym taken) s.nodes;
          once = λ k.
              let at : Wanted K → ℕ = λ w. times_at laws.cmp k w.key in
              omega (
                arith,
                s.once k,
                ap (total at) are,
                total-append at (map (λ t. t.0) told) left,
                left_times k,
                rows_added laws o local (side peer) root tree sides.same n k before after (flat_map value_row told) taken,
                values_times laws o local (side peer) root tree sides.same n k told,
              );
        };
      }

  parts_stay : (rounds : ℕ) (gaps left : List (OwnedGap K)) (reply : List ℕ) (before after : Found K V) (again : Option (Question K))
      → Steady rounds (λ k. total (λ g. times_in laws.cmp k (owned_gap g)) gaps) before
      → PartsCome laws.cmp encoding values (λ rows. AddsRows laws local rows before after) gaps reply left → AsksAgain RowsIn left again → StaySteady rounds again after
  parts_stay rounds gaps left reply before after again s (behind, rest, is_left, (told, read, any, are, up, (are_behind, taken))) asks =
      let (fit, left_times) = again_fit laws (side peer) root encoding RowsIn (λ g. ⊤) (λ k g. times_in laws.cmp k (owned_gap g)) rounds left again (λ xs e. e)
      (λ xs a. tt) (λ k xs. refl) asks (each-all (λ g. ⊤) left (λ g. tt)) in
      record {
        fit = fit;
        steady = record {
          below = subst (λ f. AllByRecursion (Filled 256 rounds) f.below) (sym taken) s.below;
          nodes = subst (λ f. AllByRecursion (Filled 257 0) f.nodes) (sym taken) s.nodes;
          once = λ k.
              let inside : OwnedGap K → ℕ = λ g. times_in laws.cmp k (owned_gap g) in
              omega (
                arith,
                s.once k,
                ap (total inside) are,
                total-append inside (map (λ t. t.0) told) rest,
                left_times k,
                ap (total inside) is_left,
                total-append inside behind rest,
                rows_added laws o local (side peer) root tree sides.same n k before after (flat_map (λ t. t.1.rows) told) taken,
                parts_times laws o local (side peer) root tree sides.same n k told behind up are_behind,
              );
        };
      }

  -- the root page fills the gap of all keys
  root_filled : (t : Tree K (List ℕ)) (digest : List ℕ) → IsCanonicalRoot (λ k. level_of (laws.key_digest peer.tree.hasher k) peer.tree.base) t
      → whole_digest (whole_item peer.tree.format laws.bytes_of t) ≡ Some digest
      → Fills laws.cmp everywhere t t × (level t < 256)
  root_filled (page l c (high h)) digest canonical e = absurd (cc)
  root_filled (page l c (node h k d r)) digest canonical e =
      let t : Tree K (List ℕ) = page l c (node h k d r) in
      (record { inside = itself t; some = tt; all = all_within laws.cmp (pairs t) }, omega (arith, canonical.1, level_low (laws.key_digest peer.tree.hasher k) peer.tree.base))

  everywhere_filled : (digest : List ℕ) → whole_digest (whole_item peer.tree.format laws.bytes_of tree) ≡ Some digest → Filled 256 0 everywhere
  everywhere_filled digest e =
      let (f, low) = root_filled tree digest sides.is_tree.0 e in
      let (w, fills, same) = fills-same laws.cmp o everywhere tree tree root up_tree sides.back f in
      (w, fills, omega (arith, low, same_level laws.cmp o tree w same))

  root_stays : (rounds : ℕ) (digest : Option (List ℕ)) (before after : Found K V) → rounds ≡ 0 → Steady rounds (λ k. 1) before
      → digest ≡ whole_digest (whole_item peer.tree.format laws.bytes_of tree) → IsRootTaken laws local digest before after
      → Steady rounds (λ k. 0) after
  root_stays rounds digest before after zero s is taken = record {
    below = by digest is taken;
    nodes = keeps digest taken;
    once = λ k. omega (arith, s.once k, root_times laws o local (side peer) root tree sides.same n k digest before after taken);
  }
    where
      by : (d : Option (List ℕ)) → d ≡ whole_digest (whole_item peer.tree.format laws.bytes_of tree) → IsRootTaken laws local d before after → AllByRecursion (Filled 256 rounds) after.below
      by None e t = subst (λ f. AllByRecursion (Filled 256 rounds) f.below) (sym t) s.below
      by (Some d) e (inl (own, t)) = subst (λ f. AllByRecursion (Filled 256 rounds) f.below) (sym t) s.below
      by (Some d) e (inr (lacks, inl t)) = subst (λ f. AllByRecursion (Filled 256 rounds) f.below) (sym t) s.below
      by (Some d) e (inr (lacks, inr t)) =
          subst (λ f. AllByRecursion (Filled 256 rounds) f.below) (sym t)
          (each-append (Filled 256 rounds) before.below (everywhere ∷ []) s.below (subst (λ r. Filled 256 r everywhere) (sym zero) (everywhere_filled d (sym e)), tt))

      keeps : (d : Option (List ℕ)) → IsRootTaken laws local d before after → AllByRecursion (Filled 257 0) after.nodes
      keeps None t = subst (λ f. AllByRecursion (Filled 257 0) f.nodes) (sym t) s.nodes
      keeps (Some d) (inl (own, t)) = subst (λ f. AllByRecursion (Filled 257 0) f.nodes) (sym t) s.nodes
      keeps (Some d) (inr (lacks, inl t)) = subst (λ f. AllByRecursion (Filled 257 0) f.nodes) (sym t) s.nodes
      keeps (Some d) (inr (lacks, inr t)) = subst (λ f. AllByRecursion (Filled 257 0) f.nodes) (sym t) s.nodes

  pub stay : (asked question : Question K) (rounds : ℕ) (limits : Limits) (reply : List ℕ) (before after : Found K V)
      (again : Option (Question K)) → IsSteadyCatchUp laws (side peer) root (record { asked = asked; found = before; rounds = rounds; left = limits })
      → SameQuestion laws.cmp encoding asked question → IsReply laws n encoding values peer.rows peer.tree question reply
      → HasTakenReply laws n encoding values local asked reply before after again → StaySteady rounds again after
  stay (Root a) (Root b) rounds limits reply before after again s same (settings, sent) (count, digest, read, taken, none) =
      let is = root_tells laws o eqv encoding values tell n local peer root sides small count (length peer.rows) digest
      (whole_digest (whole_item peer.tree.format laws.bytes_of tree)) (sym read ∙ sent) in
      subst (λ x. StaySteady rounds x after) (sym none)
      (record { fit = tt; steady = root_stays rounds digest before after s.asked (record { below = s.below; nodes = s.nodes; once = s.once }) is taken })
  stay (Outlines m gs) (Outlines m' hs) rounds limits reply before after again s same (told', answers, sent) (left, has, asks) =
      outlines_stay true outlines_kind (Outlines m) rounds rounds gs.items hs.items left reply before after again told' (λ xs e. (e, s.some.1)) (λ xs a. a) (λ k xs. refl) (λ with. refl) s.asked
      (record { below = s.below; nodes = s.nodes; once = s.once }) same answers sent has asks
  stay (Nodes m gs) (Nodes m' hs) rounds limits reply before after again s same (told', answers, sent) (left, has, asks) =
      outlines_stay false nodes_kind (Nodes m) 0 rounds gs.items hs.items left reply before after again told' (λ xs e. (e, s.some.1)) (λ xs a. a) (λ k xs. refl)
      (λ with. let never : false ≡ true = with in absurd (cc)) s.asked
      (record { below = s.below; nodes = s.nodes; once = s.once }) same answers sent has asks
  stay (RowsAt ws) (RowsAt xs) rounds limits reply before after again s same (told', answers, sent) (left, has, asks) =
      values_stay rounds ws.items left reply before after again (record { below = s.below; nodes = s.nodes; once = s.once }) has asks
  stay (RowsIn gs) (RowsIn hs) rounds limits reply before after again s same (told', answers, sent) (left, has, asks) =
      parts_stay rounds gs.items left reply before after again (record { below = s.below; nodes = s.nodes; once = s.once }) has asks
  stay asked question rounds limits reply before after again s same is taken = absurd same

  -- the reply can be taken
  module _ (is_key : K → Type 0) (is_value : V → Type 0) (told : CanBeTold laws is_key is_value (side peer)) where
    abbrev InTree : OwnedGap K → Type 0
    InTree g = (u : Tree K (List ℕ)) × Fills laws.cmp (owned_gap g) u tree

    in_tree : (m rounds : ℕ) (g : OwnedGap K) → Filled m rounds (owned_gap g) → InTree g
    in_tree m rounds g (t, f, low) = let (u, fu, same) = fills-same laws.cmp o (owned_gap g) t root tree up_root sides.same f in (u, fu)

    outline_fits : (with_pages : Bool) (h : OwnedGap K) (x : Outline K V) → Told with_pages (h, x) → Fits n x
    outline_fits with_pages h x t = (sent_fits laws o eqv encoding values tell n local peer root sides small with_pages ((h, x) ∷ []) (t, tt)).0

    says : (with_pages : Bool) (g h : OwnedGap K) (x : Outline K V) → SameGapTold laws.cmp encoding g h → InTree g → Told with_pages (h, x)
        → IsOutlineIn laws.cmp is_key is_value n with_pages (owned_gap g) x
    says with_pages g h x same (u, f) t =
        outline_said laws o is_key is_value (side peer) told n tree up_tree (nodes_peers laws o eqv local (side peer) root tree sides) with_pages (owned_gap g)
        (owned_gap h) u x (same_gap-back laws.cmp o (owned_gap g) (owned_gap h) same.0)
        (fills-alike laws.cmp o (owned_gap g) (owned_gap h) u tree same.0 f) t (outline_fits with_pages h x t)

    whole_page : (t : Tree K (List ℕ)) → IsPageDigest (whole_digest (whole_item peer.tree.format laws.bytes_of t))
    whole_page (page l c (high h)) = tt
    whole_page (page l c (node h k d r)) = digest_length peer.tree.format laws.bytes_of (page l c (node h k d r))

    pub can_be_taken : (asked question : Question K) (rounds : ℕ) (reply : List ℕ) → AsksForSome asked
        → AsksForPages laws (side peer) root rounds asked → SameQuestion laws.cmp encoding asked question
        → IsReply laws n encoding values peer.rows peer.tree question reply → IsFit laws.cmp is_key is_value encoding values n asked reply
    can_be_taken (Root a) (Root b) rounds reply some pages same (settings, sent) =
        (length peer.rows, whole_digest (whole_item peer.tree.format laws.bytes_of tree), told.few, whole_page tree, sent)
    can_be_taken (Outlines m gs) (Outlines m' hs) rounds reply some pages same (told', answers, sent) =
        answers_say (SameGapTold laws.cmp encoding) (λ t. outline_bytes encoding values (bound_key encoding [] t.0.after) t.1) (λ t u e i. outline_bytes encoding values (e.0.1 i) (e.1 i)) InTree
        (λ g. IsOutlineIn laws.cmp is_key is_value n true (owned_gap g)) (λ h x. Told true (h, x)) (λ g h x. says true g h x) outlines_kind reply gs.items hs.items told' same some.0
        (each-with (λ g. Filled 257 rounds (owned_gap g)) InTree gs.items (λ g. in_tree 257 rounds g) pages) answers sent
    can_be_taken (Nodes m gs) (Nodes m' hs) rounds reply some pages same (told', answers, sent) =
        answers_say (SameGapTold laws.cmp encoding) (λ t. outline_bytes encoding values (bound_key encoding [] t.0.after) t.1) (λ t u e i. outline_bytes encoding values (e.0.1 i) (e.1 i)) InTree
        (λ g. IsOutlineIn laws.cmp is_key is_value n false (owned_gap g)) (λ h x. Told false (h, x)) (λ g h x. says false g h x) nodes_kind reply gs.items hs.items told' same some.0
        (each-with (λ g. Filled 257 0 (owned_gap g)) InTree gs.items (λ g. in_tree 257 0 g) pages) answers sent
    can_be_taken (RowsAt ws) (RowsAt xs) rounds reply some pages same (told', answers, sent) =
        answers_say (SameWanted laws.cmp encoding) (λ t. option_bytes values t.1) (λ t u e. ap (option_bytes values) e.1) (λ w. ⊤)
        (λ w. IsOption is_value) (λ w value. value ≡ get laws.cmp peer.rows w.key)
        (λ w x value e f is. value_said laws o is_key is_value (side peer) told x value is) rows_at_kind reply ws.items xs.items told' same some
        (each-all (λ w. ⊤) ws.items (λ w. tt)) answers sent
    can_be_taken (RowsIn gs) (RowsIn hs) rounds reply some pages same (told', answers, sent) =
        answers_say (SameGapTold laws.cmp encoding) (λ t. part_bytes encoding values (bound_key encoding [] t.0.after) t.1) (λ t u e i. part_bytes encoding values (e.0.1 i) (e.1 i)) (λ g. ⊤)
        (λ g. IsPartIn laws.cmp is_key is_value (owned_gap g)) (IsPartOf laws.cmp peer.rows)
        (λ g h part e f is. part_said laws o is_key is_value (side peer) told (owned_gap g) h part sides.up_peer
        (same_gap-back laws.cmp o (owned_gap g) (owned_gap h) e.0) is) rows_in_kind reply gs.items hs.items told' same some
        (each-all (λ g. ⊤) gs.items (λ g. tt)) answers sent
    can_be_taken asked question rounds reply some pages same is = absurd same

    -- of rows with twins a key is found twice
    twins_twice : (rows : List (K × V)) (k : K) → HaveTwins laws.cmp rows → (j : K) × (2 ≤ total (λ r. times_at laws.cmp j r.0) rows)
    twins_twice rows k (first, next, others, all, same) =
        (first.0, omega (arith, total-permuted (λ r. times_at laws.cmp first.0 r.0) rows (first ∷ next ∷ others) all, once first.0 first.0 (tied_itself o first.0), once first.0 next.0 same))
      where
        once : (i j : K) → Same laws.cmp i j → times_at laws.cmp i j ≡ 1
        once i j e = rw e refl

    no_more_rounds : (rounds : ℕ) (gaps : List (Gap K)) → rounds ≡ 256 → gaps ≢ [] → AllByRecursion (Filled 256 rounds) gaps → ⊥
    no_more_rounds rounds [] many some a = some refl
    no_more_rounds rounds (g ∷ gaps) many some ((t, f, low), a) = absurd (omega (arith, many, low))

    -- so it fails only when out of memory or at a limit
    pub memory_alone : (before : Underway K V) (question : Question K) (reply : List ℕ) (error : SessionError)
        → IsSteadyCatchUp laws (side peer) root before → SameQuestion laws.cmp encoding before.asked question
        → IsReply laws n encoding values peer.rows peer.tree question reply
        → IsStopped laws n encoding values is_key is_value local before reply error → IsMemoryOrLimit error
    memory_alone before question reply error s same is = by error
      where
        fit : IsFit laws.cmp is_key is_value encoding values n before.asked reply
        fit = can_be_taken before.asked question before.rounds reply s.some s.asked same is

        twice : (found : Found K V) → HasTakenReply laws n encoding values local before.asked reply before.found found None → HaveTwins laws.cmp found.rows → ⊥
        twice found taken twins =
            let (k, many) = twins_twice found.rows twins.0.0 twins in
            absurd (omega (arith, many, (stay before.asked question before.rounds before.left reply before.found found None s same is taken).steady.once k))

        by : (e : SessionError) → IsStopped laws n encoding values is_key is_value local before reply e → IsMemoryOrLimit e
        by Memory stopped = inl refl
        by (Limit limit) stopped = inr (limit, refl)
        by TooManyRounds (many, found, taken, some) =
            absurd (no_more_rounds before.rounds found.below many some (stay before.asked question before.rounds before.left reply before.found found None s same is taken).steady.below)
        by Twice (found, taken, done, twins) = absurd (twice found taken twins)
        by (Malformed e) stopped = absurd (stopped fit)
        by OtherKind stopped = absurd (stopped fit)
        by Refused stopped = absurd (stopped fit)
        by NothingCame stopped = absurd (stopped fit)
        by NotInGap stopped = absurd (stopped fit)
        by NoNode stopped = absurd (stopped fit)
