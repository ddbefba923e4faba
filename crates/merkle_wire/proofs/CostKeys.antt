-- What a reply of an honest peer costs at keys: it tells values at keys that the side lacks, or has with another digest, and at none of them twice.
use Rattle.std.specs.Prelude.{⊤, not}
use Rattle.std.proofs.Common.{◌≡◌, ℕ, ◌+◌, ◌≤◌, Bool, true, false, List, [], ◌∷◌, length, map, Option, Some, None, refl, sym, ap, subst, ◌∙◌, ◌⊎◌, inl, inr, arith}
use Rattle.std.proofs.lemmas.List.{length-map}
use Rattle.std.specs.Global.{Vec}
use Rattle.std.specs.List.{AllByRecursion, AllZip, filter}
use Rattle.std.specs.Cmp.{IsTotalOrder, IsEquivalence, tied_back}
use Rattle.std.specs.Ordering.{is_eq}
use Rattle.key_order.specs.Map.{get}
use Rattle.key_order.specs.Order.{AnyByRecursion, Same}
use Rattle.key_order.proofs.Bools.{is_equal, which}
use Rattle.key_order.proofs.ListParts.{each-append, each-before, each-behind}
use Rattle.key_order.proofs.Maps.{at_head, get_same, past_head}
use Rattle.merkle_diff.proofs.Each.{each-both, each-mapped, each-unmapped}
use Rattle.merkle_replica.specs.Contents.{Contents, Side, side, tree_map}
use Rattle.merkle_replica.specs.Laws.{Laws}
use Rattle.merkle_tree_theory.specs.Tree.{Tree}
use Rattle.merkle_wire.specs.Underway.{IsTakenFrom, Found, Underway}
use Rattle.merkle_wire.specs.Gaps.{owned_gap}
use Rattle.merkle_wire.specs.Next.{AsksOrGoesOn, IsNext}
use Rattle.merkle_wire.specs.Outlines.{Outline, rows_told, digests_told, page_told, IsTold}
use Rattle.merkle_wire.specs.Replies.{IsReply, items_over}
use Rattle.merkle_wire.specs.Taking.{AreTaken, IsRootTaken, IsPageTaken, has_digest, is_digest, new_keys, AsksAgain, HasTakenReply}
use Rattle.merkle_wire.specs.declared.catching_up.Next.{Next}
use Rattle.merkle_wire.specs.declared.catching_up.Next.TheVariants.{Ask, Came}
use Rattle.merkle_wire.specs.declared.gaps.OwnedGap.{OwnedGap}
use Rattle.merkle_wire.specs.declared.message.Kind.TheVariants.{Outlines as outlines_kind, Nodes as nodes_kind, RowsAt as rows_at_kind}
use Rattle.merkle_wire.specs.declared.question.Question.{Question}
use Rattle.merkle_wire.specs.declared.question.Question.TheVariants.{Root, Outlines, Nodes, RowsAt, RowsIn}
use Rattle.merkle_wire.specs.declared.wanted.Wanted.{Wanted}
use Rattle.merkle_wire.proofs.AskedFor.{taken_asked}
use Rattle.merkle_wire.proofs.Costs.{again_of, again_weighs}
use Rattle.merkle_wire.proofs.Exchanges.{Tell}
use Rattle.merkle_wire.proofs.PageCovers.{AreSides, nodes_peers, same_nodes}
use Rattle.merkle_wire.proofs.RoundCovers.{all-filter, each-filter}
use Rattle.merkle_wire.proofs.SessionEnds.{lists_alike}
use Rattle.merkle_wire.proofs.TellingQuestions.{SameGapTold, SameQuestion}
use Rattle.merkle_wire.proofs.TellingReplies.{SameOutline}
use Rattle.merkle_wire.proofs.Times.{total-append, total-less, total-mapped, total-plus}
use Rattle.merkle_wire.proofs.TimesTaken.{outlines_times, parts_times, root_times}
use Rattle.merkle_wire.proofs.Steady.{times_asked, times_at, times_in, times_over, total}
use Rattle.merkle_wire.specs.SessionLaws.{entries_taken}
use Rattle.merkle_wire.proofs.Lacking.{all_whole}

-- the keys at which a reply told values
module _ {K V H : Type 0} (laws : Laws K V H) (peer : Side K V H) (root : Tree K (List ℕ)) (k : K) where
  -- how often a key can still be told: it is in gaps of pages, a node of one, wanted, or in a gap of which all rows are
  abbrev pub left_at : Found K V → ℕ
  left_at f =
      total (times_in laws.cmp k) f.below + (total (times_over laws peer root k) f.nodes + (total (times_at laws.cmp k) f.wanted + total (times_in laws.cmp k) f.whole))

  abbrev pub asked_at : Question K → ℕ
  asked_at = times_asked laws peer root k

  taken_at : (question : Question K) (f after : Found K V) → IsTakenFrom question f after → asked_at question + left_at after ≤ left_at f
  taken_at (Root settings) f after t = absurd t
  taken_at (Outlines most gaps) f after (is, e) =
      subst (λ x. asked_at (Outlines most gaps) + left_at x ≤ left_at f) (sym e) (omega (arith, ap (total (times_in laws.cmp k)) is, total-mapped (times_in laws.cmp k) owned_gap gaps.items))
  taken_at (Nodes most gaps) f after (is, e) =
      subst (λ x. asked_at (Nodes most gaps) + left_at x ≤ left_at f) (sym e)
      (omega (arith, ap (total (times_over laws peer root k)) is, total-mapped (times_over laws peer root k) owned_gap gaps.items))
  taken_at (RowsAt keys) f after (is, e) =
      subst (λ x. asked_at (RowsAt keys) + left_at x ≤ left_at f) (sym e) (omega (arith, ap (total (times_at laws.cmp k)) is, total-mapped (times_at laws.cmp k) (λ w. w.key) keys.items))
  taken_at (RowsIn gaps) f after (is, e) =
      subst (λ x. asked_at (RowsIn gaps) + left_at x ≤ left_at f) (sym e) (omega (arith, ap (total (times_in laws.cmp k)) is, total-mapped (times_in laws.cmp k) owned_gap gaps.items))

  -- what is asked next
  pub next_at : (encoding : K → List ℕ) (again : Option (Question K)) (rounds : ℕ) (f : Found K V) (session : Underway K V) (message : Vec ℕ)
      → AsksOrGoesOn laws.cmp encoding again rounds f (Ask session message)
      → asked_at session.asked + left_at session.found ≤ again_of asked_at again + left_at f
  next_at encoding None rounds f session message (asked, is, more) = by asked.1
    where
      by : IsTakenFrom session.asked f session.found ⊎ IsTakenFrom session.asked (all_whole f) session.found → asked_at session.asked + left_at session.found ≤ 0 + left_at f
      by (inl t) = omega (arith, taken_at session.asked f session.found t)
      by (inr t) = omega (arith, taken_at session.asked (all_whole f) session.found t, total-append (times_in laws.cmp k) f.whole f.below)
  next_at encoding (Some question) rounds f session message (is, e) = omega (arith, ap (λ s. asked_at s.asked) e, ap (λ s. left_at s.found) e)

module _ {K V H : Type 0} (laws : Laws K V H) (local peer : Side K V H) where
  -- the keys of the peer that the side lacks, or has with another digest
  abbrev pub lacked : List (K × List ℕ)
  lacked = filter (λ p. not (has_digest laws local p.0 p.1)) (tree_map laws peer)

  abbrev pub IsLackedKey : K → Type 0
  IsLackedKey k = AnyByRecursion (λ p. Same laws.cmp k p.0) lacked

  -- only such keys are wanted, and asked for
  abbrev pub Wants : Found K V → Type 0
  Wants f = AllByRecursion IsLackedKey f.wanted

  abbrev pub AsksLacked : Question K → Type 0
  AsksLacked (Root settings) = ⊤
  AsksLacked (Outlines most gaps) = ⊤
  AsksLacked (Nodes most gaps) = ⊤
  AsksLacked (RowsAt keys) = AllByRecursion (λ w. IsLackedKey w.key) keys.items
  AsksLacked (RowsIn gaps) = ⊤

  abbrev pub AsksLackedAgain : Option (Question K) → Type 0
  AsksLackedAgain None = ⊤
  AsksLackedAgain (Some question) = AsksLacked question

  -- how often they can still be told
  abbrev pub keys_left : Tree K (List ℕ) → Underway K V → ℕ
  keys_left root u = total (λ p. asked_at laws peer root p.0 u.asked + left_at laws peer root p.0 u.found) lacked

  -- where values at this many keys were told in a reply, what comes next leaves that many fewer
  abbrev pub PayForKeys : Tree K (List ℕ) → ℕ → Underway K V → Next K V → Type 0
  PayForKeys root keys before (Ask session message) = (keys + keys_left root session ≤ keys_left root before) × Wants session.found × AsksLacked session.asked
  PayForKeys root keys before (Came rows) = keys ≤ keys_left root before

  taken_lacked : (question : Question K) (f after : Found K V) → Wants f → IsTakenFrom question f after → Wants after × AsksLacked question
  taken_lacked (Root settings) f after a t = absurd t
  taken_lacked (Outlines most gaps) f after a (is, e) = (subst Wants (sym e) a, tt)
  taken_lacked (Nodes most gaps) f after a (is, e) = (subst Wants (sym e) a, tt)
  taken_lacked (RowsAt keys) f after a (is, e) = (subst Wants (sym e) tt, each-unmapped (λ w. w.key) IsLackedKey keys.items (subst (AllByRecursion IsLackedKey) is a))
  taken_lacked (RowsIn gaps) f after a (is, e) = (subst Wants (sym e) a, tt)

  next_lacked : (encoding : K → List ℕ) (again : Option (Question K)) (rounds : ℕ) (f : Found K V) (session : Underway K V) (message : Vec ℕ) → Wants f → AsksLackedAgain again
      → AsksOrGoesOn laws.cmp encoding again rounds f (Ask session message) → Wants session.found × AsksLacked session.asked
  next_lacked encoding None rounds f session message a b (asked, is, more) = by asked.1
    where
      by : IsTakenFrom session.asked f session.found ⊎ IsTakenFrom session.asked (all_whole f) session.found → Wants session.found × AsksLacked session.asked
      by (inl t) = taken_lacked session.asked f session.found a t
      by (inr t) = taken_lacked session.asked (all_whole f) session.found a t
  next_lacked encoding (Some question) rounds f session message a b (is, e) = subst (λ u. Wants u.found × AsksLacked u.asked) (sym e) (a, b)

  -- each key that is missing is one of them
  one_at : (k : K) (o : IsTotalOrder laws.cmp) (ps : List (K × List ℕ)) → AnyByRecursion (λ p. Same laws.cmp k p.0) ps → 1 ≤ total (λ p. times_at laws.cmp p.0 k) ps
  one_at k o [] a = absurd a
  one_at k o (p ∷ ps) (inl s) = let e : times_at laws.cmp p.0 k ≡ 1 = rw (tied_back o k p.0 s) refl in omega (arith, e)
  one_at k o (p ∷ ps) (inr a) = omega (arith, one_at k o ps a)

  keys_at : (o : IsTotalOrder laws.cmp) (ws : List (Wanted K)) → AllByRecursion (λ w. IsLackedKey w.key) ws → length ws ≤ total (λ p. total (λ w. times_at laws.cmp p.0 w.key) ws) lacked
  keys_at o [] a = omega arith
  keys_at o (w ∷ ws) (i, a) =
      omega (arith, one_at w.key o lacked i, keys_at o ws a, total-plus (λ (p : K × List ℕ). times_at laws.cmp p.0 w.key) (λ p. total (λ x. times_at laws.cmp p.0 x.key) ws) lacked)

module _ {K V H : Type 0} (laws : Laws K V H) (n : ℕ) (encoding : K → List ℕ) (values : V → List ℕ) (local : Side K V H) where
  -- how often a reply told the value at a key
  abbrev pub told_at : (k : K) (asked : Question K) (reply : List ℕ) (before after : Found K V) (again : Option (Question K))
      → HasTakenReply laws n encoding values local asked reply before after again → ℕ
  told_at k (Root settings) reply before after again taken = 0
  told_at k (Outlines most gaps) reply before after again taken = 0
  told_at k (Nodes most gaps) reply before after again taken = 0
  told_at k (RowsAt keys) reply before after again (left, has, asks) = total (λ w. times_at laws.cmp k w.key) (map (λ t. t.0) has.0)
  told_at k (RowsIn gaps) reply before after again taken = 0

module _ {K V H : Type 0} (laws : Laws K V H) (o : IsTotalOrder laws.cmp) (eqv : IsEquivalence laws.eq) (encoding : K → List ℕ) (values : V → List ℕ) (tell : Tell laws encoding values) (n : ℕ)
    (local : Side K V H) (peer : Contents K V H) (root : Tree K (List ℕ)) (sides : AreSides laws local (side peer) root peer.tree.root)
    (small : AllByRecursion (λ p. length p.1 ≡ n) (tree_map laws (side peer))) where
  -- rows that were found stay
  rows_more : (asked : Question K) (reply : List ℕ) (before after : Found K V) (again : Option (Question K)) (k : K) → HasTakenReply laws n encoding values local asked reply before after again
      → total (λ r. times_at laws.cmp k r.0) before.rows ≤ total (λ r. times_at laws.cmp k r.0) after.rows
  rows_more asked reply before after again k taken =
      let (new, each, is) = taken_asked laws o local n encoding values asked reply before after again taken in
      omega (arith, ap (total (λ r. times_at laws.cmp k r.0)) is, total-append (λ (r : K × V). times_at laws.cmp k r.0) before.rows new)

  -- a key that was told is told no more
  pub reply_at : (k : K) (asked question : Question K) (reply : List ℕ) (before after : Found K V) (again : Option (Question K))
      → SameQuestion laws.cmp encoding asked question
      → IsReply laws n encoding values peer.rows peer.tree question reply → (taken : HasTakenReply laws n encoding values local asked reply before after again)
      → told_at laws n encoding values local k asked reply before after again
      taken + (again_of (asked_at laws (side peer) root k) again + left_at laws (side peer) root k after) ≤ asked_at laws (side peer) root k asked + left_at laws (side peer) root k before
  reply_at k (Root a) (Root b) reply before after again alike is (count, digest, read, taken, none) =
      omega (
        arith,
        root_times laws o local (side peer) root peer.tree.root sides.same n k digest before after taken,
        rows_more (Root a) reply before after again k (count, digest, read, taken, none),
        ap (again_of (asked_at laws (side peer) root k)) none,
      )
  reply_at k (Outlines m gs) (Outlines m' hs) reply before after again alike (told', answers, sent) (left, has, asks) =
      let lists = lists_alike laws o eqv encoding values tell n local peer root sides small true outlines_kind gs.items hs.items left reply before after told' alike answers sent has in
      let (told, read, some, are, lies, taken) = has in
      let inside : OwnedGap K → ℕ = λ g. times_in laws.cmp k (owned_gap g) in
      omega (
        arith,
        outlines_times laws o local (side peer) root peer.tree.root sides.same n k (SameGapTold laws.cmp encoding) (λ g h s. s.0) true told told' before after lists answers.3 lies taken,
        rows_more (Outlines m gs) reply before after again k (left, has, asks),
        ap (total inside) are,
        total-append inside (map (λ t. t.0) told) left,
        again_weighs (asked_at laws (side peer) root k) (Outlines m) (total inside) left again (λ xs. refl) asks,
      )
  reply_at k (Nodes m gs) (Nodes m' hs) reply before after again alike (told', answers, sent) (left, has, asks) =
      let lists = lists_alike laws o eqv encoding values tell n local peer root sides small false nodes_kind gs.items hs.items left reply before after told' alike answers sent has in
      let (told, read, some, are, lies, taken) = has in
      let about : OwnedGap K → ℕ = λ g. times_over laws (side peer) root k (owned_gap g) in
      omega (
        arith,
        outlines_times laws o local (side peer) root peer.tree.root sides.same n k (SameGapTold laws.cmp encoding) (λ g h s. s.0) false told told' before after lists answers.3 lies taken,
        rows_more (Nodes m gs) reply before after again k (left, has, asks),
        ap (total about) are,
        total-append about (map (λ t. t.0) told) left,
        again_weighs (asked_at laws (side peer) root k) (Nodes m) (total about) left again (λ xs. refl) asks,
      )
  reply_at k (RowsAt ws) (RowsAt xs) reply before after again alike is (left, (told, read, some, are, any, taken), asks) =
      let at : Wanted K → ℕ = λ w. times_at laws.cmp k w.key in
      omega (
        arith,
        ap (left_at laws (side peer) root k) taken,
        ap (total at) are,
        total-append at (map (λ t. t.0) told) left,
        again_weighs (asked_at laws (side peer) root k) RowsAt (total at) left again (λ ys. refl) asks,
      )
  reply_at k (RowsIn gs) (RowsIn hs) reply before after again alike is (left, (behind, rest, is_left, (told, read, some, are, up, (are_behind, taken))), asks) =
      let inside : OwnedGap K → ℕ = λ g. times_in laws.cmp k (owned_gap g) in
      omega (
        arith,
        ap (left_at laws (side peer) root k) taken,
        ap (total inside) are,
        total-append inside (map (λ t. t.0) told) rest,
        ap (total inside) is_left,
        total-append inside behind rest,
        parts_times laws o local (side peer) root peer.tree.root sides.same n k told behind up are_behind,
        again_weighs (asked_at laws (side peer) root k) RowsIn (total inside) left again (λ ys. refl) asks,
      )
  reply_at k asked question reply before after again alike is taken = absurd alike

  lacked_there : (m : List (K × List ℕ)) (k : K) (d : List ℕ) → get laws.cmp m k ≡ Some d → not (has_digest laws local k d) ≡ true
      → AnyByRecursion (λ p. Same laws.cmp k p.0) (filter (λ p. not (has_digest laws local p.0 p.1)) m)
  lacked_there [] k d e lacks = absurd (cc)
  lacked_there (p ∷ ps) k d e lacks = go (which (is_eq (laws.cmp p.0 k))) (lacked_there ps k d)
    where
      later : (not (has_digest laws local p.0 p.1) ≡ false) ⊎ (not (has_digest laws local p.0 p.1) ≡ true)
          → AnyByRecursion (λ q. Same laws.cmp k q.0) (filter (λ q. not (has_digest laws local q.0 q.1)) ps)
          → AnyByRecursion (λ q. Same laws.cmp k q.0) (filter (λ q. not (has_digest laws local q.0 q.1)) (p ∷ ps))
      later (inl n) a = rw n a
      later (inr n) a = rw n (inr a)

      go : (is_eq (laws.cmp p.0 k) ≡ false) ⊎ (is_eq (laws.cmp p.0 k) ≡ true)
          → (get laws.cmp ps k ≡ Some d → not (has_digest laws local k d) ≡ true → AnyByRecursion (λ q. Same laws.cmp k q.0) (filter (λ q. not (has_digest laws local q.0 q.1)) ps))
          → AnyByRecursion (λ q. Same laws.cmp k q.0) (filter (λ q. not (has_digest laws local q.0 q.1)) (p ∷ ps))
      go (inl n) more = later (which (not (has_digest laws local p.0 p.1))) (more (sym (past_head laws.cmp o p ps k n) ∙ e) lacks)
      go (inr n) more =
          let same = is_equal (laws.cmp p.0 k) n in
          let here : Some p.1 ≡ Some d = sym (at_head laws.cmp o p ps k same) ∙ e in
          let is : p.1 ≡ d = cc in
          let test : not (has_digest laws local p.0 p.1) ≡ true =
          ap (λ f. not (is_digest f p.1)) (get_same laws.cmp o (tree_map laws local) p.0 k same) ∙ ap (λ c. not (has_digest laws local k c)) is ∙ lacks in
          rw test (inl (tied_back o p.0 k same))

  abbrev Lacked : K → Type 0
  Lacked = IsLackedKey laws local (side peer)

  abbrev Wanting : Found K V → Type 0
  Wanting = Wants laws local (side peer)

  new_lacked_keys : (nodes : List (K × List ℕ)) → AllByRecursion (λ m. get laws.cmp (tree_map laws (side peer)) m.0 ≡ Some m.1) nodes → AllByRecursion Lacked (new_keys laws local nodes)
  new_lacked_keys nodes a =
      let test : K × List ℕ → Bool = λ m. not (has_digest laws local m.0 m.1) in
      each-mapped (λ m. m.0) Lacked (filter test nodes)
      (each-both (λ m. get laws.cmp (tree_map laws (side peer)) m.0 ≡ Some m.1) (λ m. test m ≡ true) (λ m. Lacked m.0) (filter test nodes)
      (λ m e t. lacked_there (tree_map laws (side peer)) m.0 m.1 e t)
      (each-filter (λ m. get laws.cmp (tree_map laws (side peer)) m.0 ≡ Some m.1) test nodes a) (all-filter test nodes))

  outlines_want : (with_pages : Bool) (ts us : List (OwnedGap K × Outline K V)) (before after : Found K V)
      → AllZip (λ t u. SameGapTold laws.cmp encoding t.0 u.0 × SameOutline laws.cmp laws.eq t.1 u.1) ts us
      → AllByRecursion (λ u. IsTold laws.cmp peer.rows with_pages (items_over laws.cmp laws.bytes_of peer.tree u.0) u.1) us → AreTaken laws local ts before after → Wanting before → Wanting after
  outlines_want with_pages [] us before after s told taken a = subst Wanting (sym taken) a
  outlines_want with_pages (t ∷ ts) [] before after s told taken a = absurd s
  outlines_want with_pages (t ∷ ts) (u ∷ us) before after s told (mid, one, more) a = outlines_want with_pages ts us mid after s.1 told.1 more (by t.1 u.1 s.0.1 told.0 one)
    where
      by : (x y : Outline K V) → SameOutline laws.cmp laws.eq x y → IsTold laws.cmp peer.rows with_pages (items_over laws.cmp laws.bytes_of peer.tree u.0) y
          → IsPageTaken laws local (owned_gap t.0) x before mid → Wanting mid
      by (rows_told rs) y same is taken = subst Wanting (sym taken) a
      by (digests_told ns) (digests_told ms) same (none, is) taken =
          subst Wanting (sym taken)
          (each-append Lacked before.wanted (new_keys laws local ns) a
          (new_lacked_keys ns (same_nodes laws o eqv local (side peer) root peer.tree.root sides ns ms same
          (subst (AllByRecursion (λ m. get laws.cmp (tree_map laws (side peer)) m.0 ≡ Some m.1)) (sym is) (nodes_peers laws o eqv local (side peer) root peer.tree.root sides (owned_gap u.0))))))
      by (digests_told ns) (rows_told rs) same is taken = absurd same
      by (digests_told ns) (page_told d ks qs) same is taken = absurd same
      by (page_told c js ps) y same is (gaps, own, new, kept, taken) = subst Wanting (sym taken) a

  again_all : {X : Type 0} (ask : Vec X → Question K) (left : List X) (again : Option (Question K)) → ((xs : Vec X) → AsksLacked laws local (side peer) (ask xs))
      → AsksAgain ask left again → AsksLackedAgain laws local (side peer) again
  again_all ask left again all (inl (none, e)) = subst (AsksLackedAgain laws local (side peer)) (sym e) tt
  again_all ask left again all (inr (rest, is, some, e)) = subst (AsksLackedAgain laws local (side peer)) (sym e) (all rest)

  again_keys : (left : List (Wanted K)) (again : Option (Question K)) → AllByRecursion (λ w. Lacked w.key) left → AsksAgain RowsAt left again → AsksLackedAgain laws local (side peer) again
  again_keys left again a (inl (none, e)) = subst (AsksLackedAgain laws local (side peer)) (sym e) tt
  again_keys left again a (inr (rest, is, some, e)) = subst (AsksLackedAgain laws local (side peer)) (sym e) (subst (AllByRecursion (λ w. Lacked w.key)) (sym is) a)

  -- what is taken of a reply keeps to such keys, and so do those at which it told values
  reply_wants : (asked question : Question K) (reply : List ℕ) (before after : Found K V) (again : Option (Question K)) → Wanting before
      → AsksLacked laws local (side peer) asked → SameQuestion laws.cmp encoding asked question
      → IsReply laws n encoding values peer.rows peer.tree question reply → (taken : HasTakenReply laws n encoding values local asked reply before after again)
      → Wanting after × AsksLackedAgain laws local (side peer) again
      × (entries_taken laws n encoding values local rows_at_kind asked reply before after again taken ≤ total
      (λ p. told_at laws n encoding values local p.0 asked reply before after again taken) (lacked laws local (side peer)))
  reply_wants (Root a) (Root b) reply before after again w l alike is (count, digest, read, taken, none) =
      (by digest taken, subst (AsksLackedAgain laws local (side peer)) (sym none) tt, omega arith)
    where
      by : (d : Option (List ℕ)) → IsRootTaken laws local d before after → Wanting after
      by None e = subst Wanting (sym e) w
      by (Some d) (inl (own, e)) = subst Wanting (sym e) w
      by (Some d) (inr (lacks, inl e)) = subst Wanting (sym e) w
      by (Some d) (inr (lacks, inr e)) = subst Wanting (sym e) w
  reply_wants (Outlines m gs) (Outlines m' hs) reply before after again w l alike (told', answers, sent) (left, has, asks) =
      let lists = lists_alike laws o eqv encoding values tell n local peer root sides small true outlines_kind gs.items hs.items left reply before after told' alike answers sent has in
      let (told, read, some, are, lies, taken) = has in
      (outlines_want true told told' before after lists answers.3 taken w, again_all (Outlines m) left again (λ xs. tt) asks, omega arith)
  reply_wants (Nodes m gs) (Nodes m' hs) reply before after again w l alike (told', answers, sent) (left, has, asks) =
      let lists = lists_alike laws o eqv encoding values tell n local peer root sides small false nodes_kind gs.items hs.items left reply before after told' alike answers sent has in
      let (told, read, some, are, lies, taken) = has in
      (outlines_want false told told' before after lists answers.3 taken w, again_all (Nodes m) left again (λ xs. tt) asks, omega arith)
  reply_wants (RowsAt ws) (RowsAt xs) reply before after again w l alike is (left, (told, read, some, are, any, taken), asks) =
      let Is : Wanted K → Type 0 = λ x. Lacked x.key in
      let all = subst (AllByRecursion Is) are l in
      let keys = map (λ (t : Wanted K × Option V). t.0) told in (
        subst Wanting (sym taken) w,
        again_keys left again (each-behind Is keys left all) asks,
        omega (arith, length-map told (λ t. t.0), keys_at laws local (side peer) o keys (each-before Is keys left all)),
      )
  reply_wants (RowsIn gs) (RowsIn hs) reply before after again w l alike is (left, (behind, rest, is_left, (told, read, some, are, up, (are_behind, taken))), asks) =
      (subst Wanting (sym taken) w, again_all RowsIn left again (λ xs. tt) asks, omega arith)
  reply_wants asked question reply before after again w l alike is taken = absurd alike

  -- an exchange
  pub exchange_pays_for_keys : (before : Underway K V) (question : Question K) (reply : List ℕ) (next : Next K V) → Wanting before.found
      → AsksLacked laws local (side peer) before.asked → SameQuestion laws.cmp encoding before.asked question
      → IsReply laws n encoding values peer.rows peer.tree question reply → (takes : IsNext laws n encoding values local before reply next)
      → PayForKeys laws local (side peer) root (entries_taken laws n encoding values local rows_at_kind before.asked reply before.found takes.0 takes.1 takes.2) before next
  exchange_pays_for_keys before question reply next w l alike is (found, again, taken, goes) = by next goes
    where
      wants : Wanting found × AsksLackedAgain laws local (side peer) again
          × (entries_taken laws n encoding values local rows_at_kind before.asked reply before.found found again taken ≤ total
          (λ p. told_at laws n encoding values local p.0 before.asked reply before.found found again taken) (lacked laws local (side peer)))
      wants = reply_wants before.asked question reply before.found found again w l alike is taken

      at : (p : K × List ℕ) → told_at laws n encoding values local p.0 before.asked reply before.found found again
          taken + (again_of (asked_at laws (side peer) root p.0) again + left_at laws (side peer) root p.0 found) ≤ asked_at laws
          (side peer) root p.0 before.asked + left_at laws (side peer) root p.0 before.found
      at p = reply_at p.0 before.asked question reply before.found found again alike is taken

      by : (next : Next K V) → AsksOrGoesOn laws.cmp encoding again before.rounds found next
          → PayForKeys laws local (side peer) root (entries_taken laws n encoding values local rows_at_kind before.asked reply before.found found again taken) before next
      by (Came rows) g =
          omega (
            arith,
            wants.2,
            total-less (λ (p : K × List ℕ). told_at laws n encoding values local p.0 before.asked reply before.found found again taken)
                (λ p. asked_at laws (side peer) root p.0 before.asked + left_at laws (side peer) root p.0 before.found)
                (λ p. omega (arith, at p)) (lacked laws local (side peer)),
          )
      by (Ask session message) g =
          let kept = next_lacked laws local (side peer) encoding again before.rounds found session message wants.0 wants.1 g in (
            omega (
              arith,
              wants.2,
              total-plus (λ (p : K × List ℕ). told_at laws n encoding values local p.0 before.asked reply before.found found again taken)
                  (λ p. asked_at laws (side peer) root p.0 session.asked + left_at laws (side peer) root p.0 session.found) (lacked laws local (side peer)),
              total-less (λ (p : K × List ℕ). told_at laws n encoding values local p.0 before.asked reply before.found found again
                  taken + (asked_at laws (side peer) root p.0 session.asked + left_at laws (side peer) root p.0 session.found))
                  (λ p. asked_at laws (side peer) root p.0 before.asked + left_at laws (side peer) root p.0 before.found)
                  (λ p. omega (arith, at p, next_at laws (side peer) root p.0 encoding again before.rounds found session message g)) (lacked laws local (side peer)),
            ),
            kept.0,
            kept.1,
          )
