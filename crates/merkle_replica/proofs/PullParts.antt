-- A pull from what it asks and what it joins.
use Rattle.std.proofs.Common.{◌≡◌, ℕ, ◌≤◌, true, List, [], ◌∷◌, length, refl, sym, ap, ◌∙◌, subst}
use Rattle.std.specs.Cmp.{IsTotalOrder, IsEquivalence}
use Rattle.key_order.specs.Interval.{Span}
use Rattle.key_order.specs.Map.{IsMap, SameMap, last_key, rows_in}
use Rattle.key_order.specs.Join.{IsJoin, IsJoining}
use Rattle.key_order.proofs.Joins.{same_joins}
use Rattle.key_order.proofs.SameRows.{joins-came}
use Rattle.merkle_diff.specs.Entry.{Entry}
use Rattle.merkle_diff.specs.Merge.{SameSpans}
use Rattle.merkle_diff.specs.SameEntries.{SameEntries}
use Rattle.merkle_diff.proofs.SameEntries.{same_entries-own, same_entries-back}
use Rattle.merkle_diff.proofs.SameLists.{difference-alike, spares-alike, shaped-alike}
use Rattle.merkle_diff.proofs.SameSpans.{same_spans-own, rows_in-alike}
use Rattle.merkle_diff.proofs.SameWalks.{by_walk-alike, one_answer-alike}
use Rattle.merkle_search_tree.specs.Loading.{digests}
use Rattle.merkle_tree_theory.specs.Page.{pairs}
use Rattle.merkle_tree_theory.specs.Ranges.{IsPageOf}
use Rattle.merkle_tree_theory.specs.State.{SameSettings}
use Rattle.merkle_tree_theory.specs.Stream.{page_digest}
use Rattle.merkle_replica.specs.Laws.{Laws}
use Rattle.merkle_replica.specs.Contents.{Contents, Side, side, tree_map}
use Rattle.merkle_replica.specs.PullSteps.{ArePullSteps}
use Rattle.merkle_replica.specs.Pulls.{Answer, IsAnswerFor, IsPull, IsPartOfPull, HasRanges}
use Rattle.merkle_replica.specs.Steps.{IsAnswerTo}
use Rattle.merkle_replica.specs.Faithful.{SpanHolds, HaveFaithfulPages, MissesNone}
use Rattle.merkle_replica.specs.Answers.{spans_of, IsDone, IsPartlyDone}
use Rattle.merkle_replica.proofs.Bounds.{ascending_digests}
use Rattle.merkle_replica.proofs.Cover.{covers}
use Rattle.merkle_replica.proofs.Listings.{AreShaped, AreListings, HaveOneList}
use Rattle.merkle_replica.proofs.SideLaws.{same_side}

module _ {K V H : Type 0} (laws : Laws K V H) where
  -- an answer for replicas that were hashed is one for them as they were
  pub answered_before : (local peer local' peer' : Contents K V H) (found : List (Span K)) → local'.rows ≡ local.rows → peer'.rows ≡ peer.rows
      → SameSettings local.tree local'.tree → SameSettings peer.tree peer'.tree
      → IsAnswerFor laws (side local') (side peer') found → IsAnswerFor laws (side local) (side peer) found
  answered_before local peer local' peer' found lr pr ls ps a =
      subst (λ s. IsAnswerFor laws s (side peer) found) (same_side local local' lr ls) (subst (λ s. IsAnswerFor laws (side local') s found) (same_side peer peer' pr ps) a)

  -- a pull that was done
  pub pull_from : (local peer : Side K V H) (ranges seen : List (K × K)) (ours theirs after : List (K × V)) (joined : ℕ) → seen ≡ ranges → ours ≡ local.rows → theirs ≡ peer.rows
      → IsAnswerFor laws local peer (spans_of ranges) → IsDone laws.cmp laws.eq laws.join (rows_in laws.cmp (spans_of seen) theirs) ours joined after
      → IsPull laws local peer (record { ranges = spans_of ranges; joined = joined }) after
  pull_from local peer ranges seen ours theirs after joined s l p a d =
      let e : IsDone laws.cmp laws.eq laws.join (rows_in laws.cmp (spans_of ranges) peer.rows) local.rows joined after = rw (← s, ← l, ← p) d in
      record { answered = a; counted = e.counted; joins = e.joins }

  -- a pull that stopped part-way
  pub part_from : (local peer : Side K V H) (ranges seen : List (K × K)) (ours theirs after : List (K × V)) (done joined : ℕ) → seen ≡ ranges → ours ≡ local.rows → theirs ≡ peer.rows
      → IsAnswerFor laws local peer (spans_of ranges) → 1 ≤ done → IsPartlyDone laws.cmp laws.eq laws.join (rows_in laws.cmp (spans_of seen) theirs) ours done joined after
      → IsPartOfPull laws local peer (record { ranges = spans_of ranges; joined = joined }) done after
  part_from local peer ranges seen ours theirs after done joined s l p a n d =
      let e : IsPartlyDone laws.cmp laws.eq laws.join (rows_in laws.cmp (spans_of ranges) peer.rows) local.rows done joined after = rw (← s, ← l, ← p) d in
      record { answered = a; counted = e.counted; some = n; not_all = e.not_all; joins = e.joins }

  -- coverage
  pub covers_sides : IsTotalOrder laws.cmp → AreListings laws → (local peer : Side K V H) (found : List (Span K)) → IsMap laws.cmp local.rows → IsMap laws.cmp peer.rows
      → IsAnswerFor laws local peer found → HaveFaithfulPages laws local peer → SpanHolds laws.cmp peer.rows local.rows → MissesNone laws local peer found
  covers_sides o lists local peer found al ap a faith holds k d there lacks =
      let dl = tree_map laws local in
      let dp = tree_map laws peer in
      let ml = ascending_digests laws.cmp o (laws.value_digest local.hasher) local.rows al in
      let mp = ascending_digests laws.cmp o (laws.value_digest peer.hasher) peer.rows ap in
      covers laws.cmp o (IsPageOf laws.cmp (laws.key_digest local.hasher) local.base) (IsPageOf laws.cmp (laws.key_digest peer.hasher) peer.base)
      (page_digest local.format laws.bytes_of) (page_digest peer.format laws.bytes_of) pairs dl dp a.local_list a.peer_list found ml mp
      (lists local.hasher local.base local.format dl a.local_list ml a.of_local) (lists peer.hasher peer.base peer.format dp a.peer_list mp a.of_peer)
      (span_digests peer.rows local.rows holds) faith a.interval_laws k d there lacks
    where
      last_digests : {X Y : Type 0} (f : X → Y) (k : K) (rs : List (K × X)) → last_key k (digests f rs) ≡ last_key k rs
      last_digests f k [] = refl
      last_digests f k (r ∷ rs) = last_digests f r.0 rs

      span_digests : (b a : List (K × V)) → SpanHolds laws.cmp b a → SpanHolds laws.cmp (digests (laws.value_digest peer.hasher) b) (digests (laws.value_digest local.hasher) a)
      span_digests b [] h = tt
      span_digests [] (r ∷ rs) h = h
      span_digests (s ∷ ss) (r ∷ rs) h = rw (last_digests (laws.value_digest local.hasher) r.0 rs, last_digests (laws.value_digest peer.hasher) s.0 ss) h

  -- an answer to a list that came is one for the peer, where the list is that of the peer's tree, up to equal keys
  pub answer_came : IsTotalOrder laws.cmp → AreShaped laws → (local peer : Side K V H) (theirs came : List (Entry K (List ℕ))) (found : List (Span K)) → IsMap laws.cmp peer.rows
      → HasRanges laws peer theirs → SameEntries laws.cmp theirs came → IsAnswerTo laws local came found → IsAnswerFor laws local peer found
  answer_came o shaped local peer theirs came found ap of_peer ranges_came a =
      let own = same_entries-own laws.cmp o a.local_list in
      let back = same_entries-back laws.cmp o theirs came ranges_came in
      let same = same_spans-own laws.cmp o found in
      let shape = shaped peer.hasher peer.base peer.format (tree_map laws peer) theirs (ascending_digests laws.cmp o (laws.value_digest peer.hasher) peer.rows ap) of_peer in
      record {
        local_list = a.local_list;
        peer_list = theirs;
        of_local = a.of_local;
        of_peer = of_peer;
        interval_laws = difference-alike laws.cmp o a.local_list a.local_list came theirs found found own back same a.interval_laws;
        laws_on_trees = spares-alike laws.cmp o a.local_list a.local_list came theirs found found own back same (a.laws_on_trees (shaped-alike laws.cmp o theirs came ranges_came shape));
        exact_walk = by_walk-alike laws.cmp o a.local_list a.local_list came theirs found found own back same a.exact_walk;
      }

  -- the steps of a pull, where what came is what was sent, up to equal keys and equal values
  pub steps_pull : IsTotalOrder laws.cmp → IsEquivalence laws.eq → IsJoining laws.eq laws.join → AreShaped laws
      → (local peer : Side K V H) (found : List (Span K)) (after : List (K × V)) → IsMap laws.cmp peer.rows
      → ArePullSteps laws local peer found after → IsPull laws local peer (record { ranges = found; joined = length (rows_in laws.cmp found peer.rows) }) after
  steps_pull o e j shaped local peer found after ap s = record {
    answered = answer_came o shaped local peer s.theirs s.came found ap s.of_peer s.ranges_came s.answered;
    counted = refl;
    joins = joins-came laws.cmp o laws.eq e laws.join j local.rows (rows_in laws.cmp found peer.rows) s.rows after
        (subst (λ rows. SameMap laws.cmp (λ x y. laws.eq x y ≡ true) rows s.rows) (sym (rows_in-alike laws.cmp o found s.asked s.asked_came peer.rows)) s.rows_came) s.joins;
  }

  -- two answers for the same sides ask for the same ranges, and pulls by them join the same rows
  pub one_answer_for : IsTotalOrder laws.cmp → HaveOneList laws → (local peer : Side K V H) (xs ys : List (Span K)) → IsAnswerFor laws local peer xs
      → IsAnswerFor laws local peer ys → SameSpans laws.cmp xs ys
  one_answer_for o lists local peer xs ys a b =
      one_answer-alike laws.cmp o a.local_list b.local_list a.peer_list b.peer_list xs ys (lists local a.local_list b.local_list a.of_local b.of_local)
      (lists peer a.peer_list b.peer_list a.of_peer b.of_peer) a.exact_walk b.exact_walk

  pub one_pull : IsTotalOrder laws.cmp → IsEquivalence laws.eq → IsJoining laws.eq laws.join → HaveOneList laws
      → (local peer : Side K V H) (x y : Answer K) (after then : List (K × V)) → IsPull laws local peer x after → IsPull laws local peer y then
      → (x.joined ≡ y.joined) × SameMap laws.cmp (λ v w. laws.eq v w ≡ true) after then
  one_pull o e j lists local peer x y after then a b =
      let same = rows_in-alike laws.cmp o x.ranges y.ranges (one_answer_for o lists local peer x.ranges y.ranges a.answered b.answered) peer.rows in (
        a.counted ∙ ap length same ∙ sym b.counted,
        same_joins laws.cmp o laws.eq e laws.join j local.rows (rows_in laws.cmp y.ranges peer.rows) after then
            (subst (λ rows. IsJoin laws.cmp laws.eq laws.join local.rows rows after) same a.joins) b.joins,
      )
