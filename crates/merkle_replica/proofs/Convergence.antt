-- Four pulls by turns leave both replicas at the join.
use Rattle.std.proofs.Common.{◌≡◌, ℕ, ◌≤◌, Bool, true, false, List, [], ◌∷◌, Option, Some, None, refl, sym, ◌⊎◌, inl, inr, subst, length, arith, if◌then◌else◌}
use Rattle.std.specs.Option.{option_map}
use Rattle.std.specs.Cmp.{IsTotalOrder, IsEquivalence}
use Rattle.std.specs.declared.cmp.Ordering.{Ordering}
use Rattle.key_order.specs.Order.{Below, Same, Upto, upto}
use Rattle.key_order.specs.Interval.{Span, IsIn, IsCovered, is_covered}
use Rattle.key_order.specs.Map.{SameValue, IsPresent, IsMap, get}
use Rattle.key_order.specs.Join.{joined, IsJoining}
use Rattle.key_order.proofs.Maps.{get_at}
use Rattle.key_order.proofs.Orders.{up_up, same_up, same_down, up_self, either, low_is_up}
use Rattle.key_order.proofs.Spans.{is_covered-same, test_from_covered}
use Rattle.key_order.proofs.Values.{Eq, back, on, comm}
use Rattle.merkle_diff.specs.Difference.{IsByTable, lesser}
use Rattle.merkle_diff.specs.Entry.{Entry, span_of}
use Rattle.merkle_diff.specs.Merge.{SameSpans}
use Rattle.merkle_tree_theory.specs.Listing.{IsWhole, IsListing}
use Rattle.merkle_tree_theory.specs.Page.{pairs}
use Rattle.merkle_tree_theory.specs.Ranges.{IsPageOf}
use Rattle.merkle_tree_theory.specs.Stream.{page_digest}
use Rattle.merkle_replica.specs.Laws.{Laws}
use Rattle.merkle_replica.specs.Contents.{Side, with_rows, tree_map}
use Rattle.merkle_replica.specs.Pulls.{Answer, IsPull, IsByTurns, HoldTheJoin}
use Rattle.merkle_replica.specs.Faithful.{IsFaithful, AllFaithful}
use Rattle.merkle_replica.proofs.PulledKeys.{Taken, SameOrAbsent, keeps_join, takes_all, stays, there, there_left, there_right, there_one, taken_there}
use Rattle.merkle_replica.proofs.Bounds.{get_digests, ascending_digests, present_from, present_to, first_bound, present_head}
use Rattle.merkle_replica.proofs.Listings.{AreListings}
use Rattle.merkle_replica.proofs.Cover.{Lo, Hi, found_or_same, no_entry, first_there, last_there, all_in_first}

module _ {K V H : Type 0} (laws : Laws K V H) (o : IsTotalOrder laws.cmp) (e : IsEquivalence laws.eq) (j : IsJoining laws.eq laws.join) (lists : AreListings laws) where
  abbrev Rows : Type 0
  Rows = List (K × V)

  abbrev cmp : K → K → Ordering
  cmp = laws.cmp

  abbrev eq : V → V → Bool
  eq = laws.eq

  abbrev join : V → V → V
  join = laws.join

  -- the same value at each key
  abbrev At : Rows → (K → Option V) → Type 0
  At a f = (k : K) → Eq eq e join j (get cmp a k) (f k)

  abbrev Join : Rows → Rows → K → Option V
  Join a b k = joined join (get cmp a k) (get cmp b k)

  -- ---- one pull

  module _ (local peer : Side K V H) (n : Answer K) (x' : Rows) (t : IsPull laws local peer n x') where
    abbrev x : Rows
    x = local.rows

    abbrev y : Rows
    y = peer.rows

    -- what the pull did at a key
    takes : (k : K) → Eq eq e join j (get cmp x' k) (joined join (get cmp x k) (Taken eq e join j (is_covered cmp k n.ranges) (get cmp y k)))
    takes k = subst (λ v. Eq eq e join j (get cmp x' k) (joined join (get cmp x k) v)) (get_at cmp o (λ i. is_covered cmp i n.ranges) (is_covered-same cmp o n.ranges) y k) (t.joins.values k)

    -- the join of both stays
    join_stays : (k : K) → Eq eq e join j (Join x' y k) (Join x y k)
    join_stays k = keeps_join eq e join j (is_covered cmp k n.ranges) (get cmp x k) (get cmp y k) (get cmp x' k) (takes k)

    rows_stay : (k : K) → IsPresent (get cmp x k) → IsPresent (get cmp x' k)
    rows_stay k p = there eq e join j (joined join (get cmp x k) (Taken eq e join j (is_covered cmp k n.ranges) (get cmp y k))) (get cmp x' k)
        (back eq e join j (get cmp x' k) (joined join (get cmp x k) (Taken eq e join j (is_covered cmp k n.ranges) (get cmp y k))) (takes k))
        (there_left eq e join j (get cmp x k) (Taken eq e join j (is_covered cmp k n.ranges) (get cmp y k)) p)

    rows_from : (k : K) → IsPresent (get cmp x' k) → IsPresent (get cmp x k) ⊎ IsPresent (get cmp y k)
    rows_from k p = go (there_one eq e join j (get cmp x k) (Taken eq e join j (is_covered cmp k n.ranges) (get cmp y k))
        (there eq e join j (get cmp x' k) (joined join (get cmp x k) (Taken eq e join j (is_covered cmp k n.ranges) (get cmp y k))) (takes k) p))
      where
        go : IsPresent (get cmp x k) ⊎ IsPresent (Taken eq e join j (is_covered cmp k n.ranges) (get cmp y k)) → IsPresent (get cmp x k) ⊎ IsPresent (get cmp y k)
        go (inl h) = inl h
        go (inr h) = inr (taken_there eq e join j (is_covered cmp k n.ranges) (get cmp y k) h)

    -- between two at the join nothing changes
    at_stays : (f : K → Option V) → At x f → At y f → At x' f
    at_stays f h i k = stays eq e join j (is_covered cmp k n.ranges) (get cmp x k) (get cmp y k) (get cmp x' k) (f k) (takes k) (h k) (i k)

    -- a row in a range arrives
    arrives : (k : K) → IsCovered cmp k n.ranges → IsPresent (get cmp y k) → IsPresent (get cmp x' k)
    arrives k i p = there eq e join j (joined join (get cmp x k) (Taken eq e join j (is_covered cmp k n.ranges) (get cmp y k))) (get cmp x' k)
        (back eq e join j (get cmp x' k) (joined join (get cmp x k) (Taken eq e join j (is_covered cmp k n.ranges) (get cmp y k))) (takes k))
        (there_right eq e join j (get cmp x k) (Taken eq e join j (is_covered cmp k n.ranges) (get cmp y k)) (taken (is_covered cmp k n.ranges) (test_from_covered cmp o n.ranges k i)))
      where
        taken : (b : Bool) → b ≡ true → IsPresent (Taken eq e join j b (get cmp y k))
        taken true h = p
        taken false h = cc

    -- where the peer's keys reach around local's, the pull leaves the join
    module _ (ax : IsMap cmp x) (ay : IsMap cmp y) (faith : IsFaithful laws local peer) where
      abbrev local_digest : V → List ℕ
      local_digest = laws.value_digest local.hasher

      abbrev peer_digest : V → List ℕ
      peer_digest = laws.value_digest peer.hasher

      is_map_x : IsMap cmp (tree_map laws local)
      is_map_x = ascending_digests cmp o local_digest x ax

      is_map_y : IsMap cmp (tree_map laws peer)
      is_map_y = ascending_digests cmp o peer_digest y ay

      lists_x : IsListing cmp (IsPageOf cmp (laws.key_digest local.hasher) local.base) (page_digest local.format laws.bytes_of) pairs (tree_map laws local) t.answered.local_list
      lists_x = lists local.hasher local.base local.format (tree_map laws local) t.answered.local_list is_map_x t.answered.of_local

      lists_y : IsListing cmp (IsPageOf cmp (laws.key_digest peer.hasher) peer.base) (page_digest peer.format laws.bytes_of) pairs (tree_map laws peer) t.answered.peer_list
      lists_y = lists peer.hasher peer.base peer.format (tree_map laws peer) t.answered.peer_list is_map_y t.answered.of_peer

      lo_digests : Lo cmp y x → Lo cmp (tree_map laws peer) (tree_map laws local)
      lo_digests lo k p = let (i, h, b) = lo k (present_from cmp o local_digest x k p) in (i, present_to cmp o peer_digest y i h, b)

      hi_digests : Hi cmp y x → Hi cmp (tree_map laws peer) (tree_map laws local)
      hi_digests hi k p = let (i, h, b) = hi k (present_from cmp o local_digest x k p) in (i, present_to cmp o peer_digest y i h, b)

      absent_or_same : (k : K) (a b : Option V) → get cmp x k ≡ a → get cmp y k ≡ b
          → (IsPresent b → IsCovered cmp k n.ranges ⊎ SameValue (λ d c. d ≡ c) (option_map local_digest a) (option_map peer_digest b))
          → (is_covered cmp k n.ranges ≡ true) ⊎ SameOrAbsent eq e join j a b
      absent_or_same k a None u v f = inr tt
      absent_or_same k None (Some b) u v f = go (f tt)
        where
          go : IsCovered cmp k n.ranges ⊎ ⊥ → (is_covered cmp k n.ranges ≡ true) ⊎ ⊥
          go (inl i) = inl (test_from_covered cmp o n.ranges k i)
          go (inr s) = inr s
      absent_or_same k (Some a) (Some b) u v f = go (f tt)
        where
          go : IsCovered cmp k n.ranges ⊎ (local_digest a ≡ peer_digest b) → (is_covered cmp k n.ranges ≡ true) ⊎ (eq a b ≡ true)
          go (inl i) = inl (test_from_covered cmp o n.ranges k i)
          go (inr s) = inr (faith.same_values k a b u v s)

      brings_all : Lo cmp y x → Hi cmp y x → At x' (Join x y)
      brings_all lo hi k =
          takes_all eq e join j (is_covered cmp k n.ranges) (get cmp x k) (get cmp y k) (get cmp x' k) (takes k)
          (absent_or_same k (get cmp x k) (get cmp y k) refl refl
          (λ p. subst (λ v. IsCovered cmp k n.ranges ⊎ SameValue (λ d c. d ≡ c) v (option_map peer_digest (get cmp y k))) (get_digests cmp o local_digest x k)
          (subst (λ v. IsCovered cmp k n.ranges ⊎ SameValue (λ d c. d ≡ c) (get cmp (tree_map laws local) k) v) (get_digests cmp o peer_digest y k)
          (found_or_same cmp o (IsPageOf cmp (laws.key_digest local.hasher) local.base) (IsPageOf cmp (laws.key_digest peer.hasher) peer.base)
          (page_digest local.format laws.bytes_of) (page_digest peer.format laws.bytes_of) pairs
          (tree_map laws local) (tree_map laws peer) t.answered.local_list t.answered.peer_list n.ranges is_map_x is_map_y lists_x lists_y
          (lo_digests lo) (hi_digests hi) faith.same_pages t.answered.interval_laws k (present_to cmp o peer_digest y k p)))))

      -- where the peer begins no higher, its keys reach around local's, or local's reach around the peer's after the pull
      reach_by : (ls ps : List (Entry K (List ℕ))) → IsWhole cmp (tree_map laws local) ls → IsWhole cmp (tree_map laws peer) ps → IsByTable cmp ls ps n.ranges
          → Lo cmp y x → Hi cmp y x ⊎ (Lo cmp x' y × Hi cmp x' y)
      reach_by [] ps w v table lo = inl (λ k p. absurd (subst (λ m. IsPresent (get cmp m k)) (no_entry cmp o (tree_map laws local) [] w refl) (present_to cmp o local_digest x k p)))
      reach_by (a ∷ ls) [] w v table lo =
          let (i, h, b) = lo a.first (present_from cmp o local_digest x a.first (first_there cmp o (tree_map laws local) a ls w)) in
          absurd (subst (λ m. IsPresent (get cmp m i)) (no_entry cmp o (tree_map laws peer) [] v refl) (present_to cmp o peer_digest y i h))
      reach_by (a ∷ ls) (b ∷ ps) w v table lo = go (either cmp o a.last b.last) (either cmp o a.first b.first)
        where
          in_a : (k : K) → IsPresent (get cmp x k) → IsIn cmp k (span_of a)
          in_a k p = all_in_first cmp o (tree_map laws local) a ls is_map_x w k (present_to cmp o local_digest x k p)

          in_b : (k : K) → IsPresent (get cmp y k) → IsIn cmp k (span_of b)
          in_b k p = all_in_first cmp o (tree_map laws peer) b ps is_map_y v k (present_to cmp o peer_digest y k p)

          first_a : IsPresent (get cmp x a.first)
          first_a = present_from cmp o local_digest x a.first (first_there cmp o (tree_map laws local) a ls w)

          last_a : IsPresent (get cmp x a.last)
          last_a = present_from cmp o local_digest x a.last (last_there cmp o (tree_map laws local) a ls w)

          first_b : IsPresent (get cmp y b.first)
          first_b = present_from cmp o peer_digest y b.first (first_there cmp o (tree_map laws peer) b ps v)

          last_b : IsPresent (get cmp y b.last)
          last_b = present_from cmp o peer_digest y b.last (last_there cmp o (tree_map laws peer) b ps v)

          hi : Below cmp b.last a.last → Hi cmp x' y
          hi h k p = (a.last, rows_stay a.last last_a, up_up cmp o k b.last a.last (in_b k p).1 (low_is_up cmp o b.last a.last h))

          least : (c : K) → Upto cmp b.first a.first → Same cmp c (lesser cmp a.first b.last) → Upto cmp b.first c
          least c h s = pick (upto cmp a.first b.last) s
            where
              pick : (u : Bool) → Same cmp c (if u then a.first else b.last) → Upto cmp b.first c
              pick true n = up_up cmp o b.first a.first c h (same_down cmp o c a.first n)
              pick false n = up_up cmp o b.first b.last c (in_b b.first first_b).1 (same_down cmp o c b.last n)

          in_found : (found : List (Span K)) → Upto cmp b.first a.first → SameSpans cmp found (record { first = b.first; last = lesser cmp a.first b.last } ∷ []) → IsCovered cmp b.first found
          in_found [] h s = absurd s
          in_found (r ∷ rs) h s = inl (same_up cmp o r.first b.first s.0.0, least r.last h s.0.1)

          go : Upto cmp a.last b.last ⊎ Below cmp b.last a.last → Upto cmp a.first b.first ⊎ Below cmp b.first a.first → Hi cmp y x ⊎ (Lo cmp x' y × Hi cmp x' y)
          go (inl h) m = inl (λ k p. (b.last, last_b, up_up cmp o k a.last b.last (in_a k p).1 h))
          go (inr h) (inl m) = inr (λ k p. (a.first, rows_stay a.first first_a, up_up cmp o a.first b.first k m (in_b k p).0), hi h)
          go (inr h) (inr m) =
              inr (λ k p. (b.first, arrives b.first (in_found n.ranges (low_is_up cmp o b.first a.first m) (table.before m h)) first_b, (in_b k p).0), hi h)

      reach : Lo cmp y x → Hi cmp y x ⊎ (Lo cmp x' y × Hi cmp x' y)
      reach lo = reach_by t.answered.local_list t.answered.peer_list lists_x.whole lists_y.whole t.answered.interval_laws.table lo

  -- ---- turns

  lo_or : (x y : Rows) → IsMap cmp x → IsMap cmp y → Lo cmp y x ⊎ Lo cmp x y
  lo_or [] y ax ay = inl (λ k p. absurd p)
  lo_or (r ∷ rs) [] ax ay = inr (λ k p. absurd p)
  lo_or (r ∷ rs) (s ∷ ss) ax ay = go (either cmp o s.0 r.0)
    where
      go : Upto cmp s.0 r.0 ⊎ Below cmp r.0 s.0 → Lo cmp (s ∷ ss) (r ∷ rs) ⊎ Lo cmp (r ∷ rs) (s ∷ ss)
      go (inl h) = inl (λ k p. (s.0, present_head cmp o s ss, up_up cmp o s.0 r.0 k h (first_bound cmp o r rs k ax p)))
      go (inr h) = inr (λ k p. (r.0, present_head cmp o r rs, up_up cmp o r.0 s.0 k (low_is_up cmp o r.0 s.0 h) (first_bound cmp o s ss k ay p)))

  lo_all : (x y : Rows) → ((k : K) → IsPresent (get cmp x k) → IsPresent (get cmp y k)) → Lo cmp y x
  lo_all x y h k p = (k, h k p, up_self cmp o k)

  hi_all : (x y : Rows) → ((k : K) → IsPresent (get cmp x k) → IsPresent (get cmp y k)) → Hi cmp y x
  hi_all x y h k p = (k, h k p, up_self cmp o k)

  -- keys of b are keys of a map that has the join of a and b
  has_right : (a b c : Rows) → At c (Join a b) → (k : K) → IsPresent (get cmp b k) → IsPresent (get cmp c k)
  has_right a b c h k p = there eq e join j (Join a b k) (get cmp c k) (back eq e join j (get cmp c k) (Join a b k) (h k)) (there_right eq e join j (get cmp a k) (get cmp b k) p)

  swap_at : (a b c d x : Rows) → At x (Join b c) → ((k : K) → Eq eq e join j (Join c b k) (Join a d k)) → At x (Join a d)
  swap_at a b c d x h i k = on eq e join j (get cmp x k) (Join b c k) (Join a d k) (h k) (on eq e join j (Join b c k) (Join c b k) (Join a d k) (comm eq e join j (get cmp b k) (get cmp c k)) (i k))

  module _ (p q : Side K V H) (x1 y2 x3 : Rows) (q1 q2 q3 : Answer K) (t1 : IsPull laws p q q1 x1) (t2 : IsPull laws q (with_rows p x1) q2 y2)
      (t3 : IsPull laws (with_rows p x1) (with_rows q y2) q3 x3)
      (ax : IsMap cmp p.rows) (ay : IsMap cmp q.rows) (f1 : IsFaithful laws p q) (f2 : IsFaithful laws q (with_rows p x1)) (f3 : IsFaithful laws (with_rows p x1) (with_rows q y2)) where
    abbrev x0 : Rows
    x0 = p.rows

    abbrev y0 : Rows
    y0 = q.rows

    three : Lo cmp y0 x0 → At y2 (Join x0 y0) × At x3 (Join x0 y0)
    three lo = go (reach p q q1 x1 t1 ax ay f1 lo)
      where
        second : Lo cmp x1 y0 → Hi cmp x1 y0 → At y2 (Join x0 y0)
        second l h = swap_at x0 y0 x1 y0 y2 (brings_all q (with_rows p x1) q2 y2 t2 ay t1.joins.ascending f2 l h) (join_stays p q q1 x1 t1)

        go : Hi cmp y0 x0 ⊎ (Lo cmp x1 y0 × Hi cmp x1 y0) → At y2 (Join x0 y0) × At x3 (Join x0 y0)
        go (inl hi) =
            let all : At x1 (Join x0 y0) = brings_all p q q1 x1 t1 ax ay f1 lo hi in
            let b : At y2 (Join x0 y0) = second (lo_all y0 x1 (has_right x0 y0 x1 all)) (hi_all y0 x1 (has_right x0 y0 x1 all)) in
            (b, at_stays (with_rows p x1) (with_rows q y2) q3 x3 t3 (Join x0 y0) all b)
        go (inr w) =
            let b : At y2 (Join y0 x1) = brings_all q (with_rows p x1) q2 y2 t2 ay t1.joins.ascending f2 w.0 w.1 in
            let c : At x3 (Join x1 y2) = brings_all (with_rows p x1) (with_rows q y2) q3 x3 t3 t1.joins.ascending t2.joins.ascending f3
            (lo_all x1 y2 (has_right y0 x1 y2 b)) (hi_all x1 y2 (has_right y0 x1 y2 b)) in (
              second w.0 w.1,
              swap_at x0 x1 y2 y0 x3 c
                  (λ k. on eq e join j (Join y2 x1 k) (Join y0 x1 k) (Join x0 y0 k) (join_stays q (with_rows p x1) q2 y2 t2 k)
                  (on eq e join j (Join y0 x1 k) (Join x1 y0 k) (Join x0 y0 k) (comm eq e join j (get cmp y0 k) (get cmp x1 k)) (join_stays p q q1 x1 t1 k))),
            )

  module _ (p q : Side K V H) (a1 b2 a3 b4 : Rows) (q1 q2 q3 q4 : Answer K)
      (t1 : IsPull laws p q q1 a1) (t2 : IsPull laws q (with_rows p a1) q2 b2) (t3 : IsPull laws (with_rows p a1) (with_rows q b2) q3 a3) (t4 : IsPull laws (with_rows q b2) (with_rows p a3) q4 b4)
      (aa : IsMap cmp p.rows) (ab : IsMap cmp q.rows) (f1 : IsFaithful laws p q) (f2 : IsFaithful laws q (with_rows p a1))
      (f3 : IsFaithful laws (with_rows p a1) (with_rows q b2)) (f4 : IsFaithful laws (with_rows q b2) (with_rows p a3)) where
    abbrev a : Rows
    a = p.rows

    abbrev b : Rows
    b = q.rows

    four : At a3 (Join a b) × At b4 (Join a b)
    four = go (lo_or a b aa ab)
      where
        go : Lo cmp b a ⊎ Lo cmp a b → At a3 (Join a b) × At b4 (Join a b)
        go (inl lo) =
            let w = three p q a1 b2 a3 q1 q2 q3 t1 t2 t3 aa ab f1 f2 f3 lo in
            (w.1, at_stays (with_rows q b2) (with_rows p a3) q4 b4 t4 (Join a b) w.0 w.1)
        go (inr lo) =
            let lo1 : Lo cmp a1 b = (λ k h. let (i, l, u) = lo k h in (i, rows_stay p q q1 a1 t1 i l, u)) in
            let w = three q (with_rows p a1) b2 a3 b4 q2 q3 q4 t2 t3 t4 ab t1.joins.ascending f2 f3 f4 lo1 in
            (swap_at a b a1 b a3 w.0 (join_stays p q q1 a1 t1), swap_at a b a1 b b4 w.1 (join_stays p q q1 a1 t1))

  -- from the join on nothing changes
  then_stay : (qs : List (Answer K)) (p q : Side K V H) (x' y' : Rows) (met : List (Side K V H × Side K V H)) (f : K → Option V) → IsMap cmp p.rows
      → IsMap cmp q.rows → At p.rows f → At q.rows f → IsByTurns laws qs p q x' y' met
      → (IsMap cmp x' × At x' f) × (IsMap cmp y' × At y' f)
  then_stay [] p q x' y' met f ax ay h i (u, v, w) = ((subst (IsMap cmp) (sym u) ax, subst (λ m. At m f) (sym u) h), (subst (IsMap cmp) (sym v) ay, subst (λ m. At m f) (sym v) i))
  then_stay (n ∷ qs) p q x' y' met f ax ay h i (after, rest, w, t, more) =
      let r = then_stay qs q (with_rows p after) y' x' rest f ay t.joins.ascending i (at_stays p q n after t f h i) more in (r.1, r.0)

  -- convergence: four turns or more, without a collision in what is met, leave both at the join
  pub converges : (qs : List (Answer K)) (p q : Side K V H) (a' b' : Rows) (met : List (Side K V H × Side K V H)) → IsMap cmp p.rows → IsMap cmp q.rows → IsByTurns laws qs p q a' b' met
      → AllFaithful laws met → 4 ≤ length qs → HoldTheJoin laws p q a' b'
  converges [] p q a' b' met aa ab t f n = absurd (omega arith)
  converges (q1 ∷ []) p q a' b' met aa ab t f n = absurd (omega arith)
  converges (q1 ∷ q2 ∷ []) p q a' b' met aa ab t f n = absurd (omega arith)
  converges (q1 ∷ q2 ∷ q3 ∷ []) p q a' b' met aa ab t f n = absurd (omega arith)
  converges (q1 ∷ q2 ∷ q3 ∷ q4 ∷ qs) p q a' b' met aa ab (a1, m1, w1, t1, (b2, m2, w2, t2, (a3, m3, w3, t3, (b4, m4, w4, t4, more)))) f n =
      let g1 = subst (AllFaithful laws) w1 f in
      let g2 = subst (AllFaithful laws) w2 g1.1 in
      let g3 = subst (AllFaithful laws) w3 g2.1 in
      let g4 = subst (AllFaithful laws) w4 g3.1 in
      let w = four p q a1 b2 a3 b4 q1 q2 q3 q4 t1 t2 t3 t4 aa ab g1.0 g2.0 g3.0 g4.0 in
      let r = then_stay qs (with_rows p a3) (with_rows q b4) a' b' m4 (Join p.rows q.rows) t3.joins.ascending t4.joins.ascending w.0 w.1 more in
      (record { ascending = r.0.0; values = r.0.1 }, record { ascending = r.1.0; values = r.1.1 })
