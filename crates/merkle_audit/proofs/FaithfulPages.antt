-- Pages are faithful exactly where page ranges tell maps.
use Rattle.std.proofs.Common.{◌≡◌, ℕ, List, [], ◌∷◌, refl, sym, ◌∙◌, ap, subst}
use Rattle.std.specs.Cmp.{IsTotalOrder}
use Rattle.std.specs.List.{AllByRecursion}
use Rattle.std.specs.declared.cmp.Ordering.{Ordering}
use Rattle.key_order.specs.Interval.{is_in}
use Rattle.key_order.specs.Map.{IsMap, SameMap}
use Rattle.key_order.proofs.SameMaps.{ascends, same_across, same_map-back, same_map-own}
use Rattle.key_order.proofs.Spans.{is_in-same, is_in-alike, rows_at-alike}
use Rattle.merkle_diff.specs.Entry.{Entry, span_of}
use Rattle.merkle_diff.specs.SameEntries.{SameEntry, SameEntries}
use Rattle.merkle_diff.proofs.Each.{each-with}
use Rattle.merkle_search_tree.specs.Loading.{digests}
use Rattle.merkle_tree_theory.specs.Canonical.{IsTreeOf}
use Rattle.merkle_tree_theory.specs.Faithful.{HasFaithfulPages}
use Rattle.merkle_tree_theory.specs.Listing.{IsListing, IsWhole, entry_rows}
use Rattle.merkle_tree_theory.specs.OneTree.{TreesOfEqualMapsInAnyFormat}
use Rattle.merkle_tree_theory.specs.Page.{pairs}
use Rattle.merkle_tree_theory.specs.Ranges.{IsPageOf, SameRanges, ranges_of}
use Rattle.merkle_tree_theory.specs.Stream.{SameDigest, page_digest}
use Rattle.merkle_tree_theory.specs.Tree.{Tree}
use Rattle.merkle_tree_theory.specs.declared.page_format.PageFormat.{PageFormat}
use Rattle.merkle_tree_theory.proofs.PagesIn.{itself}
use Rattle.merkle_tree_theory.proofs.RangesOfMap.{lists, same_part}
use Rattle.merkle_digest.specs.Level.{level_of}
use Rattle.merkle_audit.specs.Pages.{LacksPageDigest}
use Rattle.merkle_audit.proofs.PagesBySpan.{entry_at, of_page, page_without_pairs, span_pairs}

module _ {K : Type 0} (cmp : K → K → Ordering) (a b : List (K × List ℕ)) where
  -- where the two entries have one digest, the pairs of a within the one are those of b within the other
  abbrev pub MapTold : Entry K (List ℕ) → Entry K (List ℕ) → Type 0
  MapTold e f = e.digest ≡ f.digest → SameMap cmp (λ d c. d ≡ c) (entry_rows cmp e a) (entry_rows cmp f b)

  abbrev pub EachMapTold : List (Entry K (List ℕ)) → Entry K (List ℕ) → Type 0
  EachMapTold fs e = AllByRecursion (MapTold e) fs

  abbrev pub AllMapsTold : List (Entry K (List ℕ)) → List (Entry K (List ℕ)) → Type 0
  AllMapsTold es fs = AllByRecursion (EachMapTold fs) es

module _ {K : Type 0} (cmp : K → K → Ordering) (o : IsTotalOrder cmp) where
  -- an equal entry of which P holds
  abbrev IsLike : (Entry K (List ℕ) → Type 0) → Entry K (List ℕ) → Type 0
  IsLike P e = (like : Entry K (List ℕ)) × SameEntry cmp e like × P like

  -- each entry of an equal list has one
  likes : (P : Entry K (List ℕ) → Type 0) (es fs : List (Entry K (List ℕ))) → SameEntries cmp es fs → AllByRecursion P fs → AllByRecursion (IsLike P) es
  likes P [] [] s a = tt
  likes P [] (f ∷ fs) s a = absurd s
  likes P (e ∷ es) [] s a = absurd s
  likes P (e ∷ es) (f ∷ fs) s a = ((f, s.0, a.0), likes P es fs s.1 a.1)

  -- the pairs of equal maps within equal entries
  same_within : (e f : Entry K (List ℕ)) (a b : List (K × List ℕ)) → SameEntry cmp e f → SameMap cmp (λ d c. d ≡ c) a b → SameMap cmp (λ d c. d ≡ c) (entry_rows cmp e a) (entry_rows cmp f b)
  same_within e f a b s m =
      subst (SameMap cmp (λ d c. d ≡ c) (entry_rows cmp e a)) (rows_at-alike (λ k. is_in cmp k (span_of e)) (λ k. is_in cmp k (span_of f)) (is_in-alike cmp o (span_of e) (span_of f) s.0) b)
      (same_part cmp o (λ d c. d ≡ c) (λ k. is_in cmp k (span_of e)) (is_in-same cmp o (span_of e)) a b m)

  none_same : (ps m : List (K × List ℕ)) → SameMap cmp (λ d c. d ≡ c) ps m → ps ≡ [] → m ≡ []
  none_same [] [] s e = refl
  none_same [] (q ∷ qs) s e = absurd s
  none_same (p ∷ ps) m s e = absurd (let f = e in cc)

  none_back : (ps m : List (K × List ℕ)) → SameMap cmp (λ d c. d ≡ c) ps m → m ≡ [] → ps ≡ []
  none_back [] m s e = refl
  none_back (p ∷ ps) [] s e = absurd s
  none_back (p ∷ ps) (q ∷ qs) s e = absurd (let f = e in cc)

  module _ (digest_of : K → List ℕ) (base : ℕ) (format : PageFormat) (bytes_of : K → List ℕ) where
    -- the map ascends, and of each of its trees this one has the page ranges, up to equal keys, and the digest of the root page
    pub record IsItsTree (m : List (K × List ℕ)) (root : Tree K (List ℕ)) : Type 0 where
      pub ascending : IsMap cmp m
      pub of_map : IsTreeOf cmp digest_of base root m
      pub ranges : (t : Tree K (List ℕ)) → IsTreeOf cmp digest_of base t m → SameEntries cmp (ranges_of format bytes_of t) (ranges_of format bytes_of root)
      pub digest : (t : Tree K (List ℕ)) → IsTreeOf cmp digest_of base t m → page_digest format bytes_of t ≡ page_digest format bytes_of root

    module _ (m : List (K × List ℕ)) (root : Tree K (List ℕ)) (own : IsItsTree m root) where
      -- a page without pairs is the root page of the empty map
      without_pairs : (s : Tree K (List ℕ)) → IsPageOf cmp digest_of base s m → pairs s ≡ [] → (m ≡ []) × (page_digest format bytes_of s ≡ page_digest format bytes_of root)
      without_pairs s (t, h, i) q =
          let e : s ≡ t = page_without_pairs (λ k. level_of (digest_of k) base) s t h.0 i q in
          (none_same (pairs t) m h.1 (sym (ap pairs e) ∙ q), ap (page_digest format bytes_of) e ∙ own.digest t h)

      -- a page with pairs has an entry, of which holds what holds of each, and its pairs are those of the map within it
      with_pairs : (P : Entry K (List ℕ) → Type 0) → AllByRecursion P (ranges_of format bytes_of root) → (s : Tree K (List ℕ)) (p : K × List ℕ) (ps : List (K × List ℕ))
          → IsPageOf cmp digest_of base s m → pairs s ≡ p ∷ ps
          → (e : Entry K (List ℕ)) × (page_digest format bytes_of s ≡ e.digest) × SameMap cmp (λ x y. x ≡ y) (pairs s) (entry_rows cmp e m) × P e
      with_pairs P all s p ps (t, h, i) q =
          let (e, same, holds) = of_page format bytes_of (IsLike P) s t p ps i q (likes P (ranges_of format bytes_of t) (ranges_of format bytes_of root) (own.ranges t h) all) in
          let span = span_pairs cmp o s t p ps (page_digest format bytes_of s) i (ascends cmp o (λ x y. x ≡ y) (pairs t) m h.1 own.ascending) q in
          (e, same.1, subst (λ xs. SameMap cmp (λ x y. x ≡ y) xs (entry_rows cmp e m)) span (same_within (entry_at p ps (page_digest format bytes_of s)) e (pairs t) m same h.1), holds)

      -- each entry is of a page
      pub listing : IsListing cmp (IsPageOf cmp digest_of base) (page_digest format bytes_of) pairs m (ranges_of format bytes_of root)
      listing = lists cmp o digest_of base format bytes_of m (ranges_of format bytes_of root) own.ascending (root, own.of_map, refl)

      -- where only pages without pairs have a digest, no entry has it
      no_page : (d : List ℕ) → ((s : Tree K (List ℕ)) → IsPageOf cmp digest_of base s m → d ≡ page_digest format bytes_of s → pairs s ≡ []) → LacksPageDigest d (ranges_of format bytes_of root)
      no_page d none = by (ranges_of format bytes_of root) listing
        where
          by : (es : List (Entry K (List ℕ))) → IsListing cmp (IsPageOf cmp digest_of base) (page_digest format bytes_of) pairs m es → LacksPageDigest d es
          by [] l = tt
          by (e ∷ es) l =
              each-with (λ f. (s : Tree K (List ℕ)) × IsPageOf cmp digest_of base s m × (page_digest format bytes_of s ≡ f.digest)
              × SameMap cmp (λ x y. x ≡ y) (pairs s) (entry_rows cmp f m)) (λ f. d ≡ f.digest → ⊥) (e ∷ es)
              (λ f (s, of_m, is, same_map) same. subst (λ n. IsWhole cmp n (e ∷ es)) (without_pairs s of_m (none s of_m (same ∙ sym is))).0 l.whole) l.pages

  -- the tree of a map is such a one, where trees of equal maps have equal page ranges and equal digests
  pub its_tree : {H : Type 0} (digest_of : H → K → List ℕ) (bytes_of : K → List ℕ) → TreesOfEqualMapsInAnyFormat cmp digest_of (λ format. SameDigest format bytes_of)
      → TreesOfEqualMapsInAnyFormat cmp digest_of (λ format. SameRanges cmp format bytes_of)
      → (hasher : H) (base : ℕ) (format : PageFormat) (m : List (K × List ℕ)) (root : Tree K (List ℕ)) → IsMap cmp m → IsTreeOf cmp (digest_of hasher) base root m
      → IsItsTree (digest_of hasher) base format bytes_of m root
  its_tree digest_of bytes_of digests ranges hasher base format m root a h = record {
    ascending = a;
    of_map = h;
    ranges = λ t g. ranges hasher base format m m t root (same_map-own cmp o m) g h;
    digest = λ t g. digests hasher base format m m t root (same_map-own cmp o m) g h;
  }

  module _ (da db : K → List ℕ) (base_a base_b : ℕ) (fa fb : PageFormat) (bytes_of : K → List ℕ) (a b : List (K × List ℕ)) (t u : Tree K (List ℕ))
      (own_a : IsItsTree da base_a fa bytes_of a t) (own_b : IsItsTree db base_b fb bytes_of b u) where
    -- pages of the two maps with equal digests have equal maps below them
    abbrev pub AreFaithful : Type 0
    AreFaithful = HasFaithfulPages cmp (IsPageOf cmp da base_a) (IsPageOf cmp db base_b) (page_digest fa bytes_of) (page_digest fb bytes_of) pairs a b

    -- so they have where the page ranges tell maps, and no page of one side has the digest of the other's empty page
    pub told_pages : AllMapsTold cmp a b (ranges_of fa bytes_of t) (ranges_of fb bytes_of u) → (a ≡ [] → LacksPageDigest (page_digest fa bytes_of t) (ranges_of fb bytes_of u))
        → (b ≡ [] → LacksPageDigest (page_digest fb bytes_of u) (ranges_of fa bytes_of t)) → AreFaithful
    told_pages tell no_a no_b s v of_a of_b same = go (pairs s) refl (pairs v) refl
      where
        go : (xs : List (K × List ℕ)) → pairs s ≡ xs → (ys : List (K × List ℕ)) → pairs v ≡ ys → SameMap cmp (λ d c. d ≡ c) xs ys
        go [] e [] f = tt
        go [] e (q ∷ qs) f =
            let (none, dx) = without_pairs da base_a fa bytes_of a t own_a s of_a e in
            let (entry, dy, m, lacks) = with_pairs db base_b fb bytes_of b u own_b (λ e. page_digest fa bytes_of t ≡ e.digest → ⊥) (no_a none) v q qs of_b f in
            absurd (lacks (sym dx ∙ same ∙ dy))
        go (p ∷ ps) e [] f =
            let (none, dy) = without_pairs db base_b fb bytes_of b u own_b v of_b f in
            let (entry, dx, m, lacks) = with_pairs da base_a fa bytes_of a t own_a (λ e. page_digest fb bytes_of u ≡ e.digest → ⊥) (no_b none) s p ps of_a e in
            absurd (lacks (sym dy ∙ sym same ∙ dx))
        go (p ∷ ps) e (q ∷ qs) f =
            let (one, dx, m, tells) = with_pairs da base_a fa bytes_of a t own_a (EachMapTold cmp a b (ranges_of fb bytes_of u)) tell s p ps of_a e in
            let (other, dy, n, told) = with_pairs db base_b fb bytes_of b u own_b (MapTold cmp a b one) tells v q qs of_b f in
            let back_m = same_map-back cmp o (pairs s) (entry_rows cmp one a) m in
            let back_n = same_map-back cmp o (pairs v) (entry_rows cmp other b) n in
            subst (λ xs. SameMap cmp (λ d c. d ≡ c) xs (q ∷ qs)) e (subst (λ ys. SameMap cmp (λ d c. d ≡ c) (pairs s) ys) f
            (same_across cmp o (entry_rows cmp one a) (entry_rows cmp other b) (pairs s) (pairs v) back_m back_n (told (sym dx ∙ same ∙ dy))))

    module _ (faithful : AreFaithful) where
      -- and only there
      pub pages_tell : AllMapsTold cmp a b (ranges_of fa bytes_of t) (ranges_of fb bytes_of u)
      pages_tell =
          each-with (λ e. (s : Tree K (List ℕ)) × IsPageOf cmp da base_a s a × (page_digest fa bytes_of s ≡ e.digest)
          × SameMap cmp (λ x y. x ≡ y) (pairs s) (entry_rows cmp e a)) (EachMapTold cmp a b (ranges_of fb bytes_of u)) (ranges_of fa bytes_of t)
          (λ e (s, of_a, dx, m).
          each-with (λ f. (v : Tree K (List ℕ)) × IsPageOf cmp db base_b v b × (page_digest fb bytes_of v ≡ f.digest)
          × SameMap cmp (λ x y. x ≡ y) (pairs v) (entry_rows cmp f b)) (MapTold cmp a b e) (ranges_of fb bytes_of u)
          (λ f (v, of_b, dy, n) same. same_across cmp o (pairs s) (pairs v) (entry_rows cmp e a) (entry_rows cmp f b) m n (faithful s v of_a of_b (dx ∙ same ∙ sym dy)))
          (listing db base_b fb bytes_of b u own_b).pages) (listing da base_a fa bytes_of a t own_a).pages

      pub first_alone : a ≡ [] → LacksPageDigest (page_digest fa bytes_of t) (ranges_of fb bytes_of u)
      first_alone none =
          no_page db base_b fb bytes_of b u own_b (page_digest fa bytes_of t) (λ v of_b same.
          none_same (pairs t) (pairs v) (faithful t v (t, own_a.of_map, itself t) of_b same) (none_back (pairs t) a own_a.of_map.1 none))

      pub second_alone : b ≡ [] → LacksPageDigest (page_digest fb bytes_of u) (ranges_of fa bytes_of t)
      second_alone none =
          no_page da base_a fa bytes_of a t own_a (page_digest fb bytes_of u) (λ s of_a same.
          none_back (pairs s) (pairs u) (faithful s u of_a (u, own_b.of_map, itself u) (sym same)) (none_back (pairs u) b own_b.of_map.1 none))

-- no row has no digest
pub no_rows : {K V : Type 0} (f : V → List ℕ) (rows : List (K × V)) → digests f rows ≡ [] → rows ≡ []
no_rows f [] e = refl
no_rows f (r ∷ rows) e = absurd (let h = e in cc)
