-- What a peer says of its pages and rows can be said to the question, where its pages fill the gaps and its rows can be told.
use Rattle.std.proofs.Common.{◌≡◌, ◌≢◌, ℕ, Bool, List, [], ◌∷◌, ◌++◌, map, flat_map, Option, Some, None, refl, sym, ap, ap₂, subst, ◌∙◌, inl, inr, arith}
use Rattle.std.specs.Cmp.{IsTotalOrder, tied_back, tied_itself}
use Rattle.std.specs.List.{AllByRecursion, AllZip}
use Rattle.std.specs.Option.{option_map}
use Rattle.std.specs.declared.cmp.Ordering.{Ordering}
use Rattle.key_order.specs.Map.{IsMap, get}
use Rattle.key_order.specs.Order.{Below}
use Rattle.key_order.proofs.ListParts.{each-before, each-behind, map-first, map-rest}
use Rattle.key_order.proofs.Maps.{get_same}
use Rattle.merkle_bytes.specs.Options.{IsOption}
use Rattle.merkle_diff.proofs.Each.{each-both, each-mapped, each-with}
use Rattle.merkle_replica.specs.Contents.{Side, tree_map}
use Rattle.merkle_replica.specs.Laws.{Laws}
use Rattle.merkle_replica.proofs.Bounds.{get_digests}
use Rattle.merkle_replica.proofs.Seeks.{map_at}
use Rattle.merkle_tree_theory.specs.Gap.{Gap, IsAfter, IsInGap, SameBound, SameGap, is_in_gap, pairs_within, part_behind}
use Rattle.merkle_tree_theory.specs.Lookup.{Fills}
use Rattle.merkle_tree_theory.specs.Outline.{outline_over, outline_where}
use Rattle.merkle_tree_theory.specs.Page.{held_pairs, pairs, row_pairs}
use Rattle.merkle_tree_theory.specs.Tree.{Tree, page, Row, high, node, Held, nothing, below}
use Rattle.merkle_tree_theory.specs.declared.page_format.PageFormat.{PageFormat}
use Rattle.merkle_tree_theory.proofs.InGaps.{after_low, each_within, in_gap-same}
use Rattle.merkle_tree_theory.proofs.PageOverGap.{filled_opens}
use Rattle.merkle_wire.specs.Coming.{AscendBetween, AscendIn}
use Rattle.merkle_wire.specs.Fit.{IsOutlineIn, IsPartIn, Says}
use Rattle.merkle_wire.specs.Gaps.{owned_gap}
use Rattle.merkle_wire.specs.Outlines.{Outline, rows_told, digests_told, page_told, IsTold, keys_among, nodes_among, AreRowsAt}
use Rattle.merkle_wire.specs.Replies.{IsPartOf, Part}
use Rattle.merkle_wire.specs.Sessions.{CanBeTold}
use Rattle.merkle_wire.specs.declared.gaps.OwnedGap.{OwnedGap}
use Rattle.merkle_wire.specs.declared.wanted.Wanted.{Wanted}
use Rattle.merkle_wire.proofs.RoundCovers.{each-filter}
use Rattle.merkle_wire.proofs.FilledGaps.{filling_in_gap}
use Rattle.merkle_wire.proofs.Outside.{ascend-alike, ascend_between-same, own_keys}
use Rattle.merkle_wire.proofs.PagesBelow.{map_inside, nodes_in}
use Rattle.merkle_wire.proofs.StepCovers.{finds_own}
use Rattle.merkle_wire.proofs.TellingReplies.{Fits}
use Rattle.merkle_wire.specs.Messages.{front}
use Rattle.merkle_wire.specs.declared.message.Kind.{Kind}
use Rattle.merkle_wire.proofs.Continued.{TellsFirst}

module _ {K : Type 0} (cmp : K → K → Ordering) (o : IsTotalOrder cmp) where
  -- what is above a key that parts a gap, and in the gap, is after the key
  behind_each : {X : Type 0} (g : Gap K) (k : K) (ps : List (K × X)) → AllByRecursion (λ p. Below cmp k p.0) ps → AllByRecursion (λ p. IsInGap cmp p.0 g) ps
      → AllByRecursion (λ p. IsInGap cmp p.0 (part_behind g k)) ps
  behind_each g k ps = each-both (λ p. Below cmp k p.0) (λ p. IsInGap cmp p.0 g) (λ p. IsInGap cmp p.0 (part_behind g k)) ps (λ p low inside. (low, inside.1))

  -- the keys of a map that are all in a gap ascend in it
  pub map_ascends : {X : Type 0} (g : Gap K) (ps : List (K × X)) → IsMap cmp ps → AllByRecursion (λ p. IsInGap cmp p.0 g) ps → AscendIn cmp g (map (λ p. p.0) ps)
  map_ascends g [] m a = tt
  map_ascends g (p ∷ ps) m a = (a.0.0, a.0.1, map_ascends (part_behind g p.0) ps m.1 (behind_each g p.0 ps m.0 a.1))

  -- keys that ascend from a key on do so from a bound that is below it
  from_below : (a b : Option K) (k : K) (ks : List K) → IsAfter cmp a k → AscendBetween cmp (Some k) b ks → AscendBetween cmp a b ks
  from_below a b k [] after up = tt
  from_below a b k (j ∷ ks) after up = (after_low cmp o a k j after up.0, up.1, up.2)

  -- the rows at keys that ascend do
  rows_ascend : {V : Type 0} (rows : List (K × V)) (a b : Option K) (ks : List K) (found : List (K × V)) → AscendBetween cmp a b ks → AreRowsAt cmp rows ks found
      → AscendBetween cmp a b (map (λ r. r.0) found)
  rows_ascend rows a b [] found up none = subst (λ rs. AscendBetween cmp a b (map (λ r. r.0) rs)) (sym none) tt
  rows_ascend rows a b (k ∷ ks) found up (inl (none, more)) = rows_ascend rows a b ks found (from_below a b k ks up.0 up.2) more
  rows_ascend rows a b (k ∷ ks) found up (inr (row, rest, same, there, more, e)) =
      let inside = in_gap-same cmp o (record { after = a; before = b }) k row.0 (tied_back o row.0 k same) (up.0, up.1) in
      let above = ascend_between-same cmp o (Some k) (Some row.0) b b (map (λ r. r.0) rest) (map (λ r. r.0) rest) (tied_back o row.0 k same) (own_bound b)
      (own_keys cmp o (map (λ r. r.0) rest)) (rows_ascend rows (Some k) b ks rest up.2 more) in
      subst (λ rs. AscendBetween cmp a b (map (λ r. r.0) rs)) (sym e) (inside.0, inside.1, above)
    where
      own_bound : (c : Option K) → SameBound cmp c c
      own_bound None = tt
      own_bound (Some c) = tied_itself o c

  module _ (format : PageFormat) (bytes_of : K → List ℕ) where
    -- the nodes of a row whose keys are all in a gap ascend in it
    row_ascends : (g : Gap K) (r : Row K (List ℕ)) → IsMap cmp (row_pairs r) → AllByRecursion (λ p. IsInGap cmp p.0 g) (row_pairs r) → AscendIn cmp g (keys_among (nodes_in cmp o format bytes_of g r))
    row_ascends g (high nothing) m a = tt
    row_ascends g (high (below t)) m a = tt
    row_ascends g (node h k d r) m a =
        by h (map-rest cmp (held_pairs h) ((k, d) ∷ row_pairs r) m) (each-behind (λ p. IsInGap cmp p.0 g) (held_pairs h) ((k, d) ∷ row_pairs r) a) (row_ascends (part_behind g k) r)
      where
        by : (q : Held K (List ℕ)) → IsMap cmp ((k, d) ∷ row_pairs r) → AllByRecursion (λ p. IsInGap cmp p.0 g) ((k, d) ∷ row_pairs r)
            → (IsMap cmp (row_pairs r) → AllByRecursion (λ p. IsInGap cmp p.0 (part_behind g k)) (row_pairs r)
            → AscendIn cmp (part_behind g k) (keys_among (nodes_in cmp o format bytes_of (part_behind g k) r)))
            → AscendIn cmp g (keys_among (nodes_in cmp o format bytes_of g (node q k d r)))
        by nothing m a more = (a.0.0, a.0.1, more m.1 (behind_each g k (row_pairs r) m.0 a.1))
        by (below t) m a more = (a.0.0, a.0.1, more m.1 (behind_each g k (row_pairs r) m.0 a.1))

    -- so do those of the page that fills one, and there is one
    module _ (tree : Tree K (List ℕ)) (up : IsMap cmp (pairs tree)) (g : Gap K) where
      abbrev pub keys_in : List K
      keys_in = keys_among (nodes_among (outline_over format bytes_of cmp tree g))

      pub filled_ascends : (u : Tree K (List ℕ)) → Fills cmp g u tree → AscendIn cmp g keys_in
      filled_ascends (page l c r) f =
          subst (λ xs. AscendIn cmp g (keys_among (nodes_among xs))) (sym (ap (outline_where format bytes_of g) (filled_opens cmp o g (page l c r) tree up f)))
          (row_ascends g r (map_inside cmp o (page l c r) tree up f.inside) (filling_in_gap cmp o g (page l c r) tree f))

      pub filled_some : (u : Tree K (List ℕ)) → Fills cmp g u tree → keys_in ≢ []
      filled_some (page l c (high h)) f e = absurd f.some
      filled_some (page l c (node h k d r)) f e =
          by h (sym (ap (λ p. keys_among (nodes_among (outline_where format bytes_of g p))) (filled_opens cmp o g (page l c (node h k d r)) tree up f)) ∙ e)
        where
          by : (q : Held K (List ℕ)) → keys_among (nodes_in cmp o format bytes_of g (node q k d r)) ≡ [] → ⊥
          by nothing e = absurd (cc)
          by (below t) e = absurd (cc)

module _ {K V H : Type 0} (laws : Laws K V H) (o : IsTotalOrder laws.cmp) (is_key : K → Type 0) (is_value : V → Type 0) (peer : Side K V H) (told : CanBeTold laws is_key is_value peer) where
  -- keys and rows of the peer
  key_read : (k : K) (d : List ℕ) → get laws.cmp (tree_map laws peer) k ≡ Some d → is_key k
  key_read k d e = by (get laws.cmp peer.rows k) refl
    where
      by : (x : Option V) → get laws.cmp peer.rows k ≡ x → is_key k
      by None f = let never : None ≡ Some d = ap (option_map (laws.value_digest peer.hasher)) (sym f) ∙ sym (get_digests laws.cmp o (laws.value_digest peer.hasher) peer.rows k) ∙ e in absurd (cc)
      by (Some v) f = (told.read k v f).0

  pub keys_read : (nodes : List (K × List ℕ)) → AllByRecursion (λ m. get laws.cmp (tree_map laws peer) m.0 ≡ Some m.1) nodes → AllByRecursion (λ m. is_key m.0) nodes
  keys_read nodes = each-with (λ m. get laws.cmp (tree_map laws peer) m.0 ≡ Some m.1) (λ m. is_key m.0) nodes (λ m e. key_read m.0 m.1 e)

  rows_read : (ks : List K) (rows : List (K × V)) → AreRowsAt laws.cmp peer.rows ks rows → AllByRecursion (λ r. is_key r.0 × is_value r.1) rows
  rows_read [] rows none = subst (AllByRecursion (λ r. is_key r.0 × is_value r.1)) (sym none) tt
  rows_read (k ∷ ks) rows (inl (none, more)) = rows_read ks rows more
  rows_read (k ∷ ks) rows (inr (row, rest, same, there, more, e)) =
      subst (AllByRecursion (λ r. is_key r.0 × is_value r.1)) (sym e) (told.read row.0 row.1 (get_same laws.cmp o peer.rows row.0 k same ∙ there), rows_read ks rest more)

  module _ (n : ℕ) (tree : Tree K (List ℕ)) (up : IsMap laws.cmp (pairs tree))
      (nodes_peers : (g : Gap K) → AllByRecursion (λ m. get laws.cmp (tree_map laws peer) m.0 ≡ Some m.1) (nodes_among (outline_over peer.format laws.bytes_of laws.cmp tree g))) where
    -- what is told of a page that fills a gap can be told of one with equal bounds
    pub outline_said : (with_pages : Bool) (g h : Gap K) (u : Tree K (List ℕ)) (x : Outline K V) → SameGap laws.cmp h g → Fills laws.cmp h u tree
        → IsTold laws.cmp peer.rows with_pages (outline_over peer.format laws.bytes_of laws.cmp tree h) x → Fits n x
        → IsOutlineIn laws.cmp is_key is_value n with_pages g x
    outline_said with_pages g h u (rows_told rows) same f (none, are) fits = (
      ascend-alike laws.cmp o h g (map (λ r. r.0) rows) same
          (rows_ascend laws.cmp o peer.rows h.after h.before (keys_in laws.cmp o peer.format laws.bytes_of tree up h) rows (filled_ascends laws.cmp o peer.format laws.bytes_of tree up h u f) are),
      rows_read (keys_in laws.cmp o peer.format laws.bytes_of tree up h) rows are,
    )
    outline_said with_pages g h u (digests_told nodes) same f (none, are) fits = (
      ascend-alike laws.cmp o h g (keys_among nodes) same (subst (λ ns. AscendIn laws.cmp h (keys_among ns)) (sym are) (filled_ascends laws.cmp o peer.format laws.bytes_of tree up h u f)),
      subst (AllByRecursion (λ m. is_key m.0)) (sym are) (keys_read (nodes_among (outline_over peer.format laws.bytes_of laws.cmp tree h)) (nodes_peers h)),
      fits,
    )
    outline_said with_pages g h u (page_told digest keys pages) same f (with, is, are, beside) fits = (
      with,
      (
        (λ none. filled_some laws.cmp o peer.format laws.bytes_of tree up h u f (sym are ∙ none)),
        ascend-alike laws.cmp o h g keys same (subst (AscendIn laws.cmp h) (sym are) (filled_ascends laws.cmp o peer.format laws.bytes_of tree up h u f)),
        subst (AllByRecursion is_key) (sym are) (each-mapped (λ m. m.0) is_key (nodes_among (outline_over peer.format laws.bytes_of laws.cmp tree h))
            (keys_read (nodes_among (outline_over peer.format laws.bytes_of laws.cmp tree h)) (nodes_peers h))),
        fits.0,
        omega (arith, fits.1),
        fits.2,
      ),
    )

  -- rows of the peer in a gap, all or the first of them
  pub part_said : (g : Gap K) (gap : OwnedGap K) (part : Part K V) → IsMap laws.cmp peer.rows → SameGap laws.cmp (owned_gap gap) g → IsPartOf laws.cmp peer.rows gap part
      → IsPartIn laws.cmp is_key is_value g part
  part_said g gap part up same (more, begins, whole, some) = (
    (
      ascend-alike laws.cmp o (owned_gap gap) g (map (λ r. r.0) part.rows) same
          (map_ascends laws.cmp o (owned_gap gap) part.rows
          (map-first laws.cmp part.rows more (subst (IsMap laws.cmp) begins (map_at laws.cmp o (λ k. is_in_gap laws.cmp k (owned_gap gap)) peer.rows up)))
          (each-before (λ r. IsInGap laws.cmp r.0 (owned_gap gap)) part.rows more
          (subst (AllByRecursion (λ r. IsInGap laws.cmp r.0 (owned_gap gap))) begins (each_within laws.cmp (owned_gap gap) peer.rows)))),
      each-before (λ r. is_key r.0 × is_value r.1) part.rows more (subst (AllByRecursion (λ r. is_key r.0 × is_value r.1)) begins all),
    ),
    some,
  )
    where
      all : AllByRecursion (λ r. is_key r.0 × is_value r.1) (pairs_within laws.cmp (owned_gap gap) peer.rows)
      all = each-filter (λ r. is_key r.0 × is_value r.1) (λ r. is_in_gap laws.cmp r.0 (owned_gap gap)) peer.rows
          (each-with (λ r. get laws.cmp peer.rows r.0 ≡ Some r.1) (λ r. is_key r.0 × is_value r.1) peer.rows (λ r e. told.read r.0 r.1 e) (finds_own laws.cmp o peer.rows up))

  -- the value at a key, where there is one
  pub value_said : (w : Wanted K) (value : Option V) → value ≡ get laws.cmp peer.rows w.key → IsOption is_value value
  value_said w None e = tt
  value_said w (Some v) e = (told.read w.key v (sym e)).1

-- what was told of the first of one list, as told of the first of another
module _ {X Y : Type 0} (E : X → X → Type 0) where
  abbrev Alike : X × Y → X × Y → Type 0
  Alike t u = E t.0 u.0 × (t.1 ≡ u.1)

  pub told_again : (xs : List X) (us : List (X × Y)) (others : List X) → AllZip E xs (map (λ u. u.0) us ++ others) → (ts : List (X × Y)) × (left : List X)
      × (xs ≡ map (λ t. t.0) ts ++ left) × AllZip Alike ts us
  told_again xs [] others s = ([], xs, refl, tt)
  told_again [] (u ∷ us) others s = absurd s
  told_again (x ∷ xs) (u ∷ us) others s = let (ts, left, e, r) = told_again xs us others s.1 in ((x, u.1) ∷ ts, left, ap (λ ys. x ∷ ys) e, ((s.0, refl), r))

  module _ (bytes : X × Y → List ℕ) (one : (t u : X × Y) → Alike t u → bytes t ≡ bytes u) where
    bytes_alike : (ts us : List (X × Y)) → AllZip Alike ts us → flat_map bytes ts ≡ flat_map bytes us
    bytes_alike [] [] s = refl
    bytes_alike [] (u ∷ us) s = absurd s
    bytes_alike (t ∷ ts) [] s = absurd s
    bytes_alike (t ∷ ts) (u ∷ us) s = ap₂ (λ a b. a ++ b) (one t u s.0) (bytes_alike ts us s.1)

    module _ (F : X → Type 0) (P Q : X → Y → Type 0) (says : (x x' : X) (y : Y) → E x x' → F x → Q x' y → P x y) where
      each_alike : (ts us : List (X × Y)) → AllZip Alike ts us → AllByRecursion F (map (λ t. t.0) ts) → AllByRecursion (λ u. Q u.0 u.1) us → AllByRecursion (λ t. P t.0 t.1) ts
      each_alike [] us s f q = tt
      each_alike (t ∷ ts) [] s f q = absurd s
      each_alike (t ∷ ts) (u ∷ us) s f q = (says t.0 u.0 t.1 s.0.0 f.0 (subst (Q u.0) (sym s.0.1) q.0), each_alike ts us s.1 f.1 q.1)

      some_alike : (ts us : List (X × Y)) → AllZip Alike ts us → us ≢ [] → ts ≢ []
      some_alike [] [] s some e = some refl
      some_alike [] (u ∷ us) s some e = absurd s
      some_alike (t ∷ ts) us s some e = absurd (cc)

      some_asked : (xs ys : List X) → AllZip E xs ys → xs ≢ [] → ys ≢ []
      some_asked [] ys s some e = some refl
      some_asked (x ∷ xs) [] s some e = absurd s
      some_asked (x ∷ xs) (y ∷ ys) s some e = absurd (cc)

      -- what answers one list says what can be said of the other
      pub answers_say : (kind : Kind) (reply : List ℕ) (xs ys : List X) (us : List (X × Y)) → AllZip E xs ys → xs ≢ [] → AllByRecursion F xs
          → TellsFirst Q ys us → reply ≡ front kind ++ flat_map bytes us → Says kind bytes P xs reply
      answers_say kind reply xs ys us s some f a sent =
          let (ts, left, begins, alike) = told_again xs us a.0 (subst (AllZip E xs) a.1 s) in (
            left,
            (
              ts,
              sent ∙ ap (λ t. front kind ++ t) (sym (bytes_alike ts us alike)),
              some_alike ts us alike (a.2 (some_asked xs ys s some)),
              begins,
              each_alike ts us alike (each-before F (map (λ t. t.0) ts) left (subst (AllByRecursion F) begins f)) a.3,
              tt,
            ),
          )
