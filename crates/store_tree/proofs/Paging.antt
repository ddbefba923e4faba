-- What stands in a gap is the page of the nodes that the map has there on the greatest level.
use Rattle.std.proofs.Common.{◌≡◌, ◌<◌, ◌≤◌, ℕ, suc, Bool, true, false, ◌||◌, ◌==◌, List, [], ◌∷◌, ◌++◌, ◌+◌, length, length-append, Option, Some, None, refl, sym, ap, subst, ◌∙◌, arith, string_bytes}
use Rattle.std.specs.Cmp.Lexicographic.{nat_list_cmp_total}
use Rattle.key_order.specs.Map.{IsMap}
use Rattle.key_order.proofs.ListParts.{each-append}
use Rattle.merkle_digest.specs.SipHash.{siphash128, zero_key}
use Rattle.merkle_tree_theory.specs.Gap.{part_before, part_behind, pairs_within}
use Rattle.merkle_tree_theory.specs.Page.{held_pairs, row_nodes, row_pairs}
use Rattle.merkle_tree_theory.specs.Stream.{head_bytes, below_bytes, key_bytes, row_stream, held_stream, stream_of}
use Rattle.merkle_tree_theory.specs.Tree.{page, Row, high, node, Held, nothing, below}
use Rattle.merkle_tree_theory.specs.TreeOf.{any_at, row_of, gap_of}
use Rattle.merkle_tree_theory.specs.declared.page_format.PageFormat.TheVariants.{V2}
use Rattle.store_tree.specs.Cells.{bytes_order, KeyDigests, AreUnder, IsPageWith, held_within}
use Rattle.store_tree.specs.Pages.{gap_between, Tells, TellsNodes, known_bytes, known_count, nodes_count, nodes_stream, digest_by_nodes, known_by, known_of}
use Rattle.store_tree.specs.declared.cell.Known.{Known}
use Rattle.store_tree.specs.declared.cell.Known.TheVariants.{Unknown, Nothing, Page as ThePage}
use Rattle.store_tree.specs.declared.page.Node.{Node}
use Rattle.store_tree.specs.declared.page.Page.{Page}
use Rattle.store_tree.proofs.Parts.{front_within, back_within}
use Rattle.store_tree.proofs.Runs.{gap_of-top, gap_of-under, row_of-ends, row_of-goes}

not_same : (a b : ℕ) → a < b → (a == b) ≡ false
not_same a b low = grind arith

tests_same : (a b : ℕ) → a ≡ b → (a == b) ≡ true
tests_same a b e = grind arith

pub none_at : (lev : List ℕ → ℕ) (l j : ℕ) (ps : KeyDigests) → l ≤ j → AreUnder lev l ps → any_at lev j ps ≡ false
none_at lev l j [] h u = refl
none_at lev l j (p ∷ ps) h u = rw (not_same (lev p.0) j (omega (arith, h, u.0))) (none_at lev l j ps h u.1)

pub any_middle : (lev : List ℕ → ℕ) (l : ℕ) (xs : KeyDigests) (p : List ℕ × List ℕ) (ys : KeyDigests) → lev p.0 ≡ l → any_at lev l (xs ++ p ∷ ys) ≡ true
any_middle lev l [] p ys on = rw (tests_same (lev p.0) l on) refl
any_middle lev l (x ∷ xs) p ys on = by (lev x.0 == l) (any_middle lev l xs p ys on)
  where
    by : (b : Bool) → any_at lev l (xs ++ p ∷ ys) ≡ true → b || any_at lev l (xs ++ p ∷ ys) ≡ true
    by true f = refl
    by false f = f

pub held_count : (k : Known) (h : Held (List ℕ) (List ℕ)) → Tells k h → length (held_pairs h) ≡ known_count k
held_count Unknown h t = absurd t
held_count Nothing h t = ap (λ (g : Held (List ℕ) (List ℕ)). length (held_pairs g)) t
held_count (ThePage digest count) nothing t = absurd t
held_count (ThePage digest count) (below s) t = t.1

module _ (lev : List ℕ → ℕ) (m : KeyDigests) (up : IsMap bytes_order m) (low : (key : List ℕ) → lev key < 256) (level : ℕ) (few : level < 256) where
  -- the row of such nodes
  abbrev pub row_told : Option (List ℕ) → Option (List ℕ) → List Node → Row (List ℕ) (List ℕ)
  row_told after before [] = high (held_within lev m (gap_between after before))
  row_told after before (n ∷ ns) = node (held_within lev m (gap_between after (Some (string_bytes n.key)))) (string_bytes n.key) n.digest (row_told (Some (string_bytes n.key)) before ns)

  pub lower_held : (ps : KeyDigests) → AreUnder lev level ps → gap_of lev level ps ≡ gap_of lev 256 ps
  lower_held ps under = sym (gap_of-under lev 256 level ps (omega (arith, few)) under)

  row_is : (after before : Option (List ℕ)) (ns : List Node) (last : Known) → TellsNodes lev m level after before ns last
      → row_of lev (gap_of lev level) level [] (pairs_within bytes_order (gap_between after before) m) ≡ row_told after before ns
  row_is after before [] last (told, under) =
      row_of-ends lev (gap_of lev level) level [] (pairs_within bytes_order (gap_between after before) m)
      (none_at lev level level (pairs_within bytes_order (gap_between after before) m) (omega arith) under)
      ∙ ap (λ h. high h) (lower_held (pairs_within bytes_order (gap_between after before) m) under)
  row_is after before (n ∷ ns) last ((told, under), (front, back, is), on, rest) =
      let key = string_bytes n.key in
      let gap = gap_between after before in
      let first : pairs_within bytes_order (part_before gap key) m ≡ front = front_within bytes_order nat_list_cmp_total gap m up front (key, n.digest) back is in
      let second : pairs_within bytes_order (part_behind gap key) m ≡ back = back_within bytes_order nat_list_cmp_total gap m up front (key, n.digest) back is in
      let less : AreUnder lev level front = subst (AreUnder lev level) first under in
      let held : gap_of lev level front ≡ held_within lev m (gap_between after (Some key)) = lower_held front less ∙ ap (gap_of lev 256) (sym first) in
      let others : row_of lev (gap_of lev level) level [] back ≡ row_told (Some key) before ns = ap (row_of lev (gap_of lev level) level []) (sym second) ∙ row_is (Some key) before ns last rest in
      ap (row_of lev (gap_of lev level) level []) is
      ∙ row_of-goes lev (gap_of lev level) level [] front (key, n.digest) back (none_at lev level level front (omega arith) less) on
      ∙ (λ i. node (held i) key n.digest (others i))

  held_bytes : (k : Known) (h : Held (List ℕ) (List ℕ)) → Tells k h → held_stream V2 (λ bytes. bytes) h ≡ known_bytes k
  held_bytes Unknown h t = absurd t
  held_bytes Nothing h t = ap (held_stream V2 (λ bytes. bytes)) t
  held_bytes (ThePage digest count) nothing t = absurd t
  held_bytes (ThePage digest count) (below s) t = ap (below_bytes V2) t.0

  row_bytes : (after before : Option (List ℕ)) (ns : List Node) (last : Known) → TellsNodes lev m level after before ns last
      → row_stream V2 (λ bytes. bytes) (row_told after before ns) ≡ nodes_stream ns last
  row_bytes after before [] last (told, under) = held_bytes last (held_within lev m (gap_between after before)) told
  row_bytes after before (n ∷ ns) last ((told, under), has, on, rest) =
      λ i. held_bytes n.before (held_within lev m (gap_between after (Some (string_bytes n.key)))) told i ++ key_bytes V2 (string_bytes n.key) ++ n.digest
      ++ row_bytes (Some (string_bytes n.key)) before ns last rest i

  row_count : (after before : Option (List ℕ)) (ns : List Node) → length (row_nodes (row_told after before ns)) ≡ length ns
  row_count after before [] = refl
  row_count after before (n ∷ ns) = ap suc (row_count (Some (string_bytes n.key)) before ns)

  row_keys : (after before : Option (List ℕ)) (ns : List Node) (last : Known) → TellsNodes lev m level after before ns last → length (row_pairs (row_told after before ns)) ≡ nodes_count ns last
  row_keys after before [] last (told, under) = held_count last (held_within lev m (gap_between after before)) told
  row_keys after before (n ∷ ns) last ((told, under), has, on, rest) =
      let key = string_bytes n.key in
      let held = held_within lev m (gap_between after (Some key)) in
      length-append (held_pairs held) ((key, n.digest) ∷ row_pairs (row_told (Some key) before ns))
      ∙ (λ i. held_count n.before held told i + suc (row_keys (Some key) before ns last rest i))

  -- all keys of the gap are on the level or below it
  abbrev AreUpto : KeyDigests → Type 0
  AreUpto = AreUnder lev (suc level)

  weaker : (ps : KeyDigests) → AreUnder lev level ps → AreUpto ps
  weaker [] a = tt
  weaker (p ∷ ps) a = (omega (arith, a.0), weaker ps a.1)

  all_upto : (after before : Option (List ℕ)) (ns : List Node) (last : Known) → TellsNodes lev m level after before ns last → AreUpto (pairs_within bytes_order (gap_between after before) m)
  all_upto after before [] last (told, under) = weaker (pairs_within bytes_order (gap_between after before) m) under
  all_upto after before (n ∷ ns) last ((told, under), (front, back, is), on, rest) =
      let key = string_bytes n.key in
      let gap = gap_between after before in
      let first : pairs_within bytes_order (part_before gap key) m ≡ front = front_within bytes_order nat_list_cmp_total gap m up front (key, n.digest) back is in
      let second : pairs_within bytes_order (part_behind gap key) m ≡ back = back_within bytes_order nat_list_cmp_total gap m up front (key, n.digest) back is in
      let here : lev key < suc level = omega (arith, on) in
      subst AreUpto (sym is) (each-append (λ (p : List ℕ × List ℕ). lev p.0 < suc level) front ((key, n.digest) ∷ back) (weaker front (subst (AreUnder lev level) first under))
      (here, subst AreUpto second (all_upto (Some key) before ns last rest)))

  -- what stands in the gap is the page of such nodes
  pub page_of_nodes : (after before : Option (List ℕ)) (n : Node) (ns : List Node) (last : Known) → TellsNodes lev m level after before (n ∷ ns) last
      → held_within lev m (gap_between after before) ≡ below (page level None (row_told after before (n ∷ ns)))
  page_of_nodes after before n ns last ((told, under), (front, back, is), on, rest) =
      let are : TellsNodes lev m level after before (n ∷ ns) last = ((told, under), (front, back, is), on, rest) in
      let ps : KeyDigests = pairs_within bytes_order (gap_between after before) m in
      let any : any_at lev level ps ≡ true = ap (any_at lev level) is ∙ any_middle lev level front (string_bytes n.key, n.digest) back on in
      let above : (j : ℕ) → level < j → j < 256 → any_at lev j ps ≡ false =
      λ j high upto. none_at lev (suc level) j ps (omega (arith, high)) (all_upto after before (n ∷ ns) last are) in
      gap_of-top lev 256 level ps few any above ∙ ap (λ r. below (page level None r)) (row_is after before (n ∷ ns) last are)

  -- what is known of the page of such nodes is all that the map has in the gap
  pub page_told : (after before : Option (List ℕ)) (p : Page) → TellsNodes lev m level after before p.nodes.items p.last → Tells (known_of level p) (held_within lev m (gap_between after before))
  page_told after before p nodes = by p.nodes.items refl nodes
    where
      by : (ns : List Node) → p.nodes.items ≡ ns → TellsNodes lev m level after before ns p.last → Tells (known_by level p ns) (held_within lev m (gap_between after before))
      by [] none are = are.0
      by (n ∷ ns) some are =
          let row = row_told after before (n ∷ ns) in
          let whole : held_within lev m (gap_between after before) ≡ below (page level None row) = page_of_nodes after before n ns p.last are in
          let stream : stream_of V2 (λ bytes. bytes) (page level None row) ≡ head_bytes V2 level (length (n ∷ ns)) ++ nodes_stream (n ∷ ns) p.last =
          (λ i. head_bytes V2 level (row_count after before (n ∷ ns) i) ++ row_bytes after before (n ∷ ns) p.last are i) in
          let same : head_bytes V2 level (length (n ∷ ns)) ++ nodes_stream (n ∷ ns) p.last ≡ head_bytes V2 level (length p.nodes.items) ++ nodes_stream p.nodes.items p.last =
          ap (λ xs. head_bytes V2 level (length xs) ++ nodes_stream xs p.last) (sym some) in
          let keys : length (row_pairs row) ≡ nodes_count p.nodes.items p.last = row_keys after before (n ∷ ns) p.last are ∙ ap (λ xs. nodes_count xs p.last) (sym some) in
          subst (λ h. IsPageWith (digest_by_nodes level p) (nodes_count p.nodes.items p.last) h) (sym whole) (ap (siphash128 zero_key) (stream ∙ same), keys)
