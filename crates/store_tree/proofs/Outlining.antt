-- What is told of a map's tree: the digest of its root page, and the outline of the page over a gap.
use Rattle.std.proofs.Common.{◌≡◌, ◌<◌, ℕ, List, [], ◌∷◌, ◌++◌, map, Option, Some, None, refl, sym, ap, subst, ◌∙◌, arith, length, string_bytes}
use Rattle.key_order.specs.Map.{IsMap}
use Rattle.merkle_tree_theory.specs.Canonical.{IsGap}
use Rattle.merkle_tree_theory.specs.Gap.{Gap, everywhere, part_before, part_behind}
use Rattle.merkle_tree_theory.specs.Outline.{held_items, of_node, of_page, outline_of, outline_where, page_items, row_items}
use Rattle.merkle_tree_theory.specs.Stream.{page_digest}
use Rattle.merkle_tree_theory.specs.Tree.{Tree, page, high, node, Held, nothing, below}
use Rattle.merkle_tree_theory.specs.TreeOf.{gap_of, root_of, tree_of}
use Rattle.merkle_tree_theory.specs.declared.page_format.PageFormat.TheVariants.{V2}
use Rattle.merkle_tree_theory.proofs.TreeOf.{gap_of-canonical, gap_of-pairs}
use Rattle.sqlite_value.specs.Order.{Row}
use Rattle.sqlite_trees.specs.Tree.{Trees}
use Rattle.store_file.specs.declared.catalog.TheConstants.{CELLS}
use Rattle.store_tree.specs.Calls.{CountsKeys, IsRootDigest}
use Rattle.store_tree.specs.Cells.{bytes_order, AreUnder, KeyDigests, held_within}
use Rattle.store_tree.specs.Filling.{FindsRoot}
use Rattle.store_tree.specs.Outlines.{IsOutlineAt, IsOutlineOf, told_digest, told_items, told_node}
use Rattle.store_tree.specs.Overs.{FindsOver}
use Rattle.store_tree.specs.Pages.{TellsNodes, Tells, gap_between, known_count}
use Rattle.store_tree.specs.Rows.{bound_bytes}
use Rattle.store_tree.specs.declared.cell.Known.{Known}
use Rattle.store_tree.specs.declared.cell.Known.TheVariants.{Unknown, Nothing, Page as ThePage}
use Rattle.store_tree.specs.declared.outline.Outline.{Outline}
use Rattle.store_tree.specs.declared.over.PageOver.{PageOver}
use Rattle.store_tree.specs.declared.page.Node.{Node}
use Rattle.store_tree.proofs.Overs.{ForTree}
use Rattle.store_tree.proofs.Paging.{held_count, page_of_nodes, row_told}
use Rattle.store_tree.proofs.Parts.{whole}

-- ---- the root page

module _ (lev : List ℕ → ℕ) where
  root_item : (k : Known) (h : Held (List ℕ) (List ℕ)) → IsGap lev 256 h → Tells k h → IsRootDigest (told_digest k) (root_of h)
  root_item Unknown h gap told = absurd told
  root_item Nothing nothing gap told = refl
  root_item Nothing (below t) gap told = absurd (let never = told in cc)
  root_item (ThePage digest count) nothing gap told = absurd told
  root_item (ThePage digest count) (below (page l c (high h))) gap told = absurd gap.1
  root_item (ThePage digest count) (below (page l c (node h k d r))) gap told = ap (λ e. of_page everywhere e ∷ []) (sym told.0)

  all_under : ((key : List ℕ) → lev key < 256) → (ps : KeyDigests) → AreUnder lev 256 ps
  all_under low [] = tt
  all_under low (p ∷ ps) = (low p.0, all_under low ps)

  -- what is known of the whole map is the digest of its tree's root page
  root_is : ((key : List ℕ) → lev key < 256) → (m : KeyDigests) (k : Known) → Tells k (held_within lev m everywhere) → IsRootDigest (told_digest k) (tree_of lev m)
  unfolding tree_of
  root_is low m k told =
      root_item k (gap_of lev 256 m) (gap_of-canonical lev 256 256 (omega arith) m (all_under low m)) (subst (λ ps. Tells k (gap_of lev 256 ps)) (whole m) told)

pub root_told : (Holds : KeyDigests → Type 0) (old new : List Row) (k : Known) → FindsRoot Holds old new k → ForTree Holds old new (IsRootDigest (told_digest k))
root_told Holds old new k finds lev m h held = let (now, told) = finds lev m h held in (now, root_is lev h.low m k told)

-- ---- the number of keys

-- what is known of the whole map is how many keys it has
keys_counted : (lev : List ℕ → ℕ) → ((key : List ℕ) → lev key < 256) → (m : KeyDigests) (k : Known) → Tells k (held_within lev m everywhere) → known_count k ≡ length m
keys_counted lev low m k told =
    sym (held_count k (gap_of lev 256 m) (subst (λ ps. Tells k (gap_of lev 256 ps)) (whole m) told)) ∙ ap (length {A = List ℕ × List ℕ}) (gap_of-pairs lev 256 m (all_under lev low m))

pub root_counted : (hold : Trees → KeyDigests → Type 0) (old new : Trees) (k : Known) → FindsRoot (hold old) (old CELLS) (new CELLS) k → CountsKeys hold old new (known_count k)
root_counted hold old new k finds lev m h held = let (now, told) = finds lev m h held in (now, keys_counted lev h.low m k told)

-- ---- the page over a gap

abbrev digest_of_page : Tree (List ℕ) (List ℕ) → Option (List ℕ)
digest_of_page t = Some (page_digest V2 (λ bytes. bytes) t)

held_told : (g : Gap (List ℕ)) (k : Known) (h : Held (List ℕ) (List ℕ)) → Tells k h → held_items digest_of_page g h ≡ page_items g (told_digest k)
held_told g Unknown h told = absurd told
held_told g Nothing h told = ap (held_items digest_of_page g) told
held_told g (ThePage digest count) nothing told = absurd told
held_told g (ThePage digest count) (below t) told = ap (λ d. of_page g d ∷ []) told.0

module _ (lev : List ℕ → ℕ) (m : KeyDigests) (up : IsMap bytes_order m) (low : (key : List ℕ) → lev key < 256) (level : ℕ) (few : level < 256) where
  -- the items of a row of nodes in a gap, which may begin and end elsewhere than the gap of the page
  row_items_told : (g : Gap (List ℕ)) (after before : Option (List ℕ)) (ns : List Node) (last : Known) → TellsNodes lev m level after before ns last
      → row_items digest_of_page g (row_told lev m up low level few after before ns) ≡ told_items g (map told_node ns) (told_digest last)
  row_items_told g after before [] last (told, under) = held_told g last (held_within lev m (gap_between after before)) told
  row_items_told g after before (n ∷ ns) last ((told, under), has, on, rest) =
      let key = string_bytes n.key in
      λ i. held_told (part_before g key) n.before (held_within lev m (gap_between after (Some key))) told i
      ++ of_node key n.digest ∷ row_items_told (part_behind g key) (Some key) before ns last rest i

  page_items_told : (g : Gap (List ℕ)) (after before : Option (List ℕ)) (n : Node) (ns : List Node) (last : Known) → TellsNodes lev m level after before (n ∷ ns) last
      → (t : Tree (List ℕ) (List ℕ)) → held_within lev m (gap_between after before) ≡ below t
      → outline_of V2 (λ bytes. bytes) g t ≡ told_items g (map told_node (n ∷ ns)) (told_digest last)
  page_items_told g after before n ns last nodes t there =
      let whole_page : t ≡ page level None (row_told lev m up low level few after before (n ∷ ns)) =
      same_below t (page level None (row_told lev m up low level few after before (n ∷ ns))) (sym there ∙ page_of_nodes lev m up low level few after before n ns last nodes) in
      ap (outline_of V2 (λ bytes. bytes) g) whole_page ∙ row_items_told g after before (n ∷ ns) last nodes
    where
      same_below : (t u : Tree (List ℕ) (List ℕ)) → below t ≡ below u → t ≡ u
      same_below t u e = let same = e in cc

module _ (Holds : KeyDigests → Type 0) (g : Gap (List ℕ)) (old new : List Row) where
  pub none_told : FindsOver Holds g old new None → ForTree Holds old new (IsOutlineAt g None)
  none_told finds lev m h held = let (now, none) = finds lev m h held in (now, ap (outline_where V2 (λ bytes. bytes) g) (sym none))

  pub page_told_over : (o : PageOver) (n : Node) (ns : List Node) (told : Outline) → o.level < 256 → o.page.nodes.items ≡ n ∷ ns → IsOutlineOf o.page told
      → FindsOver Holds g old new (Some o) → ForTree Holds old new (IsOutlineAt g (Some told))
  page_told_over o n ns told few some is finds lev m h held =
      let (now, (t, over, there, nodes)) = finds lev m h held in
      let after = bound_bytes o.place.front in
      let before = bound_bytes o.place.before in
      let nodes_are : TellsNodes lev m o.level after before (n ∷ ns) o.page.last = subst (λ (xs : List Node). TellsNodes lev m o.level after before xs o.page.last) some nodes in
      let items : outline_of V2 (λ bytes. bytes) g t ≡ told_items g (map told_node (n ∷ ns)) (told_digest o.page.last) =
      page_items_told lev m h.ascending h.low o.level few g after before n ns o.page.last nodes_are t there in
      let same : told_items g told.nodes.items told.last ≡ told_items g (map told_node (n ∷ ns)) (told_digest o.page.last) =
      (λ i. told_items g ((is.nodes ∙ ap (map told_node) some) i) (is.last i)) in
      (now, same ∙ sym items ∙ ap (outline_where V2 (λ bytes. bytes) g) (sym over))
