-- What isn't known of gaps is filled in, cell by cell.
use Rattle.std.proofs.Common.{◌≡◌, ◌≢◌, ◌<◌, ◌≤◌, ◌+◌, ◌-◌, ℕ, zero, suc, List, [], ◌∷◌, ◌++◌, map, length, take, drop, get_or, Option, Some, None, refl, sym, ap, subst, ◌∙◌, append_assoc, append-nil, arith, string_bytes}
use Rattle.std.specs.Prelude.{nat_le, slice_get}
use Rattle.std.proofs.lemmas.List.{drop_more}
use Rattle.std.specs.Global.{Vec}
use Rattle.std.specs.List.{AllByRecursion}
use Rattle.std.specs.Cmp.Lexicographic.{nat_list_cmp_total}
use Rattle.key_order.specs.Map.{IsMap, get}
use Rattle.key_order.specs.Text.{Text}
use Rattle.merkle_tree_theory.specs.Gap.{Gap, everywhere, pairs_within, part_before, part_behind}
use Rattle.merkle_tree_theory.specs.Tree.{nothing}
use Rattle.merkle_tree_theory.specs.TreeOf.{gap_of}
use Rattle.sqlite_value.specs.Keys.{plain}
use Rattle.sqlite_value.specs.Order.{Row}
use Rattle.sqlite_trees.specs.Tree.{IsIndex}
use Rattle.sqlite_trees.proofs.ListLemmas.{all-filter}
use Rattle.store_tree.specs.Cells.{bytes_order, KeyDigests, AreUnder, HoldsCells, IsBoundAt, IsGapOf, Knows, fronts_of, held_within, pairs_from}
use Rattle.store_tree.specs.Filling.{AreScanned, FillsCell, FillsNodes, FillsPage, FindsRoot, IsAllKnown, IsNodeAt, Keeps, front_of}
use Rattle.store_tree.specs.Maps.{ArePairsIn, IsLeafOf, bytes_pair, leaf_node}
use Rattle.store_tree.specs.Pages.{TellsNodes, HasPair, Tells, TellsGap, gap_between, known_of}
use Rattle.store_tree.specs.Rows.{IsTop, cell_row, count_value, front_value, known_value, row_of_cell, rows_between, with_known}
use Rattle.store_tree.specs.Tables.{IsScan}
use Rattle.store_tree.specs.declared.cell.Cell.{Cell}
use Rattle.store_tree.specs.declared.cell.Known.{Known}
use Rattle.store_tree.specs.declared.cell.Known.TheVariants.{Unknown, Nothing}
use Rattle.store_tree.specs.declared.page.Node.{Node}
use Rattle.store_tree.specs.declared.page.Page.{Page}
use Rattle.store_tree.proofs.FrontOrder.{map_rows, same_front, same_known}
use Rattle.store_tree.proofs.Fronts.{Front}
use Rattle.store_tree.proofs.Noting.{all_knows, knows_all, noted_cells}
use Rattle.store_tree.proofs.Paging.{page_told}
use Rattle.store_tree.proofs.Parts.{back_within, front_within, whole}
use Rattle.store_tree.proofs.Places.{row_at}
use Rattle.store_tree.proofs.Remaining.{Remains, last_gap, next_gap}
use Rattle.store_tree.proofs.Scanned.{bound_front, fronts_from, scanned_rows, within_scan}
use Rattle.store_tree.proofs.Writing.{top_is}

-- ---- a cell

-- rows that stay hold what they held
pub record StillHolds (lev : List ℕ → ℕ) (m : KeyDigests) (old new : List Row) (h : HoldsCells lev m old) : Type 0 where
  pub now : HoldsCells lev m new
  pub top : now.top ≡ h.top

pub still : (lev : List ℕ → ℕ) (m : KeyDigests) (old new : List Row) (h : HoldsCells lev m old) → new ≡ old → StillHolds lev m old new h
still lev m old new h same = subst (λ rows. StillHolds lev m old rows h) (sym same) (record { now = h; top = refl })

-- what a cell knows is all that stands in its gap
pub cell_known : (Holds : KeyDigests → Type 0) (old new : List Row) (level : ℕ) (c : Cell) (before : Front) (k : Known) → c.known ≡ k → k ≢ Unknown → new ≡ old
    → FillsCell Holds old new level c before k
cell_known Holds old new level c before k is some same lev m h held from upto (gap, knows) =
    let s = still lev m old new h same in
    (s.now, s.top, knows_all lev m level (front_of c) k (gap_between (front_of c) before) gap some (subst (λ j. Knows lev m level j (front_of c)) is knows))

-- what was found out of a cell's page is noted
pub cell_filled : (Holds : KeyDigests → Type 0) (old mid new : List Row) (level : ℕ) (c : Cell) (before : Front) (p : Page) (k : Known) → IsIndex plain mid → level < 256
    → FillsPage Holds old mid level (front_of c) before p → k ≡ known_of level p → Keeps (suc level) (front_of c) before k mid new → FillsCell Holds old new (suc level) c before k
cell_filled Holds old mid new level c before p k sorted few fills is (first, more, scan_is, new_is) lev m h held from upto (gap, knows) =
    let (now, top, nodes) = fills lev m h held from upto gap in
    let told : Tells k (held_within lev m (gap_between (front_of c) before)) =
    subst (λ j. Tells j (held_within lev m (gap_between (front_of c) before))) (sym is) (page_told lev m now.ascending now.low level few (front_of c) before p nodes) in
    let high : suc level ≤ now.top = omega (arith, upto, top) in
    let on = now.levels (suc level) from high in
    let rows : row_of_cell first ∷ more ≡ row_at (suc level) on.known (front_of c) ∷ _ =
    sym scan_is ∙ scanned_rows lev m (suc level) mid on (front_of c) before (map_rows (λ key. nat_le (suc level) (lev key)) m now.ascending) gap.begins gap.proper in
    let same : row_at (suc level) on.known (front_of c) ≡ row_of_cell first = cc in
    let (then, then_top) = noted_cells lev m mid now sorted (suc level) from high (front_of c) gap.begins k
    (all_knows lev m (suc level) (front_of c) k (gap_between (front_of c) before) gap told) first same in
    let s = still lev m (with_known first k mid) new then new_is in
    (s.now, s.top ∙ then_top ∙ top, told)

-- ---- a page of level 0

pub nothing_there : (lev : List ℕ → ℕ) (n : ℕ) → gap_of {D = List ℕ} lev n [] ≡ nothing
nothing_there lev zero = refl
nothing_there lev (suc n) = nothing_there lev n

leaf_nodes : (lev : List ℕ → ℕ) (m : KeyDigests) (up : IsMap bytes_order m) (pairs : List (Text × List ℕ)) (after before : Front)
    → map bytes_pair pairs ≡ pairs_within bytes_order (gap_between after before) m
    → AreUnder lev 1 (pairs_within bytes_order (gap_between after before) m) → TellsNodes lev m 0 after before (map leaf_node pairs) Nothing
leaf_nodes lev m up [] after before is under =
    (ap (gap_of lev 256) (sym is) ∙ nothing_there lev 256, subst (AreUnder lev 0) is tt)
leaf_nodes lev m up (p ∷ pairs) after before is under =
    let key = string_bytes p.0 in
    let gap : Gap (List ℕ) = gap_between after before in
    let split : pairs_within bytes_order gap m ≡ (key, p.1) ∷ map bytes_pair pairs = sym is in
    let first : pairs_within bytes_order (part_before gap key) m ≡ [] = front_within bytes_order nat_list_cmp_total gap m up [] (key, p.1) (map bytes_pair pairs) split in
    let second : pairs_within bytes_order (part_behind gap key) m ≡ map bytes_pair pairs = back_within bytes_order nat_list_cmp_total gap m up [] (key, p.1) (map bytes_pair pairs) split in
    let all : AreUnder lev 1 ((key, p.1) ∷ map bytes_pair pairs) = subst (AreUnder lev 1) split under in (
      (ap (gap_of lev 256) first ∙ nothing_there lev 256, subst (AreUnder lev 0) (sym first) tt),
      ([], map bytes_pair pairs, split),
      omega (arith, all.0),
      leaf_nodes lev m up pairs (Some key) before (sym second) (subst (AreUnder lev 1) (sym second) all.1),
    )

pub leaf_filled : (Holds : KeyDigests → Type 0) (old new : List Row) (front before : Front) (pairs : Vec (Text × List ℕ)) (p : Page) → new ≡ old → ArePairsIn Holds (gap_between front before) pairs
    → IsLeafOf pairs.items p
    → FillsPage Holds old new 0 front before p
leaf_filled Holds old new front before pairs p same are leaf lev m h held from upto gap =
    let s = still lev m old new h same in
    let nodes : TellsNodes lev m 0 front before (map leaf_node pairs.items) Nothing = leaf_nodes lev m h.ascending pairs.items front before (are m held) gap.under in
    (s.now, s.top, subst (λ ns. TellsNodes lev m 0 front before ns p.last) (sym leaf.nodes) (subst (λ k. TellsNodes lev m 0 front before (map leaf_node pairs.items) k) (sym leaf.last) nodes))

-- ---- a scan

-- rows that are those of cells tell their fronts and what they know
record CellsAre (known : Front → Known) (cells : List Cell) (fs : List Front) : Type 0 where
  fronts : map front_of cells ≡ fs
  knowns : AllByRecursion (λ c. c.known ≡ known (front_of c)) cells

cells_are : (l : ℕ) (known : Front → Known) (cells : List Cell) (fs : List Front) → map row_of_cell cells ≡ map (row_at l known) fs → CellsAre known cells fs
cells_are l known [] [] e = record { fronts = refl; knowns = tt }
cells_are l known [] (f ∷ fs) e = absurd (let never = e in cc)
cells_are l known (c ∷ cells) [] e = absurd (let never = e in cc)
cells_are l known (c ∷ cells) (f ∷ fs) e =
    let rest : map row_of_cell cells ≡ map (row_at l known) fs = cc in
    let here : row_of_cell c ≡ cell_row l f (known f) = cc in
    let fronts : front_value (front_of c) ≡ front_value f = cc in
    let knowns : known_value c.known ≡ known_value (known f) = cc in
    let counts : count_value c.known ≡ count_value (known f) = cc in
    let same : front_of c ≡ f = same_front (front_of c) f fronts in
    let others = cells_are l known cells fs rest in
    record { fronts = λ i. same i ∷ others.fronts i; knowns = (same_known c.known (known f) knowns counts ∙ ap known (sym same), others.knowns) }

pub weaker_bound : (lev : List ℕ → ℕ) (m : KeyDigests) (l : ℕ) (b : Front) → IsBoundAt lev m (suc l) b → IsBoundAt lev m l b
weaker_bound lev m l None h = tt
weaker_bound lev m l (Some k) (has, on) = (has, omega (arith, on))

-- the cells of a scan of the gap of a front of the level above
pub are_scanned : (lev : List ℕ → ℕ) (m : KeyDigests) (rows : List Row) (h : HoldsCells lev m rows) (level : ℕ) → 1 ≤ level → suc level ≤ h.top → (front before : Front)
    → IsGapOf lev m (suc level) front (gap_between front before)
    → (cells : List Cell) → rows_between level front before rows ≡ map row_of_cell cells → AreScanned lev m level front before cells
are_scanned lev m rows h level from upto front before gap cells is =
    let on = h.levels level from (omega (arith, upto)) in
    let ps = pairs_from lev m level in
    let ps_up : IsMap bytes_order ps = map_rows (λ key. nat_le level (lev key)) m h.ascending in
    let begins : IsBoundAt lev m level front = weaker_bound lev m level front gap.begins in
    let fs : List Front = front ∷ map (λ p. Some p.0) (pairs_within bytes_order (gap_between front before) ps) in
    let are = cells_are level on.known cells fs (sym is ∙ scanned_rows lev m level rows on front before ps_up begins gap.proper) in
    let P : Front → Type 0 = λ f. Knows lev m level (on.known f) f in
    let right : AllByRecursion P fs =
    subst (AllByRecursion P) (fronts_from front before ps ps_up (bound_front lev m level rows on front begins) gap.proper) (all-filter P (within_scan front before) (fronts_of ps) on.right) in
    record {
      fronts = are.fronts;
      right = by on.known cells are.knowns (subst (AllByRecursion P) (sym are.fronts) right);
      begins = begins;
      ends = weaker_bound lev m level before gap.before;
      proper = gap.proper;
      upto = gap.under;
    }
  where
    by : (known : Front → Known) (cs : List Cell) → AllByRecursion (λ c. c.known ≡ known (front_of c)) cs → AllByRecursion (λ f. Knows lev m level (known f) f) (map front_of cs)
        → AllByRecursion (λ c. Knows lev m level c.known (front_of c)) cs
    by known [] a b = tt
    by known (c ∷ cs) a b = (subst (λ k. Knows lev m level k (front_of c)) (sym a.0) b.0, by known cs a.1 b.1)

pub page_filled : (Holds : KeyDigests → Type 0) (old mid new : List Row) (level most : ℕ) (front before : Front) (cells : Vec Cell) (p : Page) → 1 ≤ level → mid ≡ old
    → IsScan most (rows_between level front before old) cells
    → length cells.items < most → FillsNodes Holds mid new level cells.items before p → FillsPage Holds old new level front before p
page_filled Holds old mid new level most front before cells p low same scan few fills lev m h held from upto gap =
    let s = still lev m old mid h same in
    let all : rows_between level front before old ≡ map row_of_cell cells.items = scan.are ∙ ap (λ xs. map row_of_cell cells.items ++ xs) (scan.all few) ∙ append-nil (map row_of_cell cells.items) in
    let scanned = are_scanned lev m old h level low upto front before gap cells.items all in
    let (now, top, nodes) = fills front lev m s.now held low (omega (arith, upto, s.top)) scanned in
    (now, top ∙ s.top, nodes)

-- ---- the nodes of a scan

module _ (lev : List ℕ → ℕ) (m : KeyDigests) (up : IsMap bytes_order m) (level : ℕ) where
  remains : (front before : Front) (cells : List Cell) → AreScanned lev m level front before cells → Remains lev m up level front before
  remains front before cells s = record { begins = s.begins; ends = s.ends; proper = s.proper; upto = s.upto }

-- what is done of a scan: the nodes so far, and the cells that are left
abbrev pub SoFar : (KeyDigests → Type 0) → List Row → List Row → ℕ → List Cell → Front → List Node → Cell → List Cell → Type 0
SoFar Holds old now level all before done cell rest =
    (front : Front) (lev : List ℕ → ℕ) (m : KeyDigests) (h : HoldsCells lev m old) → Holds m → 1 ≤ level → level ≤ h.top → AreScanned lev m level front before all
    → (then : HoldsCells lev m now) × (then.top ≡ h.top) × AreScanned lev m level (front_of cell) before (cell ∷ rest)
    × ((ns : List Node) (last : Known) → TellsNodes lev m level (front_of cell) before ns last → TellsNodes lev m level front before (done ++ ns) last)

pub so_far_begins : (Holds : KeyDigests → Type 0) (old now : List Row) (level : ℕ) (all : List Cell) (before : Front) (cell : Cell) (rest : List Cell) → now ≡ old → all ≡ cell ∷ rest
    → SoFar Holds old now level all before [] cell rest
so_far_begins Holds old now level all before cell rest same is front lev m h held from upto s =
    let t = still lev m old now h same in
    let here : AreScanned lev m level front before (cell ∷ rest) = subst (AreScanned lev m level front before) is s in
    let fronts : front_of cell ∷ map front_of rest ≡ front ∷ map (λ p. Some p.0) (pairs_within bytes_order (gap_between front before) (pairs_from lev m level)) = here.fronts in
    let first : front ≡ front_of cell = cc in
    (t.now, t.top, subst (λ f. AreScanned lev m level f before (cell ∷ rest)) first here, λ ns last nodes. subst (λ f. TellsNodes lev m level f before ns last) (sym first) nodes)

pub so_far_goes : (Holds : KeyDigests → Type 0) (old now new : List Row) (level : ℕ) (all : List Cell) (before : Front) (done more : List Node) (cell next : Cell) (rest : List Cell) (k : Known)
    (node : Node)
    → SoFar Holds old now level all before done cell (next ∷ rest) → FillsCell Holds now new level cell (front_of next) k → IsNodeAt Holds k (front_of next) node → more ≡ done ++ node ∷ []
    → SoFar Holds old new level all before more next rest
so_far_goes Holds old now new level all before done more cell next rest k node was fills at more_is front lev m h held from upto s =
    let (then, top, left, goes) = was front lev m h held from upto s in
    let ps = pairs_from lev m level in
    let f = front_of cell in
    let gap : Gap (List ℕ) = gap_between f before in
    let r = remains lev m then.ascending level f before (cell ∷ (next ∷ rest)) left in
    by then top left goes r (pairs_within bytes_order gap ps) refl
  where
    by : (then : HoldsCells lev m now) → then.top ≡ h.top → (left : AreScanned lev m level (front_of cell) before (cell ∷ (next ∷ rest)))
        → ((ns : List Node) (last : Known) → TellsNodes lev m level (front_of cell) before ns last → TellsNodes lev m level front before (done ++ ns) last)
        → Remains lev m then.ascending level (front_of cell) before
        → (qs : KeyDigests) → pairs_within bytes_order (gap_between (front_of cell) before) (pairs_from lev m level) ≡ qs
        → (after : HoldsCells lev m new) × (after.top ≡ h.top) × AreScanned lev m level (front_of next) before (next ∷ rest)
        × ((ns : List Node) (last : Known) → TellsNodes lev m level (front_of next) before ns last → TellsNodes lev m level front before (more ++ ns) last)
    by then top left goes r [] none =
        absurd (let e : front_of cell ∷ (front_of next ∷ map front_of rest) ≡ front_of cell ∷ [] = left.fronts ∙ ap (λ xs. front_of cell ∷ map (λ p. Some p.0) xs) none in cc)
    by then top left goes r (q ∷ qs) some =
        let e : front_of cell ∷ (front_of next ∷ map front_of rest) ≡ front_of cell ∷ (Some q.0 ∷ map (λ p. Some p.0) qs) = left.fronts ∙ ap (λ xs. front_of cell ∷ map (λ p. Some p.0) xs) some in
        let next_is : front_of next ≡ Some q.0 = cc in
        let rest_is : map front_of rest ≡ map (λ p. Some p.0) qs = cc in
        let parted = next_gap lev m then.ascending level (front_of cell) before q qs r some in
        let whole : IsGapOf lev m level (front_of cell) (gap_between (front_of cell) (front_of next)) =
        subst (λ b. IsGapOf lev m level (front_of cell) (gap_between (front_of cell) b)) (sym next_is) parted.gap in
        let (after, after_top, told) = fills lev m then held from (omega (arith, upto, top)) (whole, left.right.0) in
        let key_is : string_bytes node.key ≡ q.0 = some_same (sym at.key ∙ next_is) in
        let digest_is : node.digest ≡ q.1 = some_same (sym (at.digest m held) ∙ ap (get bytes_order m) key_is ∙ parted.value) in
        let tells : TellsGap lev m level node.before (front_of cell) (Some (string_bytes node.key)) = (
          subst (λ j. Tells j (held_within lev m (gap_between (front_of cell) (Some (string_bytes node.key))))) (sym at.before)
              (subst (λ b. Tells k (held_within lev m (gap_between (front_of cell) b))) at.key told),
          subst (λ j. AreUnder lev level (pairs_within bytes_order (gap_between (front_of cell) (Some j)) m)) (sym key_is) parted.gap.under,
        ) in
        let has : HasPair (pairs_within bytes_order (gap_between (front_of cell) before) m) (string_bytes node.key, node.digest) =
        subst (λ (p : List ℕ × List ℕ). HasPair (pairs_within bytes_order (gap_between (front_of cell) before) m) p) (λ i. (sym key_is i, sym digest_is i)) parted.has in
        let on : lev (string_bytes node.key) ≡ level = ap lev key_is ∙ parted.on in
        let rest_scanned : AreScanned lev m level (Some q.0) before (next ∷ rest) =
        record {
          fronts = (λ i. next_is i ∷ rest_is i) ∙ ap (λ xs. Some q.0 ∷ map (λ p. Some p.0) xs) (sym parted.left);
          right = left.right.1;
          begins = parted.rest.begins;
          ends = parted.rest.ends;
          proper = parted.rest.proper;
          upto = parted.rest.upto;
        } in (
          after,
          after_top ∙ top,
          subst (λ b. AreScanned lev m level b before (next ∷ rest)) (sym next_is) rest_scanned,
          λ ns last nodes.
              let behind : TellsNodes lev m level (Some (string_bytes node.key)) before ns last = subst (λ b. TellsNodes lev m level b before ns last) at.key nodes in
              subst (λ xs. TellsNodes lev m level front before xs last) (sym (append_assoc done (node ∷ []) ns) ∙ ap (λ xs. xs ++ ns) (sym more_is)) (goes (node ∷ ns) last (tells, has, on, behind)),
        )
      where
        some_same : {X : Type 0} {x y : X} → Some x ≡ Some y → x ≡ y
        some_same h = let e = h in cc

pub so_far_ends : (Holds : KeyDigests → Type 0) (old now new : List Row) (level : ℕ) (all : List Cell) (before : Front) (p : Page) (cell : Cell) (rest : List Cell) → rest ≡ []
    → SoFar Holds old now level all before p.nodes.items cell rest → FillsCell Holds now new level cell before p.last → FillsNodes Holds old new level all before p
so_far_ends Holds old now new level all before p cell rest over was fills front lev m h held from upto s =
    let (then, top, left, goes) = was front lev m h held from upto s in
    let f = front_of cell in
    let r = remains lev m then.ascending level f before (cell ∷ rest) left in
    let e : front_of cell ∷ [] ≡ front_of cell ∷ map (λ p. Some p.0) (pairs_within bytes_order (gap_between f before) (pairs_from lev m level)) = ap (λ cs. front_of cell ∷ map front_of cs) (sym over)
    ∙ left.fronts in
    let none : [] ≡ map (λ p. Some p.0) (pairs_within bytes_order (gap_between f before) (pairs_from lev m level)) = cc in
    let gap = last_gap lev m then.ascending level f before r (empty (pairs_within bytes_order (gap_between f before) (pairs_from lev m level)) none) in
    let (after, after_top, told) = fills lev m then held from (omega (arith, upto, top)) (gap, left.right.0) in
    (after, after_top ∙ top, subst (λ xs. TellsNodes lev m level front before xs p.last) (append-nil p.nodes.items) (goes [] p.last (told, gap.under)))
  where
    empty : (qs : KeyDigests) → [] ≡ map (λ (p : List ℕ × List ℕ). Some p.0) qs → qs ≡ []
    empty [] e = refl
    empty (q ∷ qs) e = absurd (let never = e in cc)

-- ---- the whole map

pub root_filled : (Holds : KeyDigests → Type 0) (old mid new : List Row) (level : ℕ) (cells : Vec Cell) (c : Cell) (rest : List Cell) (k : Known) → IsTop old level → 1 ≤ level → mid ≡ old
    → cells.items ≡ c ∷ rest
    → IsScan 1 (rows_between level None None old) cells → FillsCell Holds mid new level c None k → FindsRoot Holds old new k
root_filled Holds old mid new level cells c rest k is low same some scan fills lev m h held =
    let top : h.top ≡ level = top_is lev m old h level is in
    let s = still lev m old mid h same in
    let upto : level ≤ h.top = omega (arith, top) in
    let on = h.levels level low upto in
    let rows : row_of_cell c ∷ (map row_of_cell rest ++ scan.more) ≡ row_at level on.known None ∷ _ =
    ap (λ xs. map row_of_cell xs ++ scan.more) (sym some) ∙ sym scan.are ∙ scanned_rows lev m level old on None None (map_rows (λ key. nat_le level (lev key)) m h.ascending) tt tt in
    let here : row_of_cell c ≡ cell_row level None (on.known None) = cc in
    let fronts : front_value (front_of c) ≡ front_value None = cc in
    let knowns : known_value c.known ≡ known_value (on.known None) = cc in
    let counts : count_value c.known ≡ count_value (on.known None) = cc in
    let front : front_of c ≡ None = same_front (front_of c) None fronts in
    let knows : Knows lev m level c.known (front_of c) =
    subst (λ f. Knows lev m level c.known f) (sym front) (subst (λ j. Knows lev m level j None) (sym (same_known c.known (on.known None) knowns counts)) on.right.0) in
    let gap : IsGapOf lev m level None (gap_between None None) =
    record { after = refl; begins = tt; before = tt; proper = tt; under = subst (AreUnder lev level) (sym (whole m)) (subst (λ l. AreUnder lev l m) top h.under) } in
    let gap_is : IsGapOf lev m level (front_of c) (gap_between (front_of c) None) = subst (λ f. IsGapOf lev m level f (gap_between f None)) (sym front) gap in
    let (now, now_top, told) = fills lev m s.now held low (omega (arith, upto, s.top)) (gap_is, knows) in
    (now, subst (λ f. Tells k (held_within lev m (gap_between f None))) front told)

-- a table without cells has the gaps of no key
pub root_none : (Holds : KeyDigests → Type 0) (old new : List Row) → IsTop old 0 → new ≡ old → FindsRoot Holds old new Nothing
root_none Holds old new is same lev m h held =
    let top : h.top ≡ 0 = top_is lev m old h 0 is in
    let s = still lev m old new h same in
    (s.now, none m (subst (λ l. AreUnder lev l m) top h.under))
  where
    none : (ps : KeyDigests) → AreUnder lev 0 ps → gap_of lev 256 (pairs_within bytes_order everywhere ps) ≡ nothing
    none [] a = nothing_there lev 256
    none (p ∷ ps) a = absurd (omega (arith, a.0))

-- ---- what is filled in of a map that more tables hold

pub cell_weaker : (Holds More : KeyDigests → Type 0) → ((m : KeyDigests) → Holds m → More m) → (old new : List Row) (level : ℕ) (c : Cell) (before : Front) (k : Known)
    → FillsCell More old new level c before k → FillsCell Holds old new level c before k
cell_weaker Holds More f old new level c before k fills lev m h held = fills lev m h (f m held)

pub nodes_weaker : (Holds More : KeyDigests → Type 0) → ((m : KeyDigests) → Holds m → More m) → (old new : List Row) (level : ℕ) (cells : List Cell) (before : Front) (p : Page)
    → FillsNodes More old new level cells before p
    → FillsNodes Holds old new level cells before p
nodes_weaker Holds More f old new level cells before p fills front lev m h held = fills front lev m h (f m held)

-- the first of cells and those after it
pub first_rest : (cells : List Cell) (c : Cell) → slice_get cells 0 ≡ Some c → cells ≡ c ∷ take (length cells - 1) (drop 1 cells)
first_rest [] c e = absurd (let never = e in cc)
first_rest (x ∷ xs) c e =
    let same : x ≡ c = cc in
    (λ i. same i ∷ sym (take_length xs) i) ∙ ap (λ n. c ∷ take n xs) (less (length xs))
  where
    less : (n : ℕ) → n ≡ suc n - 1
    less n = omega arith

    take_length : (ys : List Cell) → take (length ys) ys ≡ ys
    take_length [] = refl
    take_length (y ∷ ys) = ap (λ zs. y ∷ zs) (take_length ys)

pub next_rest : (xs : List Cell) (i : ℕ) (x : Cell) → i < length xs → x ≡ get_or xs i x → drop i xs ≡ x ∷ drop (i + 1) xs
next_rest xs i x low at = drop_more xs i x low ∙ ap (λ y. y ∷ drop (i + 1) xs) (sym at)

-- what is known of a cell is all that stands in its gap
pub all_known_filled : (Holds : KeyDigests → Type 0) (rows : List Row) (level : ℕ) (c : Cell) (before : Front) (found : Option Known) (k : Known) → IsAllKnown c.known found → found ≡ Some k
    → FillsCell Holds rows rows level c before k
all_known_filled Holds rows level c before None k is e = absurd (let never = e in cc)
all_known_filled Holds rows level c before (Some j) k (is, some) e = let same : j ≡ k = cc in cell_known Holds rows rows level c before k (is ∙ same) (λ none. some (same ∙ none)) refl
