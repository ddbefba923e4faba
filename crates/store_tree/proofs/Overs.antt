-- The page over a gap, from its place.
use Rattle.std.proofs.Common.{◌≡◌, ◌<◌, ◌≤◌, ℕ, suc, Bool, true, false, if◌then◌else◌, List, [], ◌∷◌, map, Option, Some, None, refl, sym, ap, subst, ◌∙◌, ◌⊎◌, inl, inr, arith, string_bytes}
use Rattle.std.specs.Prelude.{nat_le}
use Rattle.std.specs.Global.{Vec}
use Rattle.key_order.specs.Text.{Text}
use Rattle.merkle_tree_theory.specs.Gap.{Gap, everywhere, is_after, is_before, pairs_within}
use Rattle.merkle_tree_theory.specs.Lookup.{held_over, page_over}
use Rattle.merkle_tree_theory.specs.Stream.{page_digest}
use Rattle.merkle_tree_theory.specs.Tree.{Tree, Held, nothing, below}
use Rattle.merkle_tree_theory.specs.declared.page_format.PageFormat.TheVariants.{V2}
use Rattle.merkle_tree_theory.specs.TreeOf.{gap_of, root_of, tree_of}
use Rattle.std.specs.Option.{option_map}
use Rattle.sqlite_value.specs.Order.{Row}
use Rattle.store_tree.specs.Cells.{bytes_order, AreUnder, KeyDigests, HoldsCells, IsGapOf, held_within, pairs_from}
use Rattle.store_tree.specs.Filling.{FillsPage}
use Rattle.store_tree.specs.Maps.{ArePairsIn, IsLeafOf, bytes_pair}
use Rattle.store_tree.specs.Calls.{SaysPage}
use Rattle.store_tree.specs.Overs.{FindsLeaf, FindsOver, TellsOver, is_first_in}
use Rattle.store_tree.specs.Pages.{TellsNodes, Tells, gap_between, known_of}
use Rattle.store_tree.specs.Places.{IsPlaceOver, HasPageThere, LeadsTo, gap_at, part_over}
use Rattle.store_tree.specs.Rows.{bound_bytes}
use Rattle.store_tree.specs.declared.cell.Known.{Known}
use Rattle.store_tree.specs.declared.cell.Known.TheVariants.{Unknown, Nothing, Page as ThePage}
use Rattle.store_tree.specs.declared.over.PageOver.{PageOver}
use Rattle.store_tree.specs.declared.place.Place.{Place}
use Rattle.store_tree.proofs.Filling.{leaf_filled, nothing_there, still, weaker_bound}
use Rattle.store_tree.proofs.Parts.{whole}
use Rattle.store_tree.proofs.Fronts.{Front}
use Rattle.store_tree.proofs.Paging.{page_told}
use Rattle.store_tree.proofs.Placing.{PartsAt, parts_of}
use Rattle.store_tree.proofs.Remaining.{Remains}

pub first_goes : (g : Gap (List ℕ)) (p : Text × List ℕ) (ps : List (Text × List ℕ)) → is_after bytes_order g.after (string_bytes p.0) ≡ false → is_first_in g (p ∷ ps) ≡ is_first_in g ps
first_goes g p ps e = rw e refl

pub first_here : (g : Gap (List ℕ)) (p : Text × List ℕ) (ps : List (Text × List ℕ)) → is_after bytes_order g.after (string_bytes p.0) ≡ true
    → is_first_in g (p ∷ ps) ≡ is_before bytes_order g.before (string_bytes p.0)
first_here g p ps e = rw e refl

pub ruleset firsts = (first_goes, first_here)

-- what has no keys is nothing
none_there : (lev : List ℕ → ℕ) (ps : KeyDigests) → AreUnder lev 0 ps → gap_of lev 256 ps ≡ nothing
none_there lev [] a = nothing_there lev 256
none_there lev (p ∷ ps) a = absurd (omega (arith, a.0))

-- of whatever map that is held the rows are the gaps, they stay those, and this is so of its tree
abbrev pub ForTree : (KeyDigests → Type 0) → List Row → List Row → (Tree (List ℕ) (List ℕ) → Type 0) → Type 0
ForTree Holds old new Is = (lev : List ℕ → ℕ) (m : KeyDigests) → HoldsCells lev m old → Holds m → HoldsCells lev m new × Is (tree_of lev m)

-- what is over a gap in the tree of a map is what is over it in what the whole map stands in
pub over_whole : (lev : List ℕ → ℕ) (m : KeyDigests) (g : Gap (List ℕ)) → page_over bytes_order g (tree_of lev m) ≡ held_over bytes_order g (held_within lev m everywhere)
unfolding tree_of
over_whole lev m g = by (gap_of lev 256 m) ∙ ap (λ ps. held_over bytes_order g (gap_of lev 256 ps)) (sym (whole m))
  where
    by : (h : Held (List ℕ) (List ℕ)) → page_over bytes_order g (root_of h) ≡ held_over bytes_order g h
    by nothing = refl
    by (below t) = refl

module _ (Holds : KeyDigests → Type 0) (g : Gap (List ℕ)) (old new : List Row) (place : Place) where
  pub over_above : (level : ℕ) (o : PageOver) → IsPlaceOver g old place → place.level ≡ suc level → 1 < place.level → o.place ≡ place → o.level ≡ level
      → FillsPage Holds old new level (bound_bytes place.front) (bound_bytes place.before) o.page → FindsOver Holds g old new (Some o)
  over_above level o is at high there_is level_is fills lev m h held = by (is lev m h)
    where
      by : LeadsTo lev m g h.top place × ((place.level ≤ 1) ⊎ HasPageThere lev m g place) → HoldsCells lev m new × TellsOver lev m g (Some o)
      by (l, inl low) = absurd (omega (arith, low, high))
      by (l, inr (t, there, over)) =
          let gap : IsGapOf lev m (suc level) (bound_bytes place.front) (gap_at place) = subst (λ j. IsGapOf lev m j (bound_bytes place.front) (gap_at place)) at l.gap in
          let (now, top, nodes) = fills lev m h held (omega arith) (omega (arith, l.level, at)) gap in
          let nodes_are : TellsNodes lev m o.level (bound_bytes o.place.front) (bound_bytes o.place.before) o.page.nodes.items o.page.last =
          subst (λ (p : Place). TellsNodes lev m o.level (bound_bytes p.front) (bound_bytes p.before) o.page.nodes.items o.page.last) (sym there_is)
          (subst (λ j. TellsNodes lev m j (bound_bytes place.front) (bound_bytes place.before) o.page.nodes.items o.page.last) (sym level_is) nodes) in
          (now, (t, over_whole lev m g ∙ l.over ∙ over, subst (λ (p : Place). held_within lev m (gap_at p) ≡ below t) (sym there_is) there, nodes_are))

  pub over_none : IsPlaceOver g old place → place.level ≡ 0 → new ≡ old → FindsOver Holds g old new None
  over_none is low same lev m h held =
      let l = (is lev m h).0 in
      let under : AreUnder lev 0 (pairs_within bytes_order (gap_at place) m) = subst (λ j. AreUnder lev j (pairs_within bytes_order (gap_at place) m)) low l.gap.under in
      ((still lev m old new h same).now, over_whole lev m g ∙ l.over ∙ ap (held_over bytes_order g) (none_there lev (pairs_within bytes_order (gap_at place) m) under))

  pub over_leaf : (found : Option PageOver) → IsPlaceOver g old place → place.level ≡ 1 → FindsLeaf Holds g old new place found → FindsOver Holds g old new found
  over_leaf found is low leaf lev m h held = leaf lev m h held low (is lev m h).0

-- ---- at level 0

from_zero : (lev : List ℕ → ℕ) (m : KeyDigests) → pairs_from lev m 0 ≡ m
from_zero lev [] = refl
from_zero lev (p ∷ ps) = rw (any_le (lev p.0)) (ap (λ qs. p ∷ qs) (from_zero lev ps))
  where
    any_le : (n : ℕ) → nat_le 0 n ≡ true
    any_le n = grind arith

abbrev IsPart : Bool → Option (Gap (List ℕ)) → Type 0
IsPart b found = (b ≡ true → found ≡ None) × (b ≡ false → (gap : Gap (List ℕ)) × (found ≡ Some gap))

part_by : (g : Gap (List ℕ)) (pairs : List (Text × List ℕ)) (front before : Front) → IsPart (is_first_in g pairs) (part_over g front before (map (λ q. Some q.0) (map bytes_pair pairs)))
part_by g [] front before = (λ e. absurd (let never = e in cc), λ e. (gap_between front before, refl))
part_by g (p ∷ ps) front before = by (is_after bytes_order g.after (string_bytes p.0)) (is_before bytes_order g.before (string_bytes p.0)) (part_by g ps (Some (string_bytes p.0)) before)
  where
    by : (b c : Bool) → IsPart (is_first_in g ps) (part_over g (Some (string_bytes p.0)) before (map (λ q. Some q.0) (map bytes_pair ps)))
        → IsPart (if b then c else (is_first_in g ps))
        (if b then (if c then None else (Some (gap_between front (Some (string_bytes p.0))))) else (part_over g (Some (string_bytes p.0)) before (map (λ q. Some q.0) (map bytes_pair ps))))
    by true true rest = (λ e. refl, λ e. absurd (let never = e in cc))
    by true false rest = (λ e. absurd (let never = e in cc), λ e. (gap_between front (Some (string_bytes p.0)), refl))
    by false c rest = rest

module _ (lev : List ℕ → ℕ) (m : KeyDigests) (g : Gap (List ℕ)) (place : Place) where
  -- what stands in a place of level 1 is the page over a gap if the first pair above where the gap begins is in it, else none is there
  leaf_parts : (old : List Row) (h : HoldsCells lev m old) → place.level ≡ 1 → LeadsTo lev m g h.top place → (pairs : List (Text × List ℕ))
      → map bytes_pair pairs ≡ pairs_within bytes_order (gap_at place) m
      → PartsAt lev m 0 g (bound_bytes place.front) (bound_bytes place.before) (part_over g (bound_bytes place.front) (bound_bytes place.before) (map (λ q. Some q.0) (map bytes_pair pairs)))
  leaf_parts old h low l pairs are =
      let gap : IsGapOf lev m 1 (bound_bytes place.front) (gap_at place) = subst (λ j. IsGapOf lev m j (bound_bytes place.front) (gap_at place)) low l.gap in
      let r : Remains lev m h.ascending 0 (bound_bytes place.front) (bound_bytes place.before) =
      record { begins = weaker_bound lev m 0 (bound_bytes place.front) gap.begins; ends = weaker_bound lev m 0 (bound_bytes place.before) gap.before; proper = gap.proper; upto = gap.under } in
      parts_of lev m h.ascending h.low 0 (omega arith) g (map bytes_pair pairs) (bound_bytes place.front) (bound_bytes place.before) r
      (ap (pairs_within bytes_order (gap_at place)) (from_zero lev m) ∙ sym are)

module _ (Holds : KeyDigests → Type 0) (g : Gap (List ℕ)) (old new : List Row) (place : Place) (pairs : Vec (Text × List ℕ)) (same : new ≡ old) (are : ArePairsIn Holds (gap_at place) pairs) where
  pub leaf_none : is_first_in g pairs.items ≡ false → FindsLeaf Holds g old new place None
  leaf_none e lev m h held low l =
      let f = bound_bytes place.front in
      let b = bound_bytes place.before in
      let (gap, is) = (part_by g pairs.items f b).1 e in
      let (is_gap, over) = subst (PartsAt lev m 0 g f b) is (leaf_parts lev m g place old h low l pairs.items (are m held)) in
      ((still lev m old new h same).now, over_whole lev m g ∙ l.over ∙ over ∙ ap (held_over bytes_order g) (none_there lev (pairs_within bytes_order gap m) is_gap.under))

  pub leaf_some : (o : PageOver) → is_first_in g pairs.items ≡ true → o.place ≡ place → o.level ≡ 0 → IsLeafOf pairs.items o.page → FindsLeaf Holds g old new place (Some o)
  leaf_some o e there_is level_is leaf lev m h held low l =
      let f = bound_bytes place.front in
      let b = bound_bytes place.before in
      let (t, there, over) = subst (PartsAt lev m 0 g f b) ((part_by g pairs.items f b).0 e) (leaf_parts lev m g place old h low l pairs.items (are m held)) in
      let gap : IsGapOf lev m 1 f (gap_at place) = subst (λ j. IsGapOf lev m j f (gap_at place)) low l.gap in
      let (now, top, nodes) = leaf_filled Holds old new f b pairs o.page same are leaf lev m h held (omega arith) (omega (arith, l.level, low)) gap in
      let nodes_are : TellsNodes lev m o.level (bound_bytes o.place.front) (bound_bytes o.place.before) o.page.nodes.items o.page.last =
      subst (λ (p : Place). TellsNodes lev m o.level (bound_bytes p.front) (bound_bytes p.before) o.page.nodes.items o.page.last) (sym there_is)
      (subst (λ j. TellsNodes lev m j f b o.page.nodes.items o.page.last) (sym level_is) nodes) in
      (now, (t, over_whole lev m g ∙ l.over ∙ over, subst (λ (p : Place). held_within lev m (gap_at p) ≡ below t) (sym there_is) there, nodes_are))

-- ---- its digest

pub none_else : {X : Type 0} (found : Option X) → ((x : X) → found ≡ Some x → ⊥) → found ≡ None
none_else None never = refl
none_else (Some x) never = absurd (never x refl)

none_some : {X : Type 0} {x : X} → None ≡ Some x → ⊥
none_some e = let never = e in cc

same_some : {X : Type 0} {x y : X} → Some x ≡ Some y → x ≡ y
same_some e = let h = e in cc

-- the digest of a page that is told
digest_told : (lev : List ℕ → ℕ) (m : KeyDigests) (o : PageOver) (rows : List Row) → HoldsCells lev m rows → o.level < 256 → (t : Tree (List ℕ) (List ℕ))
    → held_within lev m (gap_at o.place) ≡ below t → TellsNodes lev m o.level (bound_bytes o.place.front) (bound_bytes o.place.before) o.page.nodes.items o.page.last
    → Tells (known_of o.level o.page) (below t)
digest_told lev m o rows h few t there nodes =
    subst (Tells (known_of o.level o.page)) there
    (page_told lev m h.ascending h.low o.level few (bound_bytes o.place.front) (bound_bytes o.place.before) o.page nodes)

module _ (Holds : KeyDigests → Type 0) (g : Gap (List ℕ)) (old new : List Row) (digest : List ℕ) where
  over_none_says : (t : Tree (List ℕ) (List ℕ)) → page_over bytes_order g t ≡ None → SaysPage g digest false t
  over_none_says t none = λ some. none_some (ap (option_map (λ page. page_digest V2 (λ bytes. bytes) page)) (sym none) ∙ some)

  pub no_page : FindsOver Holds g old new None → ForTree Holds old new (SaysPage g digest false)
  no_page is lev m h held = let (now, none) = is lev m h held in (now, over_none_says (tree_of lev m) none)

  pub page_is : (o : PageOver) (d : List ℕ) (n : ℕ) (is : Bool) → o.level < 256 → known_of o.level o.page ≡ ThePage d n → (is ≡ true → d ≡ digest) → (is ≡ false → d ≡ digest → ⊥)
      → FindsOver Holds g old new (Some o) → ForTree Holds old new (SaysPage g digest is)
  page_is o d n is few known same_is other_is over lev m h held =
      let (now, (t, some, there, nodes)) = over lev m h held in
      let told : page_digest V2 (λ bytes. bytes) t ≡ d = (subst (λ k. Tells k (below t)) known (digest_told lev m o old h few t there nodes)).0 in
      (now, by is same_is other_is (tree_of lev m) t some told)
    where
      by : (is : Bool) → (is ≡ true → d ≡ digest) → (is ≡ false → d ≡ digest → ⊥) → (whole t : Tree (List ℕ) (List ℕ)) → page_over bytes_order g whole ≡ Some t
          → page_digest V2 (λ bytes. bytes) t ≡ d → SaysPage g digest is whole
      by true same_is other_is whole t some told = ap (option_map (λ page. page_digest V2 (λ bytes. bytes) page)) some ∙ ap Some (told ∙ same_is refl)
      by false same_is other_is whole t some told =
          λ same. other_is refl (sym told ∙ same_some (ap (option_map (λ page. page_digest V2 (λ bytes. bytes) page)) (sym some) ∙ same))

  -- what stands in a gap with a page is a page
  pub page_isn't : (o : PageOver) (k : Known) → o.level < 256 → known_of o.level o.page ≡ k → ((e : List ℕ) (n : ℕ) → k ≡ ThePage e n → ⊥)
      → FindsOver Holds g old new (Some o) → ForTree Holds old new (SaysPage g digest false)
  page_isn't o k few known never over lev m h held =
      let (now, (t, some, there, nodes)) = over lev m h held in
      absurd (by k t never (subst (λ k. Tells k (below t)) known (digest_told lev m o old h few t there nodes)))
    where
      by : (k : Known) (t : Tree (List ℕ) (List ℕ)) → ((e : List ℕ) (n : ℕ) → k ≡ ThePage e n → ⊥) → Tells k (below t) → ⊥
      by Unknown t never told = told
      by Nothing t never told = let e = told in cc
      by (ThePage e n) t never told = never e n refl
