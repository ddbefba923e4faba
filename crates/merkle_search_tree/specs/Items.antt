-- Gaps and items of an outline as contracts see them.
use Rattle.std.specs.Prelude.{List, Option, map}
use Rattle.std.specs.Option.{option_map}
use denote.Ref.{Bor}
use Rattle.merkle_tree_theory.specs.Gap.{Gap}
use Rattle.merkle_tree_theory.specs.Outline.{Item, of_node, of_page}
use Rattle.merkle_search_tree.specs.declared.gap.Gap.{Gap as BorrowedGap}
use Rattle.merkle_search_tree.specs.declared.outline.OutlineItemOf.{OutlineItemOf}
use Rattle.merkle_search_tree.specs.declared.outline.OutlineItemOf.TheVariants.{Node, Page}

-- a bound of a gap
abbrev pub bound_of : {K : Type 0} → Option (Bor K) → Option K
bound_of = option_map (λ k. k.now)

abbrev pub lent_gap : {K : Type 0} → BorrowedGap K → Gap K
lent_gap g = record { after = bound_of g.after; before = bound_of g.before }

abbrev pub item : {K D : Type 0} → OutlineItemOf K D → Item K D
item (Node k d) = of_node k.now d.now
item (Page g d) = of_page (lent_gap g) d.now

abbrev pub items : {K D : Type 0} → List (OutlineItemOf K D) → List (Item K D)
items = map item
