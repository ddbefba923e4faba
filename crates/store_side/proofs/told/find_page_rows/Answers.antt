use Rattle.std.proofs.Common.{rules, subst, sym}
use Rattle.merkle_search_tree.specs.Items.{items}
use Rattle.merkle_wire.specs.Outlines.{nodes_among}
use Rattle.store_side.specs.Answered.{ArePageRows}
use Rattle.store_side.proofs.Answering.{page_rows}
use Rattle.store_side.proofs.told.find_page_rows.Goals as goal

pub returns-clause-rows : goal.returns-clause-rows
returns-clause-rows g c clean rows was =
    let nodes = nodes_among (items c.args.list.now) in
    subst (ArePageRows nodes rows) (sym c.new.ensures) (page_rows c.args.gap.now.after c.args.gap.now.before rows c.in_ok-rows.rows.items nodes (c.in_ok-rows.ensures.rows clean rows was)
    (c.are_nodes_within.ensures (search rules)))
