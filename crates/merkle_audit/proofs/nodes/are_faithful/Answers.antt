use Rattle.merkle_replica.specs.Contents.{side}
use Rattle.merkle_search_tree.specs.Items.{items}
use Rattle.merkle_wire.specs.Outlines.{nodes_among}
use Rattle.merkle_audit.proofs.NodesAmong.{had_faithful, differ_faithful}
use Rattle.merkle_audit.proofs.nodes.are_faithful.Goals as goal

pub returns-then-has_all : goal.returns-then-has_all
returns-then-has_all g c = λ t. had_faithful g.H.RowHasher.laws (side c.args.local.now) (nodes_among (items c.args.list.now)) (c.if-has_all.ensures t)

pub returns : goal.returns
returns g c = λ t. differ_faithful g.H.RowHasher.laws (side c.args.local.now) (nodes_among (items c.args.list.now)) (c.differ.ensures t)
