use Rattle.merkle_wire.proofs.PartsTold.{told_more}
use Rattle.store_file.specs.WireRegisters.{register_encoding}
use Rattle.store_side.specs.Answered.{text_encoding}
use Rattle.store_side.proofs.visitors.ToldRowVisitor.visit.Goals as goal

pub returns-clause-taken : goal.returns-clause-taken
returns-clause-taken c first rows was =
    told_more text_encoding register_encoding first.part c.args.self.now.part c.add.new.self rows c.args.row c.in_ok-more.more was c.in_ok-more.ensures
