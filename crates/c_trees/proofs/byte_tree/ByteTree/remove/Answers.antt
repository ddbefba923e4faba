use Rattle.std.proofs.Common.{sym, ◌∙◌}
use Rattle.c_values.proofs.Pairs.{del_absent, del_present}
use Rattle.c_trees.proofs.byte_tree.ByteTree.remove.Goals as goal

pub returns-in-None-clause-done : goal.returns-in-None-clause-done
returns-in-None-clause-done c =
    del_absent c.args.self.now.tree c.remove.new.self c.in_ok-own_key.own_key c.args.key.now c.in_ok-own_key.ensures.items c.in_ok-remove.ensures.map
    c.remove.ensures.settings (sym c.in_ok-remove.ensures.found ∙ c.in-None.is)

pub returns-clause-done : goal.returns-clause-done
returns-clause-done c =
    del_present c.args.self.now.tree c.remove.new.self c.in_ok-own_key.own_key c.args.key.now c.in_ok-own_key.ensures.items c.in_ok-remove.ensures.map
    c.remove.ensures.settings c.in-Some.field-0 (sym c.in_ok-remove.ensures.found ∙ c.in-Some.is)
