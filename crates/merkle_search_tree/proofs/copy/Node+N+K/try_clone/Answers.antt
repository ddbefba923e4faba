use Rattle.std.proofs.Common.{rules, nat_eq}
use Rattle.std.proofs.lemmas.Result.{IfOk-weaker}
use Rattle.std.specs.Cmp.Lexicographic.{pointwise}
use Rattle.std.specs.Cmp.Rules.{comparing}
use Rattle.std.specs.Option.{option_eq}
use Rattle.merkle_tree_theory.proofs.Alike.{node_equal}
use Rattle.merkle_search_tree.proofs.copy.Node+N+K.try_clone.Goals as goal

pub returns-clause-equal : goal.returns-clause-equal
returns-clause-equal g c = λ same.
    IfOk-weaker c.copied.result _ _
    (λ copy h. node_equal (option_eq (pointwise nat_eq)) g.K.PartialEq.eq (pointwise nat_eq) (search (comparing, rules)) g.met.K.PartialEq.laws
    (search (comparing, rules)) g.K.Clone.is_clone same c.args.self.now copy h)
    c.copied.ensures
