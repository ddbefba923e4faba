use Rattle.std.proofs.Common.{ap, ◌∙◌, arith}
use Rattle.merkle_search_tree.specs.Path.{rest_of, pages_left}
use Rattle.merkle_search_tree.proofs.Paths.{rest_of-push, pages_left-push, fits-push}
use Rattle.merkle_search_tree.proofs.path.push.Goals as goal

pub returns-clause-fits : goal.returns-clause-fits
returns-clause-fits g c =
    rw (c.push_reserved.ensures.items, c.push_reserved.ensures.capacity)
    (fits-push _ 0 c.args.path.now.items _ c.requires.path_fits (c.requires.some, c.requires.falls, omega (arith, c.requires.room, c.args.path.now.ok.0)))

pub returns-clause-nodes : goal.returns-clause-nodes
returns-clause-nodes g c = ap rest_of c.push_reserved.ensures.items ∙ rest_of-push c.args.path.now.items _

pub returns-clause-pages : goal.returns-clause-pages
returns-clause-pages g c = ap pages_left c.push_reserved.ensures.items ∙ pages_left-push c.args.path.now.items _
