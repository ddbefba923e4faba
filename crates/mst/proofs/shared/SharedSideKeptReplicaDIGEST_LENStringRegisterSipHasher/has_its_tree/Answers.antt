use Rattle.std.proofs.Common.{[]}
use Rattle.mst.proofs.shared.SharedSideKeptReplicaDIGEST_LENStringRegisterSipHasher.has_its_tree.Goals as goal

pub returns : goal.returns
returns g c = c.a_map_has_one_tree.ensures.defined c.args.self.now.digests 16 []
