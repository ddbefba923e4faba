use Rattle.std.proofs.Common.{take}
use Rattle.mst_pair.specs.Parsing.{HasNoSpace}
use Rattle.mst_pair.proofs.parse.first_field.Given as goal

abbrev pub invariant-finding : goal.invariant-finding
invariant-finding l = HasNoSpace (take l.at l.text)
