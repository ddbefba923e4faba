use Rattle.merkle_tree_theory.proofs.FillingDigests.{pairs-filled, missing-filled}
use Rattle.merkle_tree_theory.proofs.laws.filled_pages_keep_their_map.Goals as goal

pub returns-clause-map : goal.returns-clause-map
returns-clause-map g c format t = pairs-filled format g.K.KeyBytes.bytes_of t

pub returns-clause-hashed : goal.returns-clause-hashed
returns-clause-hashed g c format t = missing-filled format g.K.KeyBytes.bytes_of t
