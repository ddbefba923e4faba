use Rattle.std.proofs.Math.Logic.{∥∥₁_map}
use Rattle.sqlite_store.specs.FileStore.{view}
use Rattle.store_file.proofs.file.reopen.Goals as goal

-- what close left is what open asks
pub open_trusted-requires-clause-sound : goal.open_trusted-requires-clause-sound
open_trusted-requires-clause-sound g c = λ clean. ∥∥₁_map (c.in_ok-files.ensures.copied.now clean) (λ held. held.0)

-- and shows
pub returns-clause-same : goal.returns-clause-same
returns-clause-same g c = λ clean. c.in_ok-again.ensures.found clean (view c.args.store).committed (c.in_ok-files.ensures.copied.now (c.in_ok-again.ensures.honest clean))
