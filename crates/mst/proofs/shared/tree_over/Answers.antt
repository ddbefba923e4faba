use Rattle.std.proofs.Common.{[]}
use Rattle.mst.proofs.shared.tree_over.Goals as goal

-- (the disk isn't clean, so that nothing is claimed of the file)
pub over-requires : goal.over-requires
over-requires g c =
    let unsure = c.are_unsure.ensures in
    record {
      file = (
        [],
        record {
          entries = λ clean. absurd (unsure clean);
          cells = λ clean. absurd (unsure clean);
          settled = λ clean. absurd (unsure clean);
          shown = λ clean sound. absurd (unsure clean);
          committed = λ clean opened. absurd (unsure clean);
        },
      );
    }
