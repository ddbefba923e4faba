-- The two fields are moved, and what they own goes with them.
use Rattle.std.proofs.Common.{◌≡◌, refl}
use Rattle.c_values.specs.contracts.handle.Handle as Handle
use Rattle.c_values.proofs.Moved.{moved}
use Rattle.c_trees.specs.contracts.byte_tree.ByteTree.{the_row}
use Rattle.c_trees.proofs.byte_tree.ByteTree.TheLaws.{the_row_laws}
use Rattle.mst_c.specs.contracts.handle.MstTree as MstTree
use Rattle.mst_c.specs.contracts.handle.MstTree.of_handle as f
use Rattle.mst_c.proofs.handle.MstTree.of_handle.Statement.{statement}
use Rattle.mst_c.proofs.handle.MstTree.of_handle.Code as code

pub of_handle_spec : {M : Type 1} → statement M
of_handle_spec 𝓤 𝓛 𝓜 𝓡 wired =
    moved the_row the_row_laws (Handle.the_row the_row) MstTree.the_row (λ h r. r.tree ≡ h.held)
    (λ h. h) (λ h. record { ptr = h.ptr; alloc = h.alloc; tree = h.held })
    (λ h vs. refl) (λ h vs. refl) (λ h. refl) (λ h. tt)
    (Handle.struct the_row).name MstTree.struct.name 𝓤 𝓛 𝓜 𝓡 (λ κs h w. refl) f.Key.name (code.unfolded 𝓤 𝓛.H 𝓜 𝓡 wired)
