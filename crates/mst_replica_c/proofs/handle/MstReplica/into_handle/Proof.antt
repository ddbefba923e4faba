-- The two fields are moved, and what they own goes with them.
use Rattle.std.proofs.Common.{◌≡◌, refl}
use Rattle.c_values.specs.contracts.handle.Handle as Handle
use Rattle.c_values.proofs.Moved.{moved}
use Rattle.c_replicas.specs.contracts.byte_replica.ByteReplica.{the_row}
use Rattle.c_replicas.proofs.byte_replica.ByteReplica.TheLaws.{the_row_laws}
use Rattle.mst_replica_c.specs.contracts.handle.MstReplica as MstReplica
use Rattle.mst_replica_c.specs.contracts.handle.MstReplica.into_handle as f
use Rattle.mst_replica_c.proofs.handle.MstReplica.into_handle.Statement.{statement}
use Rattle.mst_replica_c.proofs.handle.MstReplica.into_handle.Code as code

pub into_handle_spec : {M : Type 1} → statement M
into_handle_spec 𝓤 𝓛 𝓜 𝓡 wired =
    moved the_row the_row_laws MstReplica.the_row (Handle.the_row the_row) (λ h r. r.held ≡ h.held)
    (λ h. record { ptr = h.ptr; alloc = h.alloc; held = h.held }) (λ h. record { ptr = h.ptr; alloc = h.alloc; held = h.held })
    (λ h vs. refl) (λ h vs. refl) (λ h. refl) (λ h. tt)
    MstReplica.struct.name (Handle.struct the_row).name 𝓤 𝓛 𝓜 𝓡 (λ κs h w. refl) f.Key.name (code.unfolded 𝓤 𝓛.H 𝓜 𝓡 wired)
