use Rattle.std.proofs.Common.{[]}
use Rattle.std.specs.String.{string_cmp_total}
use Rattle.key_order.specs.Text.{text_order}
use Rattle.key_order.proofs.SameMaps.{same_map-own}
use Rattle.store_rows.specs.Digests.{TextDigests}
use Rattle.mst.proofs.shared.SharedSideAskingReplicaDIGEST_LENStringRegisterSipHasher.asks_by_its_rows.Goals as goal

pub returns-clause-digests : goal.returns-clause-digests
returns-clause-digests g c =
    let none : TextDigests = [] in
    same_map-own text_order string_cmp_total none
