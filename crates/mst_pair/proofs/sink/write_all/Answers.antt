use Rattle.std.proofs.Common.{◌++◌, take, ◌∙◌}
use Rattle.std.proofs.KnownBytes.{Appends-trans}
use Rattle.mst_pair.proofs.Devices.{moves_front}
use Rattle.mst_pair.proofs.sink.write_all.Goals as goal

pub writing-preserved : goal.writing-preserved
writing-preserved g c =
    let (done, split, appended, failed) = c.writing.invariant in
    let rest = c.writing.rest.now in
    let n = c.in_ok-count.count in
    (done ++ take n rest, moves_front _ done rest n split, Appends-trans _ _ _ _ _ appended c.in_ok-count.ensures.bytes, c.in_ok-count.ensures.failed ∙ failed)
