use Rattle.std.proofs.Common.{subst, ap, ◌∙◌}
use Rattle.arrayvec.specs.ArrayString.{ArrayString}
use Rattle.std.specs.Io.KnownBytes.{Appends}
use Rattle.mst_pair.specs.Devices.{WritesBytes, WritesPart}
use Rattle.mst_pair.proofs.Devices.{writes_less, passes_err, passes_written}
use Rattle.mst_pair.proofs.pending.Pending.write.Goals as goal

-- the text that is pending could not be written
pub returns-in_err-flush-in-Err-clause-bytes : goal.returns-in_err-flush-in-Err-clause-bytes
returns-in_err-flush-in-Err-clause-bytes g c =
    let same = ap (λ (t : ArrayString). t.bytes) c.in-Err.ensures.err ∙ c.self.view_is in
    passes_err _ _ _ _ _ _ c.from_residual.ensures.0 (writes_less _ _ _ c.args.text.now (subst (WritesPart _ _) same c.in_err-flush-in-Err.ensures.bytes))

-- it was written, and the text beside it
pub returns-in_ok-flush-in-Err-clause-bytes : goal.returns-in_ok-flush-in-Err-clause-bytes
returns-in_ok-flush-in-Err-clause-bytes g c =
    let same = ap (λ (t : ArrayString). t.bytes) c.in-Err.ensures.err ∙ c.self.view_is in
    passes_written _ _ _ _ _ _ _ (subst (Appends _ _) same c.in_ok-flush-in-Err.ensures.bytes) c.in_ok-flush-in-Err.ensures.empty
    (subst (WritesBytes _ _ _) c.as_bytes.ensures.value c.write_all.ensures.bytes)
