use Rattle.std.proofs.Common.{◌<◌, ◌≤◌, ◌++◌, length, ap, ◌∙◌, arith}
use Rattle.merkle_bytes.specs.Counts.{count_bytes}
use Rattle.merkle_bytes.specs.Encodings.{string_encoding}
use Rattle.merkle_delta.proofs.ToldChunks.{bytes_told, run_told}
use Rattle.merkle_delta.proofs.delta.add_steps.Goals as goal

pub chunks-preserved-then-run-eq0 : goal.chunks-preserved-then-run-eq0
chunks-preserved-then-run-eq0 c =
    let low : c.chunks.done < length c.args.chunks.now = omega (arith, c.chunks-test.true, c.len.ensures) in
    bytes_told c.args.checksums.now c.args.chunks.now c.args.delta.now.items c.chunks.delta.items c.add_bytes.new.delta.items c.chunks.at c.chunks.done c.chunks.invariant low
    (c.in_ok-add_bytes.ensures ∙ ap (λ b. c.chunks.delta.items ++ (count_bytes 0 ++ string_encoding b)) c.get.ensures)

pub chunks-preserved : goal.chunks-preserved
chunks-preserved c =
    let run = c.found_run-run in
    let some : 1 ≤ run.result.len = omega (arith, c.if-run-eq0.false) in
    run_told c.args.checksums.now c.args.chunks.now c.args.delta.now.items c.chunks.delta.items c.add_run.new.delta.items c.chunks.at c.chunks.done run.result.from run.result.len c.chunks.invariant
    run.ensures.behind some run.ensures.same c.in_ok-add_run.ensures
