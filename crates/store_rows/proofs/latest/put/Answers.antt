use Rattle.std.proofs.Common.{Some, [], ◌∷◌, string_bytes}
use Rattle.store_file.specs.Latest.{WritesOver}
use Rattle.store_file.proofs.Calls.{alike, writes_then}
use Rattle.store_rows.specs.InStep.{AddsInStep}
use Rattle.store_rows.specs.Removals.{entry_over}
use Rattle.store_rows.proofs.latest.put.Goals as goal

pub returns-clause-written : goal.returns-clause-written
returns-clause-written g c =
    writes_then g.S.Store c.args.log.now c.find.new.log c.write_over.new.log
    (AddsInStep c.args.hash_key.now (entry_over c.in_ok-found.found (c.args.key, record { time = c.args.now; writer = c.args.writer; value = Some c.args.value }) ∷ []))
    (WritesOver (string_bytes c.args.key) c.args.writer c.args.now (Some c.args.value))
    (λ clean trees adds. (c.in_ok-found.found, rw c.as_str.ensures.value at (c.in_ok-found.ensures.latest clean), adds.more))
    _ _ _ c.in_ok-found.ensures.reads tt c.write_over.ensures.written (alike _)
