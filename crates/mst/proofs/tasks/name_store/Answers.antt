use Rattle.std.proofs.Common.{rules, string_bytes, subst}
use Rattle.store_file.specs.Changes.{WritesByNow}
use Rattle.store_file.specs.Logs.{IsClean, trees_of}
use Rattle.mst.proofs.Naming.{of_ok}
use Rattle.mst.proofs.tasks.name_store.Goals.{then-is_empty+in_ok-name+in_ok-name_writer, else-is_empty}
use Rattle.mst.proofs.tasks.name_store.Goals as goal

pub returns-clause-named : goal.returns-clause-named
returns-clause-named g c none =
    let s = g.S.Store in
    let old = c.args.log.now in
    let mid = c.if-is_empty in
    let named : IsClean s mid.log → WritesByNow (string_bytes mid.note.writer) (trees_of s old) (trees_of s mid.log) =
    elim mid.branch [
      | then-is_empty+in_ok-name+in_ok-name_writer w ↦ rw (w.log-is, w.note-is)
          (λ clean. subst (λ name. WritesByNow name (trees_of s old) (trees_of s w.name_writer.new.log)) w.as_str.ensures.value
          (of_ok w.name_writer.result _ (search rules) (w.name_writer.ensures.named.made clean)))
      | else-is_empty w ↦ (λ clean. absurd (search rules))
    ] in
    named
