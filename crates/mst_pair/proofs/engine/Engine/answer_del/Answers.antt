use Rattle.std.proofs.Common.{ap, sym, inl, true, false}
use Rattle.mst_pair.specs.Engine.{deleted_text}
use Rattle.mst_pair.proofs.engine.Engine.answer_del.Goals as goal

pub returns-in-Ok-true-clause-bytes : goal.returns-in-Ok-true-clause-bytes
returns-in-Ok-true-clause-bytes g c = (
  deleted_text true,
  inl (
    c.in-Ok-true.field-0,
    ap deleted_text (sym c.in-Ok-true.field-0-test),
    c.in-Ok-true.ensures.ok,
    c.delete_row.ensures.other,
    c.delete_row.ensures.format,
  ),
  c.write_all.ensures.bytes,
)

pub returns-in-Ok-false-clause-bytes : goal.returns-in-Ok-false-clause-bytes
returns-in-Ok-false-clause-bytes g c = (
  deleted_text false,
  inl (
    c.in-Ok-false.field-0,
    ap deleted_text (sym c.in-Ok-false.field-0-test),
    c.in-Ok-false.ensures.ok,
    c.delete_row.ensures.other,
    c.delete_row.ensures.format,
  ),
  c.write_all-in-Ok-false.ensures.bytes,
)
