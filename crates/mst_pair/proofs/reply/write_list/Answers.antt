-- What is put together is written.
use Rattle.std.proofs.Common.{ap, ◌++◌, subst}
use Rattle.std.specs.List.{flat_map}
use Rattle.mst_pair.specs.Devices.{WritesBytes, WritesPart}
use Rattle.mst_pair.specs.Replies.{end_line}
use Rattle.mst_pair.proofs.Devices.{writes_err, writes_flushed}
use Rattle.mst_pair.proofs.reply.write_list.Goals as goal

pub returns-in_err-add_list-clause-bytes : goal.returns-in_err-add_list-clause-bytes
returns-in_err-add_list-clause-bytes g c =
    let text = flat_map g.T.ReplyLine.line_text c.args.items.now ++ end_line in
    writes_err _ _ _ _ c.from_residual.ensures.0 (subst (WritesPart _ _) (ap (λ t. t ++ text) c.new-pending.ensures) c.in_err-add_list.ensures.bytes)

pub returns-clause-bytes : goal.returns-clause-bytes
returns-clause-bytes g c =
    let text = flat_map g.T.ReplyLine.line_text c.args.items.now ++ end_line in
    subst (WritesBytes _ _ _) (ap (λ t. t ++ text) c.new-pending.ensures) (writes_flushed _ _ _ _ c.new-pending.result _ text c.in_ok-add_list.ensures.bytes c.flush.ensures.bytes)
