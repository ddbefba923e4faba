-- The lines of the items, then the last line.
use Rattle.std.specs.List.{flat_map}
use Rattle.mst_pair.specs.Replies.{end_line}
use Rattle.mst_pair.proofs.Devices.{passes_err, part_less, passes_after}
use Rattle.mst_pair.proofs.reply.add_list.Goals as goal

pub returns-in_err-add_lines-clause-bytes : goal.returns-in_err-add_lines-clause-bytes
returns-in_err-add_lines-clause-bytes g c =
    let lines = flat_map g.T.ReplyLine.line_text c.args.items.now in
    passes_err _ _ _ _ _ _ c.from_residual.ensures.0 (part_less _ _ c.args.pending.now lines end_line c.in_err-add_lines.ensures.bytes)

pub returns-clause-bytes : goal.returns-clause-bytes
returns-clause-bytes g c =
    let lines = flat_map g.T.ReplyLine.line_text c.args.items.now in
    passes_after _ _ _ _ c.args.pending.now _ _ lines end_line c.in_ok-add_lines.ensures.bytes c.write.ensures.bytes
