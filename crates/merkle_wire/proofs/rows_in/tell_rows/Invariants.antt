use Rattle.std.proofs.Common.{◌≡◌}
use Rattle.merkle_wire.specs.Messages.{front}
use Rattle.merkle_wire.specs.Replies.{IsPartOf, RowsFit, part_in_bytes}
use Rattle.merkle_wire.specs.declared.message.Kind.TheVariants.{RowsIn}
use Rattle.merkle_wire.proofs.Continued.{IsContinued}
use Rattle.merkle_wire.proofs.rows_in.tell_rows.Given as goal

-- the rows in the other gaps continue those in the first
abbrev pub invariant-gaps : goal.invariant-gaps
invariant-gaps g l = record {
  steady : g.S.KeptSide.is_sound l.side → g.S.KeptSide.is_sound l.fn.side;
  kept : g.S.KeptSide.is_sound l.side → g.S.KeptSide.contents l.side l.beside ≡ g.S.KeptSide.contents l.fn.side l.beside;
  told : g.S.KeptSide.is_sound l.side → IsContinued (IsPartOf g.K.Ord.cmp (g.S.KeptSide.contents l.fn.side l.beside).rows) (part_in_bytes g.K.Encode.encoding g.V.Encode.encoding)
      (RowsFit g.K.Encode.encoding g.V.Encode.encoding l.most_bytes) l.most_bytes l.gaps (front RowsIn) l.gap-index l.bytes.items;
}
