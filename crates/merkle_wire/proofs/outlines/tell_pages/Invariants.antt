use Rattle.std.proofs.Common.{◌≡◌}
use Rattle.merkle_wire.specs.Messages.{front}
use Rattle.merkle_wire.specs.Outlines.{IsTold}
use Rattle.merkle_wire.specs.Replies.{items_over, outline_over_bytes}
use Rattle.merkle_wire.proofs.Continued.{IsContinued}
use Rattle.merkle_wire.proofs.outlines.tell_pages.Given as goal
use Rattle.std.specs.Prelude.{⊤}

-- what is told of the pages over the other gaps continues what is told of those over the first
abbrev pub invariant-gaps : goal.invariant-gaps
invariant-gaps g l = record {
  steady : g.S.KeptSide.is_sound l.side → g.S.KeptSide.is_sound l.fn.side;
  kept : g.S.KeptSide.is_sound l.side → g.S.KeptSide.contents l.side l.beside ≡ g.S.KeptSide.contents l.fn.side l.beside;
  told : g.S.KeptSide.is_sound l.side → IsContinued (λ gap. IsTold g.K.Ord.cmp (g.S.KeptSide.contents l.fn.side l.beside).rows l.telling.with_pages
      (items_over g.K.Ord.cmp g.K.KeyBytes.bytes_of (g.S.KeptSide.contents l.fn.side l.beside).tree gap))
      (outline_over_bytes g.K.Encode.encoding g.V.Encode.encoding) (λ before t. ⊤) l.most_bytes l.gaps (front l.fn.kind) l.gap-index l.bytes.items;
}
