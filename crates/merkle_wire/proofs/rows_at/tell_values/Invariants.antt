use Rattle.std.proofs.Common.{◌≡◌}
use Rattle.key_order.specs.Map.{get}
use Rattle.merkle_wire.specs.Messages.{front}
use Rattle.merkle_wire.specs.Replies.{value_at_bytes}
use Rattle.merkle_wire.specs.declared.message.Kind.TheVariants.{RowsAt}
use Rattle.merkle_wire.proofs.Continued.{IsContinued}
use Rattle.merkle_wire.proofs.rows_at.tell_values.Given as goal
use Rattle.std.specs.Prelude.{⊤}

-- the values at the other keys continue those at the first
abbrev pub invariant-keys : goal.invariant-keys
invariant-keys g l = record {
  steady : g.S.KeptSide.is_sound l.side → g.S.KeptSide.is_sound l.fn.side;
  kept : g.S.KeptSide.is_sound l.side → g.S.KeptSide.contents l.side l.beside ≡ g.S.KeptSide.contents l.fn.side l.beside;
  told : g.S.KeptSide.is_sound l.side → IsContinued (λ wanted value. value ≡ get g.K.Ord.cmp (g.S.KeptSide.contents l.fn.side l.beside).rows wanted.key) (value_at_bytes g.V.Encode.encoding)
      (λ before t. ⊤) l.most_bytes l.keys (front RowsAt) l.wanted-index l.bytes.items;
}
