use Rattle.std.proofs.Common.{◌≡◌, ◌++◌, [], ◌∷◌, drop}
use Rattle.merkle_diff.specs.Cut.{pieces_left}
use Rattle.merkle_diff.specs.DiffRange.{span, spans}
use Rattle.merkle_diff.specs.OnePass.{LeavesAlike}
use Rattle.merkle_diff.proofs.reduce.push_left.Given as goal

abbrev pub invariant-good : goal.invariant-good
invariant-good g l = record {
  end : (span l.left).last ≡ (span l.fn.range).last;
  pieces : spans l.pieces.items ++ pieces_left g.K.Ord.cmp (span l.left ∷ []) (spans (drop l.next l.good))
      ≡ spans l.fn.pieces.items ++ pieces_left g.K.Ord.cmp (span l.fn.range ∷ []) (spans (drop l.fn.first l.good));
  rest : LeavesAlike g.K.Ord.cmp (span l.fn.range).last (spans (drop l.fn.first l.good)) (spans (drop l.next l.good));
}
