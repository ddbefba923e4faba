use Rattle.merkle_diff.specs.DiffRange.{spans}
use Rattle.merkle_diff.specs.PageRange.{entry, entries}
use Rattle.merkle_diff.specs.SliceIter.{entries_to_come}
use Rattle.merkle_diff.proofs.AtHand.{answers, iterator-at_hand}
use Rattle.merkle_diff.proofs.at_hand.diff_slices.Goals as goal

pub returns : goal.returns
returns g c =
    let local = entries c.args.local.now in
    let peer = entries c.args.peer.now in
    let h = answers g.K.Ord.cmp g.met.K.Ord.total (λ found. spans found.items) entry _ _ _ _ local peer c.diff.result
    (iterator-at_hand entry entries_to_come c.new.result local c.new.ensures)
    (iterator-at_hand entry entries_to_come c.new-2.result peer c.new-2.ensures) c.diff.ensures.answer c.diff.ensures.memory in
    record { answer = h.0; memory = h.1; nothing = h.2 }
