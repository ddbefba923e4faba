use Rattle.merkle_diff.specs.DiffRange.{spans}
use Rattle.merkle_diff.specs.PageRange.{entry, entries}
use Rattle.merkle_diff.proofs.AtHand.{answers, vector-at_hand}
use Rattle.merkle_diff.proofs.at_hand.diff_lists.Goals as goal

pub returns : goal.returns
returns g c =
    let local = c.args.local.items in
    let peer = c.args.peer.items in
    let h = answers g.K.Ord.cmp g.met.K.Ord.total (λ found. spans found.items) entry _ _ _ _ (entries local) (entries peer) c.diff.result
    (vector-at_hand entry _ local (λ it h. h.0)) (vector-at_hand entry _ peer (λ it h. h.0)) c.diff.ensures.answer c.diff.ensures.memory in
    record { answer = h.0; memory = h.1; nothing = h.2 }
