use Rattle.std.proofs.Common.{◌≡◌, subst}
use Rattle.merkle_replica.specs.Answers.{answer_of}
use Rattle.merkle_replica.specs.Contents.{Side, side}
use Rattle.merkle_replica.specs.Pulls.{IsPull}
use Rattle.examples.proofs.sessions.pull_with_copy.Goals as goal

-- the peer is the same side before both pulls
pub returns : goal.returns
returns g c =
    let laws = g.H.RowHasher.laws in
    let first = c.in_ok-pull.ensures in
    let second = c.in_ok-pull-2.ensures in
    let kept = first.peer_settings in
    let peer : side c.pull.new.peer ≡ side c.args.peer.now = λ i. record { hasher = kept.0 i; base = kept.1 i; format = kept.2 i; rows = first.peer_rows i } in
    let x = answer_of c.in_ok-pull.field-0 in
    let y = answer_of c.in_ok-pull-2.field-0 in
    let after = c.pull.new.self.rows in
    let then = c.pull-2.new.self.rows in
    let again = subst (λ (s : Side _ _ _). IsPull laws (side c.args.replica.now) s y then) peer
    (subst (λ (s : Side _ _ _). IsPull laws s (side c.pull.new.peer) y then) c.requires.copied second.done) in
    (c.a_pull_has_one_answer.ensures.pulls (side c.args.replica.now) (side c.args.peer.now) x y after then first.done again).1
