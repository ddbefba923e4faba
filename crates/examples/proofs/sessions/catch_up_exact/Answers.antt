use Rattle.merkle_replica.specs.Contents.{side}
use Rattle.examples.proofs.Outcomes.{on_ok}
use Rattle.examples.proofs.sessions.catch_up_exact.Goals as goal

pub returns-clause-join : goal.returns-clause-join
returns-clause-join g c = on_ok c.catch_up_by_messages.result _ _
    (λ joins free none.
    rw g.met.H.RowHasher.laws_are
    (joins (c.no_collision_makes_a_session_faithful.ensures (side c.args.replica.now) (side c.args.peer.now) c.requires.alike c.requires.values c.requires.format_2 free none)))
    c.catch_up_by_messages.ensures.join
