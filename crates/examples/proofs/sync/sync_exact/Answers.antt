use Rattle.merkle_replica.specs.Contents.{side}
use Rattle.examples.proofs.Outcomes.{on_ok, sync_like}
use Rattle.examples.proofs.sync.sync_exact.Goals as goal

-- where no streams collide, digests are faithful
pub returns : goal.returns
returns g c =
    let a = c.args.a.now in
    let b = c.args.b.now in record {
      same = on_ok c.sync.result _ _
          (sync_like _ _ _ _ _ a b c.sync.new.a c.sync.new.b
          (λ answers met turns. c.no_collision_is_enough.ensures.all_faithful answers (side a) (side b) c.sync.new.a.rows c.sync.new.b.rows met c.requires.alike c.requires.format_2 turns)
          (λ joined. joined)) c.sync.ensures.same;
      stopped = c.sync.ensures.stopped;
      a_settings = c.sync.ensures.a_settings;
      b_settings = c.sync.ensures.b_settings;
    }
