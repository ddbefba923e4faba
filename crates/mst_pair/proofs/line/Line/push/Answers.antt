use Rattle.mst_pair.proofs.Kept.{pushed}
use Rattle.mst_pair.proofs.line.Line.push.Goals as goal

pub returns : goal.returns
returns c =
    let push = c.try_push.ensures in
    rw (← c.self.view_is) (pushed c.try_push.result c.self.inside.bytes c.try_push.new.self c.args.byte _ push.variant.0 push.ok push.err push.full)
