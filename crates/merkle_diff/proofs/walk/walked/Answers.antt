use Rattle.std.proofs.Common.{◌∙◌, ap, ◌++◌}
use Rattle.merkle_diff.specs.DiffRange.{spans}
use Rattle.merkle_diff.specs.PageRange.{entries}
use Rattle.merkle_diff.specs.Walk.{bad_of, good_of}
use Rattle.merkle_diff.proofs.walk.walked.Goals as goal

pub returns : goal.returns
returns g c =
    let w = c.in_ok-walk.ensures.meaning c.drain.ensures.0 c.drain-2.ensures.0 c.drain.ensures.1 c.drain-2.ensures.1 in (
      w.0,
      w.1,
      w.2,
      w.3,
      (
        w.4.0,
        entries c.drain-2.ensures.0,
        entries c.drain.ensures.0,
        w.4.2,
        w.4.1.0
            ∙ ap (λ xs. spans xs ++ bad_of w.4.0) c.new.ensures.items,
        w.4.1.1 ∙ ap (λ xs. spans xs ++ good_of w.4.0) c.new-2.ensures.items,
      ),
    )
