use Rattle.std.proofs.Common.{rules, ◌≡◌, ◌≢◌, [], length, drop, sym, ◌∙◌}
use Rattle.std.proofs.lemmas.Bool.{eqb-true}
use Rattle.std.proofs.lemmas.Result.{err_from_is_err_and}
use Rattle.merkle_delta.proofs.Following.{all_taken, fewer_left, no_bytes, none_left, one_taken}
use Rattle.merkle_delta.proofs.patch.follow.Goals as goal

pub returns-in_err-at-clause-unlike : goal.returns-in_err-at-clause-unlike
returns-in_err-at-clause-unlike c =
    let p = err_from_is_err_and c.from_residual.result c.from_residual.ensures.1 in
    let some : c.steps.reader.left.now ≢ [] = search rules in
    rw (p.1, p.2) (λ unlike. none_left c.args.own.now c.args.reader.now.left.now (drop c.steps.at c.args.own.now) c.steps.reader.left.now c.steps.bytes.items c.steps.invariant.taken some
    (c.in_err-at.ensures.unlike unlike))

pub steps-preserved : goal.steps-preserved
steps-preserved c = record {
  inside = c.in_ok-at.ensures.inside;
  taken = one_taken c.args.own.now c.args.reader.now.left.now (drop c.steps.at c.args.own.now) (drop c.in_ok-at.at c.args.own.now) c.steps.reader.left.now c.take_step.new.reader.left.now
      c.steps.bytes.items c.take_step.new.bytes.items c.steps.invariant.taken c.in_ok-at.ensures.taken;
}

pub steps-smaller : goal.steps-smaller
steps-smaller c =
    fewer_left (drop c.steps.at c.args.own.now)
    (drop c.in_ok-at.at c.args.own.now) c.steps.reader.left.now c.take_step.new.reader.left.now c.steps.bytes.items c.take_step.new.bytes.items c.in_ok-at.ensures.taken

pub returns-clause-given : goal.returns-clause-given
returns-clause-given c =
    let none : c.steps.reader.left.now ≡ [] = sym c.left.ensures ∙ no_bytes c.left.result.now (eqb-true (length c.left.result.now) 0 (sym c.is_empty.ensures ∙ c.steps-test.false)) in
    all_taken c.args.own.now c.args.reader.now.left.now (drop c.steps.at c.args.own.now) c.steps.reader.left.now c.steps.bytes.items c.steps.invariant.taken none
