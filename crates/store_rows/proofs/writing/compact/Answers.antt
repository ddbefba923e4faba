use Rattle.std.proofs.Common.{◌≡◌, filter, length, subst, arith, rules, ◌∙◌}
use Rattle.std.proofs.lemmas.Result.{err_from_is_err_and}
use Rattle.store_file.specs.Logs.{IsClean, trees_of}
use Rattle.store_file.specs.Registers.{HaveLateTime}
use Rattle.store_file.specs.Rows.{stays, IsCompacted}
use Rattle.store_file.proofs.Calls.{writes_then}
use Rattle.store_file.proofs.Compacting.{as_many_left, late_before}
use Rattle.store_rows.specs.InStep.{PutsInStep}
use Rattle.store_rows.proofs.writing.compact.Goals as goal

pub returns-clause-compacted : goal.returns-clause-compacted
returns-clause-compacted g c =
    let rows = c.in_ok-rows.rows.items in
    writes_then g.S.Store c.args.log.now c.read_latest.new.log c.replace_all.new.log (PutsInStep c.args.hash_key.now (filter (stays c.args.before) rows))
    (IsCompacted c.args.before) (λ clean trees puts. (rows, c.in_ok-rows.ensures.latest clean, puts.instead)) _ _ _ c.in_ok-rows.ensures.reads tt
    (rw (c.deref.ensures.value ∙ c.forget.ensures) at c.in_ok-replace_all.ensures.replaced) tt

pub returns-in_err-replace_all-clause-compacted : goal.returns-in_err-replace_all-clause-compacted
returns-in_err-replace_all-clause-compacted g c =
    let rows = c.in_ok-rows.rows.items in
    writes_then g.S.Store c.args.log.now c.read_latest.new.log c.replace_all.new.log (PutsInStep c.args.hash_key.now (filter (stays c.args.before) rows))
    (IsCompacted c.args.before) (λ clean trees puts. (rows, c.in_ok-rows.ensures.latest clean, puts.instead)) _ _ _ c.in_ok-rows.ensures.reads tt
    (rw (c.deref.ensures.value ∙ c.forget.ensures) at c.in_err-replace_all.ensures.replaced)
    (rw (err_from_is_err_and c.from_residual-in_err-replace_all.result c.from_residual-in_err-replace_all.ensures.1).1 tt)

pub returns-clause-left : goal.returns-clause-left
returns-clause-left g c clean =
    let s = g.S.Store in
    let mid = c.read_latest.new.log in
    let new = c.replace_all.new.log in
    let early : IsClean s mid = omega (arith, c.replace_all.ensures.replaced.steady.clean, clean) in
    let kept = c.deref.ensures.value ∙ c.forget.ensures in
    let instead = (rw kept at (c.in_ok-replace_all.ensures.replaced.made clean)).instead in
    let many = as_many_left c.args.before c.in_ok-rows.rows.items (trees_of s mid) (trees_of s new) (c.in_ok-rows.ensures.latest early).2.ascending instead in
    let len : c.len.result ≡ length (filter (stays c.args.before) c.in_ok-rows.rows.items) = search rules in
    len ∙ many

pub returns-in_err-replace_all-clause-late : goal.returns-in_err-replace_all-clause-late
returns-in_err-replace_all-clause-late g c clean is =
    let early : IsClean g.S.Store c.read_latest.new.log = omega (arith, c.replace_all.ensures.replaced.steady.clean, clean) in
    let late = subst HaveLateTime (c.deref.ensures.value ∙ c.forget.ensures) (c.replace_all.ensures.late (search rules)) in
    (c.in_ok-rows.rows.items, c.in_ok-rows.ensures.latest early, late_before c.args.before c.in_ok-rows.rows.items late)
