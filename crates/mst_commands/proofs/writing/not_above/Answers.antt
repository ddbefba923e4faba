use Rattle.std.proofs.Common.{◌≤◌, ◌<◌, All, length, sym, subst, arith}
use Rattle.std.proofs.lemmas.List.{take_all}
use Rattle.std.proofs.lemmas.List.Elements.{All-more}
use Rattle.key_order.specs.Text.{Text as Key}
use Rattle.store_file.specs.declared.register.Register.{Register}
use Rattle.mst_commands.proofs.writing.not_above.Goals as goal

pub entries-preserved : goal.entries-preserved
entries-preserved c =
    let low : c.entries.entry-index < length c.args.entries.now = omega arith in
    All-more (λ (entry : Key × Register). entry.1.time ≤ c.args.latest) c.args.entries.now c.entries.entry-index c.entry-item.result low c.entries.invariant
    (subst (λ (entry : Key × Register). entry.1.time ≤ c.args.latest) c.entry-item.is c.if-entry-latest.false)

pub returns-clause-timely : goal.returns-clause-timely
returns-clause-timely c =
    subst (All (λ (entry : Key × Register). entry.1.time ≤ c.args.latest)) (take_all c.entries.entry-index c.args.entries.now (omega arith)) c.entries.invariant

pub returns-then-entry-latest-clause-future : goal.returns-then-entry-latest-clause-future
returns-then-entry-latest-clause-future c =
    let low : c.entries.entry-index < length c.args.entries.now = omega arith in
    (c.entries.entry-index, c.entry-item.result, low, sym c.entry-item.is, c.if-entry-latest.true)
