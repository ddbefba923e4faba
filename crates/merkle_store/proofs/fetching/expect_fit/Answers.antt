use Rattle.std.proofs.Common.{◌<◌, ◌≤◌, All, length, subst, arith}
use Rattle.std.proofs.lemmas.List.{take_all}
use Rattle.std.proofs.lemmas.List.Elements.{All-more}
use Rattle.key_order.specs.Text.{Text}
use Rattle.store_file.specs.declared.register.Register.{Register}
use Rattle.merkle_store.specs.Fetches.{IsShortEntry}
use Rattle.merkle_store.specs.News.{AreTimely}
use Rattle.merkle_store.proofs.fetching.expect_fit.Goals as goal

pub entries-preserved : goal.entries-preserved
entries-preserved c =
    let low : c.entries.entry-index < length c.args.entries.now = omega arith in
    let on_time : c.entry-item.result.1.time ≤ c.args.latest = omega arith in
    record {
      short = All-more IsShortEntry c.args.entries.now c.entries.entry-index c.entry-item.result low c.entries.invariant.short
          (subst IsShortEntry c.entry-item.is (c.is_short.ensures.0 c.if-not-is_short.false));
      timely = All-more (λ (entry : Text × Register). entry.1.time ≤ c.args.latest) c.args.entries.now c.entries.entry-index c.entry-item.result low c.entries.invariant.timely
          (subst (λ (entry : Text × Register). entry.1.time ≤ c.args.latest) c.entry-item.is on_time);
    }

pub returns-clause-short : goal.returns-clause-short
returns-clause-short c = subst (All IsShortEntry) (take_all c.entries.entry-index c.args.entries.now (omega arith)) c.entries.invariant.short

pub returns-clause-timely : goal.returns-clause-timely
returns-clause-timely c = subst (AreTimely c.args.latest) (take_all c.entries.entry-index c.args.entries.now (omega arith)) c.entries.invariant.timely
