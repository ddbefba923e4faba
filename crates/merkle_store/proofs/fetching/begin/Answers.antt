use Rattle.std.proofs.Common.{subst, sym, ◌∙◌}
use Rattle.merkle_store.specs.Sessions.{AsksByRows}
use Rattle.merkle_store.proofs.Asked.{asks_for_root}
use Rattle.merkle_store.proofs.fetching.begin.Goals as goal

pub returns-in-Ok-begin_by-clause-begins : goal.returns-in-Ok-begin_by-clause-begins
returns-in-Ok-begin_by-clause-begins g c = λ sound.
    let local = g.S.AskingReplica.whole c.args.side.now in
    let begun = c.in-Ok-begin_by.ensures in
    let counted = c.begin_by.ensures.steady sound in
    let by = subst (λ k. AsksByRows k.digests local) (sym (c.row_count.ensures.kept counted))
    (record { digests = c.asks_by_its_rows.ensures.digests; settings = c.asks_by_its_rows.ensures.settings }) in
    record {
      settings = asks_for_root (g.S.KeptTree.kept c.row_count.new.self).digests local by c.in-Ok-begin_by.begun.0.asked (begun.settings sound);
      asks = begun.asks;
      nothing_found = begun.nothing.0;
    }

pub returns-in-Ok-begin_by-clause-rows : goal.returns-in-Ok-begin_by-clause-rows
returns-in-Ok-begin_by-clause-rows g c = λ sound.
    let local = g.S.AskingReplica.whole c.args.side.now in
    subst (λ k. AsksByRows k.digests local) (sym (c.begin_by.ensures.kept sound ∙ c.row_count.ensures.kept (c.begin_by.ensures.steady sound)))
    (record { digests = c.asks_by_its_rows.ensures.digests; settings = c.asks_by_its_rows.ensures.settings })
