use Rattle.std.proofs.Common.{rules}
use Rattle.store_file.proofs.Committing.{sound_is_clean, committed}
use Rattle.store_file.proofs.log.commit.Goals as goal

pub returns-in_err-commit-clause-written : goal.returns-in_err-commit-clause-written
returns-in_err-commit-clause-written g c begun log uncommitted =
    let s = g.S.Store in
    let mid = c.args.trees.now in
    let did = c.commit.ensures in
    committed s begun mid c.commit.new.self c.args.written log uncommitted (search rules)
    (record {
      sound = sound_is_clean s g.met.S.Store.shut_if_dirty g.met.S.Store.broken_if_shut mid;
      clean = did.clean;
      counts = did.counts;
      closes = did.open;
      was_open = search rules;
      crash = did.crash;
    })
    _ (search rules) (search rules)

pub returns-clause-written : goal.returns-clause-written
returns-clause-written g c begun log uncommitted =
    let s = g.S.Store in
    let mid = c.args.trees.now in
    let did = c.commit.ensures in
    committed s begun mid c.commit.new.self c.args.written log uncommitted (search rules)
    (record {
      sound = sound_is_clean s g.met.S.Store.shut_if_dirty g.met.S.Store.broken_if_shut mid;
      clean = did.clean;
      counts = did.counts;
      closes = did.open;
      was_open = search rules;
      crash = did.crash;
    })
    _ (search rules) (search rules)
