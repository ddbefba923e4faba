use Rattle.store_rows.specs.InStep.{AddsInStep, IsInStep}
use Rattle.store_rows.proofs.Landing.{lands, stands_on}
use Rattle.store_rows.proofs.loading.add_many.Goals as goal

pub returns-clause-added : goal.returns-clause-added
returns-clause-added g c =
    let old = c.args.log.now in
    let did = c.load_each-written.ensures in
    lands g.S.Store old c.load_each-written.new.trees c.commit.new.trees c.load_each-written.result c.commit.result (AddsInStep c.args.hash_key.now c.args.entries.now)
    (rw (c.new.ensures, c.log.view_is) at did.added) (c.commit.ensures.written old (rw c.log.view_is at c.log.invariant) (rw c.log.view_is at did.uncommitted))

pub returns-clause-stands : goal.returns-clause-stands
returns-clause-stands g c stood clean opened =
    let did = c.commit.ensures in
    let hash_key = c.args.hash_key.now in
    let uncommitted = rw c.log.view_is at c.load_each-written.ensures.uncommitted in
    stands_on g.S.Store c.args.log.now c.load_each-written.new.trees c.commit.new.trees uncommitted did.steady did.was_open (IsInStep hash_key) stood clean opened
    c.commit.result (AddsInStep hash_key c.args.entries.now) (returns-clause-added g c) (λ added. added.kept)
