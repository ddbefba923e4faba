use Rattle.std.proofs.Common.{Result, Ok, Err, OnOk, sym, ◌∙◌}
use Rattle.store_file.specs.Logs.{IsClean, IsOpen}
use Rattle.store_rows.proofs.TakenBack.{open_if_sound, reads_back}
use Rattle.store_rows.proofs.checking.fits.Goals as goal

holds : {A E : Type 0} (done : Result A E) (P : Type 0) → P → OnOk done P
holds (Ok x) P is = is
holds (Err why) P is = tt

pub returns : goal.returns
returns g c =
    let s = g.S.Store in
    let new = c.rollback.new.self in
    let opened : IsClean s new → IsOpen s new = λ clean. open_if_sound s g.met.S.Store.broken_if_shut new (sym (c.is_broken.ensures clean) ∙ c.if-is_broken.false) in
    rw (sym c.log.view_is) record {
      reads = reads_back s c.log.inside.trees c.compare-found.new.trees new c.log.invariant c.compare-found.ensures.uncommitted c.rollback.ensures.undone c.rollback.ensures.quiet
          c.compare-found.result (λ clean. holds c.compare-found.result (IsOpen s new) (opened clean));
    }
