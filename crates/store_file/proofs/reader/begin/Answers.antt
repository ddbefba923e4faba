use Rattle.std.proofs.Common.{[], inl, refl, sym}
use Rattle.store_file.specs.Logs.{trees_of}
use Rattle.store_file.proofs.Walking.{uncommitted_steady}
use Rattle.store_file.proofs.reader.begin.Goals as goal

pub returns-in-Ok-clause-begun : goal.returns-in-Ok-clause-begun
returns-in-Ok-clause-begun g c =
    let s = g.S.Store in
    let did = c.in-Ok.ensures in
    let uncommitted = c.seek_first.ensures.uncommitted in
    rw (sym c.log.view_is) record {
      seen = [];
      read = record {
        live = did.live;
        passed = λ clean. (trees_of s c.log.inside.trees 0, did.begun clean, refl);
        same = did.same;
        steady = uncommitted_steady s c.log.inside.trees c.seek_first.new.trees uncommitted;
        crash = uncommitted.quiet.outcomes;
      };
      count = refl;
      groups = λ clean. inl refl;
    }
