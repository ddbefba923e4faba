use Rattle.std.proofs.Common.{refl, sym, ◌∙◌}
use Rattle.c_values.proofs.Pairs.{del_absent, del_present}
use Rattle.c_sides.proofs.byte_sync.ByteSync.remove.Goals as goal

pub returns-in-None-clause-done : goal.returns-in-None-clause-done
returns-in-None-clause-done c =
    record {
      tree = del_absent c.args.self.now.tree c.remove.new.self c.in_ok-own_key.own_key c.args.key.now c.in_ok-own_key.ensures.items c.in_ok-remove.ensures.map
          c.remove.ensures.settings (sym c.in_ok-remove.ensures.found ∙ c.in-None.is);
      talk = (refl, refl, refl);
    }

pub returns-clause-done : goal.returns-clause-done
returns-clause-done c =
    record {
      tree = del_present c.args.self.now.tree c.remove.new.self c.in_ok-own_key.own_key c.args.key.now c.in_ok-own_key.ensures.items c.in_ok-remove.ensures.map
          c.remove.ensures.settings c.in-Some.field-0 (sym c.in_ok-remove.ensures.found ∙ c.in-Some.is);
      talk = (refl, refl, refl);
    }
