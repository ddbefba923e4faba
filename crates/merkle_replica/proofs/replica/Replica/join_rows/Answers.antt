use Rattle.std.proofs.Common.{rules, take, subst}
use Rattle.key_order.specs.Map.{IsMap}
use Rattle.merkle_replica.proofs.PutRows.{map_rises, map_taken, gathers_map}
use Rattle.merkle_replica.proofs.replica.Replica.join_rows.Goals as goal

pub join_rising-requires : goal.join_rising-requires
join_rising-requires g c =
    let up : IsMap g.K.Ord.cmp c.args.rows.items = subst (IsMap g.K.Ord.cmp) c.deref.ensures.value (c.ascend.ensures.0 c.if-not-ascend.false) in
    (search rules, (map_rises g.K.Ord.cmp g.met.K.Ord.total c.args.rows.items up))

pub returns-in-Ok-clause-joined : goal.returns-in-Ok-clause-joined
returns-in-Ok-clause-joined g c =
    let up : IsMap g.K.Ord.cmp c.args.rows.items = subst (IsMap g.K.Ord.cmp) c.deref.ensures.value (c.ascend.ensures.0 c.if-not-ascend.false) in
    gathers_map g.K.Ord.cmp g.met.K.Ord.total g.V.PartialEq.eq g.met.V.Eq.laws g.V.Join.join_of g.met.V.Join.joining c.args.self.now.rows c.args.rows.items
    c.join_rising.new.self.rows up c.in-Ok.ensures.all

pub returns-in-Err-clause-refused : goal.returns-in-Err-clause-refused
returns-in-Err-clause-refused g c =
    let up : IsMap g.K.Ord.cmp c.args.rows.items = subst (IsMap g.K.Ord.cmp) c.deref.ensures.value (c.ascend.ensures.0 c.if-not-ascend.false) in
    let cut = c.in-Err.ensures.cut in (
      up,
      cut.not_all,
      gathers_map g.K.Ord.cmp g.met.K.Ord.total g.V.PartialEq.eq g.met.V.Eq.laws g.V.Join.join_of g.met.V.Join.joining c.args.self.now.rows
          (take c.in-Err.done c.args.rows.items) c.join_rising.new.self.rows (map_taken g.K.Ord.cmp g.met.K.Ord.total c.args.rows.items c.in-Err.done up) cut.gathers,
      cut.unchanged,
    )

pub returns-in-Ok-clause-unchanged : goal.returns-in-Ok-clause-unchanged
returns-in-Ok-clause-unchanged g c =
    let up : IsMap g.K.Ord.cmp c.args.rows.items = subst (IsMap g.K.Ord.cmp) c.deref.ensures.value (c.ascend.ensures.0 c.if-not-ascend.false) in
    λ n. absurd (n up)

pub returns-in-Err-clause-unchanged : goal.returns-in-Err-clause-unchanged
returns-in-Err-clause-unchanged g c =
    let up : IsMap g.K.Ord.cmp c.args.rows.items = subst (IsMap g.K.Ord.cmp) c.deref.ensures.value (c.ascend.ensures.0 c.if-not-ascend.false) in
    λ n. absurd (n up)
