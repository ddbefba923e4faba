use Rattle.std.proofs.Common.{rules, ◌≡◌, ◌+◌, [], ◌∷◌, length-append, refl, ap, sym, subst, ◌∙◌, arith}
use Rattle.std.specs.Vec.Iter.{into_iter_items}
use Rattle.merkle_replica.specs.Contents.{Contents}
use Rattle.merkle_replica.specs.Puts.{IsGatheredTo}
use Rattle.merkle_replica.proofs.Searches.{went, refused}
use Rattle.merkle_replica.proofs.ListIterators.{one_yielded}
use Rattle.merkle_replica.proofs.PutRows.{gathers_none, gathers_more, gathered_to}
use Rattle.merkle_replica.proofs.replica.Replica.join_each.Goals as goal

pub joining-init : goal.joining-init
joining-init g c =
    let came : into_iter_items c.into_iter-row-iterator.result ≡ c.args.theirs.items = search rules in
    record {
      left = came;
      count = search rules;
      taken = refl;
      gathers = gathers_none g.K.Ord.cmp g.met.K.Ord.total g.V.PartialEq.eq g.met.V.Eq.laws g.V.Join.join_of g.met.V.Join.joining c.args.self.now.rows c.rows_ascend.ensures;
      unchanged = λ z. refl;
      hasher = refl;
      base = refl;
      format = refl;
    }

pub returns-then-is_err-clause-cut : goal.returns-then-is_err-clause-cut
returns-then-is_err-clause-cut g c =
    let i = c.joining.invariant in
    let same = refused c.put.result (sym c.is_err.ensures.value ∙ c.if-is_err.true) c.put.ensures.unchanged in
    let steps : into_iter_items c.joining.row-iterator ≡ c.in-Some.row ∷ into_iter_items c.next.new.self = c.in-Some.ensures.steps.0 in
    subst (λ (v : Contents g.row.K.Denot g.row.V.Denot g.row.H.Denot). IsGatheredTo g.K.Ord.cmp g.V.PartialEq.eq g.V.Join.join_of c.args.self.now.rows
    c.args.theirs.items v.rows c.joining.done) (sym same)
    (gathered_to g.K.Ord.cmp g.met.K.Ord.total g.V.PartialEq.eq g.V.Join.join_of c.args.self.now.rows c.joining.yielded
    (into_iter_items c.next.new.self) c.args.theirs.items c.joining.self.rows c.in-Some.row c.joining.done
    (rw (← steps) i.left) i.taken i.gathers i.unchanged)

pub joining-preserved : goal.joining-preserved
joining-preserved g c =
    let cmp = g.K.Ord.cmp in
    let i = c.joining.invariant in
    let r = c.in-Some.row in
    let given = one_yielded c.joining.row-iterator c.next.new.self c.joining.yielded c.args.theirs.items r c.in-Some.ensures.steps i.left i.count in
    let joined = went c.put.result (sym c.is_err.ensures.value ∙ c.if-is_err.false) c.put.ensures.joined in
    record {
      left = given.0;
      count = given.1;
      taken = length-append c.joining.yielded (r ∷ []) ∙ ap (λ n. n + 1) i.taken;
      gathers = gathers_more cmp g.met.K.Ord.total g.V.PartialEq.eq g.met.V.Eq.laws g.V.Join.join_of g.met.V.Join.joining c.args.self.now.rows c.joining.yielded
          c.joining.self.rows c.put.new.self.rows r i.gathers joined;
      unchanged = λ z. absurd (omega (arith, z));
      hasher = c.put.ensures.settings.0 ∙ i.hasher;
      base = c.put.ensures.settings.1 ∙ i.base;
      format = c.put.ensures.settings.2 ∙ i.format;
    }
