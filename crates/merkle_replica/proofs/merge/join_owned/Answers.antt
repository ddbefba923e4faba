use Rattle.std.proofs.Common.{rules, ◌≡◌, ◌+◌, [], ◌∷◌, length, length-append, refl, ap, sym, subst, ◌∙◌, arith}
use Rattle.std.specs.Vec.Iter.{into_iter_items}
use Rattle.std.specs.List.{AllByRecursion}
use Rattle.key_order.specs.Order.{Below}
use Rattle.merkle_replica.specs.Contents.{IsKept}
use Rattle.merkle_replica.specs.Parted.{whole}
use Rattle.merkle_replica.specs.Puts.{IsRising, HasGathered, IsGatheredTo}
use Rattle.merkle_replica.proofs.Searches.{went, refused}
use Rattle.merkle_replica.proofs.ListIterators.{one_yielded}
use Rattle.merkle_replica.proofs.PutRows.{gathers_none, gathers_more, gathered_to}
use Rattle.merkle_replica.proofs.RowJoins.{low-all, low_first}
use Rattle.merkle_replica.proofs.merge.join_owned.Goals as goal

pub joining-init : goal.joining-init
joining-init g c =
    let cmp = g.K.Ord.cmp in
    let rows = c.args.rows.now.items in
    let theirs = c.args.theirs.items in
    let w = c.in-Ok.ensures.whole in
    let came : into_iter_items c.into_iter-row-iterator.result ≡ theirs = search rules in
    record {
      left = came;
      count = search rules;
      taken = refl;
      gathers = subst (HasGathered cmp g.V.PartialEq.eq g.V.Join.join_of rows []) (sym w)
          (gathers_none cmp g.met.K.Ord.total g.V.PartialEq.eq g.met.V.Eq.laws g.V.Join.join_of g.met.V.Join.joining rows c.requires.kept.ascending);
      unchanged = λ z. w;
      kept = subst (λ x. IsKept cmp g.H.Hasher-2.digest_of (record { rows = x; tree = c.args.tree.now })) (sym w) c.requires.kept;
      rising = subst (IsRising cmp) (sym came) c.requires.rising;
      low = subst (AllByRecursion (λ (r : g.row.K.Denot × g.row.V.Denot). AllByRecursion
          (λ (s : g.row.K.Denot × g.row.V.Denot). Below cmp s.0 r.0) c.part.new.rows.items)) (sym came)
          (low_first cmp g.met.K.Ord.total theirs c.index.result.now c.part.new.rows.items c.index.ensures c.requires.rising c.in-Ok.ensures.below);
      room = omega (arith, c.in-Ok.ensures.room, ap length came, c.len-joined.ensures, c.args.theirs.ok.0);
      hasher = refl;
      base = refl;
      format = refl;
    }

pub returns-then-is_err-clause-cut : goal.returns-then-is_err-clause-cut
returns-then-is_err-clause-cut g c =
    let i = c.joining.invariant in
    let same = refused c.join_here.result (sym c.is_err.ensures.value ∙ c.if-is_err.true) c.join_here.ensures.unchanged in
    let steps : into_iter_items c.joining.row-iterator ≡ c.in-Some.row ∷ into_iter_items c.next.new.self = c.in-Some.ensures.steps.0 in
    subst (λ now. IsGatheredTo g.K.Ord.cmp g.V.PartialEq.eq g.V.Join.join_of c.args.rows.now.items c.args.theirs.items now c.joining.done) (sym (c.turn_over.ensures.moved ∙ same))
    (gathered_to g.K.Ord.cmp g.met.K.Ord.total g.V.PartialEq.eq g.V.Join.join_of c.args.rows.now.items c.joining.yielded
    (into_iter_items c.next.new.self) c.args.theirs.items (whole c.joining.rows.items c.joining.back.items) c.in-Some.row c.joining.done
    (rw (← steps) i.left) i.taken i.gathers i.unchanged)

pub joining-preserved : goal.joining-preserved
joining-preserved g c =
    let cmp = g.K.Ord.cmp in
    let i = c.joining.invariant in
    let r = c.in-Some.row in
    let steps : into_iter_items c.joining.row-iterator ≡ r ∷ into_iter_items c.next.new.self = c.in-Some.ensures.steps.0 in
    let given = one_yielded c.joining.row-iterator c.next.new.self c.joining.yielded c.args.theirs.items r c.in-Some.ensures.steps i.left i.count in
    let up : IsRising cmp (r ∷ into_iter_items c.next.new.self) = subst (IsRising cmp) steps i.rising in
    let joined = went c.join_here.result (sym c.is_err.ensures.value ∙ c.if-is_err.false) c.join_here.ensures.joined in
    record {
      left = given.0;
      count = given.1;
      taken = length-append c.joining.yielded (r ∷ []) ∙ ap (λ n. n + 1) i.taken;
      gathers = gathers_more cmp g.met.K.Ord.total g.V.PartialEq.eq g.met.V.Eq.laws g.V.Join.join_of g.met.V.Join.joining c.args.rows.now.items
          c.joining.yielded (whole c.joining.rows.items c.joining.back.items) (whole c.join_here.new.front.items c.join_here.new.back.items) r i.gathers joined;
      unchanged = λ z. absurd (omega (arith, z));
      kept = c.join_here.ensures.kept;
      rising = up.1;
      low = low-all cmp g.met.K.Ord.total r.0 c.join_here.new.front.items (into_iter_items c.next.new.self) c.join_here.ensures.below up.0;
      room = let short = ap length steps in omega (arith, short, i.room, c.join_here.ensures.len, c.join_here.ensures.capacity);
      hasher = c.join_here.ensures.settings.0 ∙ i.hasher;
      base = c.join_here.ensures.settings.1 ∙ i.base;
      format = c.join_here.ensures.settings.2 ∙ i.format;
    }
