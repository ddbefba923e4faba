use Rattle.std.proofs.Common.{rules, true, ◌≡◌, get_or, drop, refl, sym, subst, ◌∙◌, arith}
use Rattle.std.specs.List.{AllByRecursion}
use Rattle.key_order.specs.Map.{rows_in}
use Rattle.key_order.specs.Order.{Below}
use Rattle.merkle_replica.specs.Answers.{spans_of, IsDone, IsPartlyDone}
use Rattle.key_order.proofs.Orders.{low_is_up}
use Rattle.merkle_replica.specs.Contents.{IsKept}
use Rattle.merkle_replica.specs.Parted.{whole}
use Rattle.merkle_replica.proofs.Searches.{went, refused}
use Rattle.merkle_replica.proofs.RowsInRanges.{Joins, joins_none, joins_past, joins_more, stopped_short, all_done}
use Rattle.merkle_replica.specs.Seek.{begins_upto}
use Rattle.merkle_replica.proofs.Seeks.{rows_rise, first_upto, first_low, some_range}
use Rattle.merkle_replica.proofs.RowJoins.{stopped-none, low-further}
use Rattle.merkle_replica.proofs.merge.join_all.Goals as goal
use Rattle.merkle_replica.proofs.merge.join_all.Goals.{then-found+else-is_err, else-found}

-- there is a range, since a row is in one
pub bounds-ranges-0 : goal.bounds-ranges-0
bounds-ranges-0 g c = some_range g.K.Ord.cmp g.met.K.Ord.total c.args.ranges.now c.args.theirs.now (omega (arith, c.if-joined-eq0.false, c.count_within-joined.ensures))

pub returns-in_default-clause-stopped : goal.returns-in_default-clause-stopped
returns-in_default-clause-stopped g c =
    stopped-none g.K.Ord.cmp g.met.K.Ord.total g.V.PartialEq.eq g.met.V.Eq.laws g.V.Join.join_of g.met.V.Join.joining
    (rows_in g.K.Ord.cmp (spans_of c.args.ranges.now) c.args.theirs.now) c.args.rows.now.items c.part.new.rows.items c.count_within-joined.result
    c.count_within-joined.ensures (omega (arith, c.if-joined-eq0.false)) c.in_default.ensures.unchanged c.requires.kept.ascending

pub joining-init : goal.joining-init
joining-init g c =
    let rows = c.args.rows.now.items in
    let theirs = c.args.theirs.now in
    let w = c.in-Ok.ensures.whole in
    let ss = spans_of c.args.ranges.now in
    record {
      inside = omega arith;
      joins = subst (λ x. Joins g.K.Ord.cmp g.met.K.Ord.total g.V.PartialEq.eq g.met.V.Eq.laws g.V.Join.join_of g.met.V.Join.joining ss theirs ss 0 rows 0 x) (sym w)
          (joins_none g.K.Ord.cmp g.met.K.Ord.total g.V.PartialEq.eq g.met.V.Eq.laws g.V.Join.join_of g.met.V.Join.joining ss theirs rows c.requires.apart c.requires.kept.ascending);
      few = omega arith;
      kept = subst (λ x. IsKept g.K.Ord.cmp g.H.Hasher-2.digest_of (record { rows = x; tree = c.args.tree.now })) (sym w) c.requires.kept;
      low = λ j d p q b. first_low g.K.Ord.cmp g.met.K.Ord.total c.args.ranges.now c.index-ranges-0.result (get_or theirs j d).0 c.part.new.rows.items b c.in-Ok.ensures.below;
      room = omega (arith, c.in-Ok.ensures.room);
      hasher = refl;
      base = refl;
      format = refl;
    }

pub take_row-requires : goal.take_row-requires
take_row-requires g c =
    let ss = spans_of c.args.ranges.now in
    let row = c.row-item.result in
    let i = c.joining.row-index in
    let stopped = stopped_short g.K.Ord.cmp g.met.K.Ord.total g.V.PartialEq.eq g.met.V.Eq.laws g.V.Join.join_of g.met.V.Join.joining ss c.args.theirs.now
    (drop c.joining.at ss) (drop c.seek-next.result.0 ss) i row
    c.requires.ascending c.joining-test.true c.row-item.is c.seek-next.ensures.place c.args.rows.now.items (whole c.joining.rows.items c.joining.back.items) c.joining.done c.joining.invariant.joins
    (sym c.seek-next.ensures.found ∙ c.if-found.true) c.count_within-joined.result c.count_within-joined.ensures in (
      search rules,
      (
        c.joining.invariant.kept,
        (
          subst (λ (r : g.row.K.Denot × g.row.V.Denot). begins_upto g.K.Ord.cmp r.0 ss ≡ true
              → AllByRecursion (λ (s : g.row.K.Denot × g.row.V.Denot). Below g.K.Ord.cmp s.0 r.0) c.joining.rows.items) (sym c.row-item.is)
              (c.joining.invariant.low i row (omega arith) (omega (arith, c.joining-test.true)))
              (first_upto g.K.Ord.cmp g.met.K.Ord.total ss c.seek-next.result.0 row.0 c.requires.apart c.requires.ordered (sym c.seek-next.ensures.found ∙ c.if-found.true)),
          omega (arith, c.joining.invariant.room, stopped.not_all),
        ),
      ),
    )

pub turn_over-requires : goal.turn_over-requires
turn_over-requires g c =
    let ss = spans_of c.args.ranges.now in
    let stopped = stopped_short g.K.Ord.cmp g.met.K.Ord.total g.V.PartialEq.eq g.met.V.Eq.laws g.V.Join.join_of g.met.V.Join.joining ss c.args.theirs.now
    (drop c.joining.at ss) (drop c.seek-next.result.0 ss) c.joining.row-index c.row-item.result
    c.requires.ascending c.joining-test.true c.row-item.is c.seek-next.ensures.place c.args.rows.now.items (whole c.joining.rows.items c.joining.back.items) c.joining.done c.joining.invariant.joins
    (sym c.seek-next.ensures.found ∙ c.if-found.true) c.count_within-joined.result c.count_within-joined.ensures in
    record { room = omega (arith, c.joining.invariant.room, stopped.not_all, c.take_row.ensures.len, c.take_row.ensures.capacity) }

pub returns-then-is_err-clause-stopped : goal.returns-then-is_err-clause-stopped
returns-then-is_err-clause-stopped g c =
    let ss = spans_of c.args.ranges.now in
    let stopped = stopped_short g.K.Ord.cmp g.met.K.Ord.total g.V.PartialEq.eq g.met.V.Eq.laws g.V.Join.join_of g.met.V.Join.joining ss c.args.theirs.now
    (drop c.joining.at ss) (drop c.seek-next.result.0 ss) c.joining.row-index c.row-item.result
    c.requires.ascending c.joining-test.true c.row-item.is c.seek-next.ensures.place c.args.rows.now.items (whole c.joining.rows.items c.joining.back.items) c.joining.done c.joining.invariant.joins
    (sym c.seek-next.ensures.found ∙ c.if-found.true) c.count_within-joined.result c.count_within-joined.ensures in
    let same = refused c.take_row.result (sym c.is_err.ensures.value ∙ c.if-is_err.true) c.take_row.ensures.unchanged in
    subst (IsPartlyDone g.K.Ord.cmp g.V.PartialEq.eq g.V.Join.join_of
    (rows_in g.K.Ord.cmp ss c.args.theirs.now) c.args.rows.now.items c.joining.done c.count_within-joined.result) (sym (c.turn_over.ensures.moved ∙ same)) stopped

pub joining-preserved : goal.joining-preserved
joining-preserved g c =
    let ss = spans_of c.args.ranges.now in
    let theirs = c.args.theirs.now in
    let row = c.row-item.result in
    let i = c.joining.row-index in
    let few = c.joining.invariant.few in
    elim c.if-found.branch [
      | then-found+else-is_err w ↦
          rw (w.rows-is, w.tree-is, w.back-is, w.done-is)
          (record {
            inside = c.seek-next.ensures.bound;
            joins = joins_more g.K.Ord.cmp g.met.K.Ord.total g.V.PartialEq.eq g.met.V.Eq.laws g.V.Join.join_of g.met.V.Join.joining ss theirs
                (drop c.joining.at ss) (drop c.seek-next.result.0 ss) i row
                c.requires.ascending c.joining-test.true c.row-item.is c.seek-next.ensures.place c.args.rows.now.items
                (whole c.joining.rows.items c.joining.back.items) c.joining.done c.joining.invariant.joins
                (sym c.seek-next.ensures.found ∙ w.if-found.true) (whole w.take_row.new.front.items w.take_row.new.back.items)
                (went w.take_row.result (sym w.is_err.ensures.value ∙ w.if-is_err.false) w.take_row.ensures.joined);
            few = omega arith;
            kept = w.take_row.ensures.kept;
            low = λ j d p q b.
                let low = went w.take_row.result (sym w.is_err.ensures.value ∙ w.if-is_err.false) w.take_row.ensures.below in
                let rise = rows_rise g.K.Ord.cmp g.met.K.Ord.total theirs i j row d c.requires.ascending (omega (arith, p)) q in
                low-further g.K.Ord.cmp g.met.K.Ord.total row.0 (get_or theirs j d).0 w.take_row.new.front.items
                (low_is_up g.K.Ord.cmp g.met.K.Ord.total row.0 (get_or theirs j d).0
                (subst (λ (r : g.row.K.Denot × g.row.V.Denot). Below g.K.Ord.cmp r.0 (get_or theirs j d).0) (sym c.row-item.is) rise)) low;
            room = omega (arith, c.joining.invariant.room, w.take_row.ensures.len, w.take_row.ensures.capacity);
            hasher = w.take_row.ensures.settings.0 ∙ c.joining.invariant.hasher;
            base = w.take_row.ensures.settings.1 ∙ c.joining.invariant.base;
            format = w.take_row.ensures.settings.2 ∙ c.joining.invariant.format;
          })
      | else-found w ↦
          rw (w.rows-is, w.tree-is, w.back-is, w.done-is)
          (record {
            inside = c.seek-next.ensures.bound;
            joins = joins_past g.K.Ord.cmp g.met.K.Ord.total g.V.PartialEq.eq g.met.V.Eq.laws g.V.Join.join_of g.met.V.Join.joining ss theirs
                (drop c.joining.at ss) (drop c.seek-next.result.0 ss) i row
                c.requires.ascending c.joining-test.true c.row-item.is c.seek-next.ensures.place c.args.rows.now.items
                (whole c.joining.rows.items c.joining.back.items) c.joining.done c.joining.invariant.joins
                (sym c.seek-next.ensures.found ∙ w.if-found.false);
            few = omega arith;
            kept = c.joining.invariant.kept;
            low = λ j d p q b. c.joining.invariant.low j d (omega (arith, p)) q b;
            room = c.joining.invariant.room;
            hasher = c.joining.invariant.hasher;
            base = c.joining.invariant.base;
            format = c.joining.invariant.format;
          })
    ]

pub returns-clause-all : goal.returns-clause-all
returns-clause-all g c =
    let ss = spans_of c.args.ranges.now in
    subst (IsDone g.K.Ord.cmp g.V.PartialEq.eq g.V.Join.join_of (rows_in g.K.Ord.cmp ss c.args.theirs.now) c.args.rows.now.items c.joining.done) (sym c.turn_over-2.ensures.moved)
    (all_done g.K.Ord.cmp g.met.K.Ord.total g.V.PartialEq.eq g.met.V.Eq.laws g.V.Join.join_of g.met.V.Join.joining ss c.args.theirs.now
    (drop c.joining.at ss) c.joining.row-index c.args.rows.now.items (whole c.joining.rows.items c.joining.back.items) c.joining.done (omega arith) c.joining.invariant.joins)
