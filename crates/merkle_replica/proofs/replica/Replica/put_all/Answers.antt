use Rattle.std.proofs.Common.{rules, refl, sym, ◌∙◌, ap, inl, arith}
use Rattle.std.proofs.lemmas.Fn.{always_returns_same}
use Rattle.std.specs.Ordering.{is_lt}
use Rattle.merkle_replica.proofs.PutRows.{puts_gather, puts_to}
use Rattle.merkle_replica.proofs.Searches.{went_well}
use Rattle.merkle_replica.proofs.Sorting.{refused_some, lower, rows_compare, sorted_rises, gathers_sorted}
use Rattle.merkle_replica.proofs.replica.Replica.put_all.Goals as goal

pub join_rising-requires : goal.join_rising-requires
join_rising-requires g c =
    let cmp = g.K.Ord.cmp in
    let o = g.met.K.Ord.total in
    let sorted = went_well c.sort_by.result (sym c.is_ok-is_sorted.ensures.value ∙ c.if-not-is_sorted.false) c.sort_by.ensures.sorted in
    (search rules, (sorted_rises cmp o c.sort_by.new.self.items (sorted (lower cmp o) (rows_compare cmp o) (always_returns_same _ _ _ (λ a r f called. (ap is_lt (search rules), search rules))))))

pub returns-in-Ok-clause-joined : goal.returns-in-Ok-clause-joined
returns-in-Ok-clause-joined g c =
    let cmp = g.K.Ord.cmp in
    let o = g.met.K.Ord.total in
    puts_gather cmp o g.V.PartialEq.eq g.met.V.Eq.laws g.V.Join.join_of g.met.V.Join.joining c.args.rows.items c.args.self.now.rows c.join_rising.new.self.rows c.rows_ascend.ensures
    (gathers_sorted cmp o g.V.PartialEq.eq g.V.Join.join_of c.args.self.now.rows c.args.rows.items c.sort_by.new.self.items c.join_rising.new.self.rows (search rules)
    (c.sort_by.ensures.stable (lower cmp o) (rows_compare cmp o) (always_returns_same _ _ _ (λ a r f called. (ap is_lt (search rules), search rules)))) c.in-Ok.ensures.all)

pub returns-then-not-is_sorted-clause-cut : goal.returns-then-not-is_sorted-clause-cut
returns-then-not-is_sorted-clause-cut g c =
    let some = refused_some c.sort_by.result c.args.rows.len (sym c.is_ok-is_sorted.ensures.value ∙ c.if-not-is_sorted.true) c.sort_by.ensures.succeeds in
    inl (refl, omega (arith, some, c.args.rows.ok.0), refl)

pub returns-in-Err-clause-cut : goal.returns-in-Err-clause-cut
returns-in-Err-clause-cut g c =
    let cmp = g.K.Ord.cmp in
    let o = g.met.K.Ord.total in
    let sorted = went_well c.sort_by.result (sym c.is_ok-is_sorted.ensures.value ∙ c.if-not-is_sorted.false) c.sort_by.ensures.sorted in
    let rises = sorted_rises cmp o c.sort_by.new.self.items (sorted (lower cmp o) (rows_compare cmp o) (always_returns_same _ _ _ (λ a r f called. (ap is_lt (search rules), search rules)))) in
    let stable = c.sort_by.ensures.stable (lower cmp o) (rows_compare cmp o) (always_returns_same _ _ _ (λ a r f called. (ap is_lt (search rules), search rules))) in
    puts_to cmp o g.V.PartialEq.eq g.met.V.Eq.laws g.V.Join.join_of g.met.V.Join.joining c.args.rows.items c.sort_by.new.self.items c.args.self.now.rows
    c.join_rising.new.self.rows c.in-Err.done c.rows_ascend.ensures
    (search rules) (c.sort_by.ensures.permutation, rises, stable) c.in-Err.ensures.cut
