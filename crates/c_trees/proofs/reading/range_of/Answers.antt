use Rattle.std.proofs.Common.{rules, arith, ◌≡◌, ℕ, ◌<◌, ◌^◌, ◌++◌, false, true, List, length, refl, sym, ap, subst, is_gt, ◌∙◌}
use Rattle.std.proofs.lemmas.List.{length-append, take-append-drop}
use Rattle.merkle_diff.specs.Entry.{Entry}
use Rattle.key_order.specs.Order.{Upto}
use Rattle.c_trees.specs.Lists.{IsPageRange}
use Rattle.c_values.specs.Keys.{bytes_cmp}
use Rattle.c_trees.specs.Wire.{range_entry}
use Rattle.c_values.specs.Lists.{sized_row}
use Rattle.c_trees.proofs.Ranges.{as_row}
use Rattle.c_values.proofs.Strings.{one_row}
use Rattle.c_trees.proofs.reading.range_of.Goals as goal

pub returns-in_err-first-clause-none : goal.returns-in_err-first-clause-none
returns-in_err-first-clause-none c is e rest range at =
    c.pair_of.ensures.none c.in_err-first.was (e.first, e.last) (e.digest ++ rest) (at ∙ as_row e rest)

pub returns-in_err-digest-clause-none : goal.returns-in_err-digest-clause-none
returns-in_err-digest-clause-none c is e rest range at =
    let pair = c.in_ok-first.ensures.pair in
    let short : length c.args.bytes.now < 2 ^ 64 = search rules in
    let both = one_row (c.in_ok-first.first.now, c.in_ok-first.last.now) (e.first, e.last) c.in_ok-first.rest.now (e.digest ++ rest) (omega (arith, ap length pair)) (sym pair ∙ at ∙ as_row e rest) in
    let few : length c.in_ok-first.rest.now < 16 = c.in_err-digest.ensures.cases in
    omega (arith, ap length both.1, length-append e.digest rest, range.0)

pub returns-in_err-range-clause-none : goal.returns-in_err-range-clause-none
returns-in_err-range-clause-none c is e rest range at =
    let pair = c.in_ok-first.ensures.pair in
    let short : length c.args.bytes.now < 2 ^ 64 = search rules in
    let both = one_row (c.in_ok-first.first.now, c.in_ok-first.last.now) (e.first, e.last) c.in_ok-first.rest.now (e.digest ++ rest) (omega (arith, ap length pair)) (sym pair ∙ at ∙ as_row e rest) in
    let firsts = c.new.ensures ∙ ap (λ r. r.0) both.0 in
    let lasts = c.new-2.ensures ∙ ap (λ r. r.1) both.0 in
    let upto : Upto bytes_cmp c.new.result c.new-2.result = (λ i. is_gt (bytes_cmp (firsts i) (lasts i))) ∙ range.1 in
    let wrong : false ≡ true = c.in_err-range.ensures.in_order.1 upto in
    absurd (search rules)

pub returns-clause-range : goal.returns-clause-range
returns-clause-range c =
    let chunk = c.in_ok-digest.ensures.cases in
    let rest = c.in_ok-digest.rest.now in
    let e : Entry (List ℕ) (List ℕ) = record { first = c.new.result; last = c.new-2.result; digest = c.new-3.result } in
    let parts : c.in_ok-first.rest.now ≡ c.new-3.result ++ rest = sym (take-append-drop 16 c.in_ok-first.rest.now) ∙ (λ i. (sym chunk.0 ∙ sym c.new-3.ensures) i ++ sym chunk.1 i) in
    let spelled : c.args.bytes.now ≡ range_entry e ++ rest =
    c.in_ok-first.ensures.pair ∙ (λ i. sized_row (sym c.new.ensures i, sym c.new-2.ensures i) ++ parts i) ∙ sym (as_row e rest) in
    let long : length c.new-3.result ≡ 16 = search rules in
    subst (λ x. (c.args.bytes.now ≡ range_entry x ++ rest) × IsPageRange x) (sym c.in_ok-range.ensures.range) (spelled, (long, c.in_ok-range.ensures.in_order.0 refl))
