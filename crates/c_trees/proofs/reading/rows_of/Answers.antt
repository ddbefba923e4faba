use Rattle.std.proofs.Common.{rules, arith, ◌<◌, ◌^◌, ℕ, List, [], ◌∷◌, ◌++◌, length, sym, ap, ◌∙◌}
use Rattle.std.specs.Bool.{⊤}
use Rattle.std.proofs.lemmas.List.{length-append, map-append}
use Rattle.merkle_digest.specs.SipHash.{siphash128}
use Rattle.c_values.specs.Lists.{sized_row}
use Rattle.c_trees.proofs.Lists.{each_trivial, none_left, one_left}
use Rattle.c_values.proofs.Lists.{read_more}
use Rattle.c_trees.proofs.Ranges.{row_ends}
use Rattle.c_trees.proofs.reading.rows_of.Goals as goal

pub returns-in_default-clause-malformed : goal.returns-in_default-clause-malformed
returns-in_default-clause-malformed c is all count e =
    let kept = c.entries.invariant in
    let short : length c.args.body.now < 2 ^ 64 = search rules in
    let next = one_left (λ _. ⊤) sized_row row_ends all kept.0 c.entries.rest.now (each_trivial all) (each_trivial kept.0) (omega (arith, kept.2, count))
    (omega (arith, ap length e)) (sym e ∙ kept.1) in
    c.pair_of.ensures.none (c.in_default.is) next.0 next.1 next.3

pub entries-preserved : goal.entries-preserved
entries-preserved c =
    let kept = c.entries.invariant in
    let h = siphash128 c.args.hasher.now.key in
    let row : List ℕ × List ℕ = (c.in-Some.key.now, c.in-Some.value.now) in (
      kept.0 ++ row ∷ [],
      read_more sized_row kept.0 row c.args.body.now c.entries.rest.now c.in-Some.behind.now kept.1 c.in-Some.ensures.pair,
      omega (arith, kept.2, length-append kept.0 (row ∷ [])),
      c.in_ok-push_digest.ensures ∙ (λ i. kept.3 i ++ (c.in-Some.key.now, c.hash_bytes.ensures i) ∷ []) ∙ sym (map-append (λ r. (r.0, h r.1)) kept.0 (row ∷ [])),
    )

pub returns-clause-malformed : goal.returns-clause-malformed
returns-clause-malformed c is all count e =
    let kept = c.entries.invariant in
    let short : length c.args.body.now < 2 ^ 64 = search rules in
    c.all_read.ensures.malformed is
    (none_left (λ _. ⊤) sized_row row_ends all kept.0 c.entries.rest.now (each_trivial all) (each_trivial kept.0) (omega (arith, kept.2, count))
    (omega (arith, ap length e)) (sym e ∙ kept.1))
