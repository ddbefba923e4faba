use Rattle.std.proofs.Common.{arith, ◌≡◌, ℕ, List, [], ◌∷◌, ◌++◌, length, sym, ap, ◌∙◌}
use Rattle.std.specs.List.{flat_map}
use Rattle.std.proofs.lemmas.List.{length-append}
use Rattle.c_rows.specs.Values.{by_bytes_all}
use Rattle.c_values.specs.Lists.{sized_row}
use Rattle.c_values.proofs.Lists.{read_more}
use Rattle.c_rows.proofs.reading.rows_of.Goals as goal

pub entries-preserved : goal.entries-preserved
entries-preserved c =
    let kept = c.entries.invariant in let done = by_bytes_all c.entries.rows.items in
    let row : List ℕ × List ℕ = (c.in-Some.key.now, c.in-Some.value.now) in
    let more : by_bytes_all c.push_row.new.rows.items ≡ done ++ row ∷ [] = c.in_ok-push_row.ensures in
    record {
      read = read_more sized_row done row c.args.body.now c.entries.rest.now c.in-Some.behind.now kept.read c.in-Some.ensures.pair
          ∙ ap (λ rows. flat_map sized_row rows ++ c.in-Some.behind.now) (sym more);
      counted = ap length more ∙ omega (arith, kept.counted, length-append done (row ∷ []));
    }
