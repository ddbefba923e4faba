use Rattle.std.proofs.Common.{◌≡◌, ◌<◌, nat_eq, true, length, refl, sym, subst}
use Rattle.std.specs.String.{string_cmp_total}
use Rattle.key_order.specs.Map.{rows_in}
use Rattle.key_order.specs.Text.{text_order}
use Rattle.key_order.proofs.SameRows.{same_rows-length}
use Rattle.examples.proofs.Told.{same_page_ranges, same_ranges, same_rows, rows_asked_for, first_joined}
use Rattle.examples.proofs.wire.messages_are_a_pull.Goals as goal

pub returns-clause-pull : goal.returns-clause-pull
returns-clause-pull c local peer ranges asked rows after up (theirs, of_peer, each, sent) (came, found, each_came, read, answers, asks)
    (spans, read_spans, each_row, sent_rows) (got, each_got, read_rows, joins) = (
      record { ranges = found; joined = length (rows_in text_order found peer.rows) },
      c.steps_are_a_pull.ensures.pull local peer found after up
          (record {
            theirs = theirs;
            came = came;
            asked = spans;
            rows = got;
            of_peer = of_peer;
            ranges_came = same_page_ranges theirs came ranges sent read;
            answered = answers;
            asked_came = same_ranges found spans asked asks read_spans;
            rows_came = same_rows (rows_in text_order spans peer.rows) got rows sent_rows read_rows;
            joins = joins;
          }),
    )

pub returns-clause-part : goal.returns-clause-part
returns-clause-part c local peer ranges asked rows after up (theirs, of_peer, each, sent) (came, found, each_came, read, answers, asks)
    (spans, read_spans, each_row, sent_rows) (got, done, each_got, read_rows, some, not_all, joins) =
    let within = rows_in text_order found peer.rows in
    let same = rows_asked_for peer.rows found spans got asked rows asks read_spans sent_rows read_rows in (
      record { ranges = found; joined = length within },
      done,
      record {
        answered = c.steps_are_a_pull.ensures.answer local peer theirs came found up of_peer (same_page_ranges theirs came ranges sent read) answers;
        counted = refl;
        some = some;
        not_all = subst (λ n. done < n) (sym (same_rows-length text_order string_cmp_total (λ x y. nat_eq x y ≡ true) within got same)) not_all;
        joins = first_joined local.rows within got after done same joins;
      },
    )
