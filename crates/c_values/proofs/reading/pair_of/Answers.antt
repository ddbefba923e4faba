use Rattle.std.proofs.Common.{rules, arith, ◌<◌, ◌^◌, ◌++◌, length, sym, ap, ◌∙◌}
use Rattle.std.proofs.lemmas.List.{append_assoc}
use Rattle.c_values.specs.Lists.{sized_bytes}
use Rattle.c_values.proofs.Strings.{one_text}
use Rattle.c_values.proofs.reading.pair_of.Goals as goal

pub returns-in_err-second-clause-none : goal.returns-in_err-second-clause-none
returns-in_err-second-clause-none c none row rest e =
    let front = c.in_ok-first.ensures.text in
    let short : length c.args.bytes.now < 2 ^ 64 = search rules in
    let both = one_text c.in_ok-first.first.now row.0 c.in_ok-first.rest.now (sized_bytes row.1 ++ rest) (omega (arith, ap length front))
    (sym front ∙ e ∙ append_assoc (sized_bytes row.0) (sized_bytes row.1) rest) in
    c.text_of-2.ensures.none c.in_err-second.was row.1 rest both.1
