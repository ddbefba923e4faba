use Rattle.std.proofs.Common.{rules, arith, ◌<◌, ◌^◌, ◌++◌, length, sym, ap, ◌∙◌}
use Rattle.std.proofs.lemmas.List.{length-append, length-take-le, take-append-drop}
use Rattle.c_values.specs.Lists.{sized_bytes}
use Rattle.c_trees.proofs.Ranges.{as_text}
use Rattle.c_values.proofs.Strings.{one_text}
use Rattle.c_trees.proofs.reading.keyed_of.Goals as goal

pub returns-clause-keyed : goal.returns-clause-keyed
returns-clause-keyed c =
    let key = c.in_ok-key.key.now in let chunk = c.in_ok-digest.ensures.cases in
    c.in_ok-key.ensures.text ∙ ap (λ t. sized_bytes key ++ t) (sym (take-append-drop 16 c.in_ok-key.rest.now) ∙ (λ i. sym chunk.0 i ++ sym chunk.1 i))
    ∙ sym (as_text (key, c.in_ok-digest.digest.now) c.in_ok-digest.rest.now)

pub returns-clause-sized : goal.returns-clause-sized
returns-clause-sized c =
    let chunk = c.in_ok-digest.ensures.cases in
    ap length chunk.0 ∙ length-take-le 16 c.in_ok-key.rest.now (omega (arith, chunk.2))

pub returns-in_err-digest-clause-none : goal.returns-in_err-digest-clause-none
returns-in_err-digest-clause-none c none row rest sized e =
    let front = c.in_ok-key.ensures.text in
    let short : length c.args.bytes.now < 2 ^ 64 = search rules in
    let both = one_text c.in_ok-key.key.now row.0 c.in_ok-key.rest.now (row.1 ++ rest) (omega (arith, ap length front)) (sym front ∙ e ∙ as_text row rest) in
    let few : length c.in_ok-key.rest.now < 16 = c.in_err-digest.ensures.cases in
    omega (arith, ap length both.1, length-append row.1 rest)
