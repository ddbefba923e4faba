use Rattle.std.proofs.Common.{rules, arith, ◌≡◌, ◌<◌, ◌^◌, List, ℕ, ◌++◌, length, take, sym, ap, ◌∙◌}
use Rattle.std.proofs.lemmas.List.{length-append, length-take-le, take-append-drop}
use Rattle.c_trees.specs.Spots.{EntryParts, digest_len, two_bytes}
use Rattle.c_trees.proofs.Spots.{one_two, parts_flat}
use Rattle.c_trees.proofs.entries.entry_of.Goals as goal

pub returns-in_ok-rest-clause-entry : goal.returns-in_ok-rest-clause-entry
returns-in_ok-rest-clause-entry c =
    let rest = c.in_ok-first.rest.now in
    let chunk = c.in_ok-rest.ensures.cases in
    let two = c.in_ok-first.ensures.two in
    let e : EntryParts = ((c.in_ok-first.first.now, c.in_ok-first.last.now), take 16 rest) in (
      take 16 rest,
      (two.0, length-take-le 16 rest (omega (arith, chunk.2)) ∙ ap digest_len (sym c.if-hashed.true)),
      two.1 ∙ ap (λ t. two_bytes c.args.plain e.0 ++ t) (sym (take-append-drop 16 rest) ∙ ap (λ t. take 16 rest ++ t) (sym chunk.1)) ∙ sym (parts_flat c.args.plain e c.in_ok-rest.rest.now),
    )

pub returns-in_err-rest-clause-none : goal.returns-in_err-rest-clause-none
returns-in_err-rest-clause-none c none e rest sized is =
    let two = c.in_ok-first.ensures.two in
    let short : length c.args.bytes.now < 2 ^ 64 = search rules in
    let keys : List ℕ × List ℕ = (c.in_ok-first.first.now, c.in_ok-first.last.now) in
    let both = one_two c.args.plain keys e.0 c.in_ok-first.rest.now (e.1 ++ rest) two.0 sized.0 (omega (arith, ap length two.1)) (sym two.1 ∙ is ∙ parts_flat c.args.plain e rest) in
    let few : length c.in_ok-first.rest.now < 16 = c.in_err-rest.ensures.cases in
    let long : length e.1 ≡ 16 = sized.1 ∙ ap digest_len c.if-hashed.true in
    omega (arith, ap length both.1, length-append e.1 rest)
