use Rattle.std.proofs.Common.{rules, arith, ◌≡◌, ◌<◌, ◌^◌, ℕ, List, [], ◌∷◌, ◌++◌, length, map, sym, ap, subst, ◌∙◌}
use Rattle.std.specs.List.{AllByRecursion, flat_map}
use Rattle.std.proofs.lemmas.List.{length-append}
use Rattle.c_trees.specs.Lists.{HasDigest}
use Rattle.c_values.specs.Keys.{by_key}
use Rattle.c_trees.specs.Wire.{digest_bytes}
use Rattle.c_trees.proofs.Lists.{all_more, none_left, one_left}
use Rattle.c_values.proofs.Lists.{read_more}
use Rattle.c_trees.proofs.Ranges.{digest_ends}
use Rattle.c_trees.proofs.reading.digests_of.Goals as goal

pub returns-in_default-clause-malformed : goal.returns-in_default-clause-malformed
returns-in_default-clause-malformed c is given each count e =
    let kept = c.entries.invariant in let done = map by_key c.entries.rows.items in
    let short : length c.args.body.now < 2 ^ 64 = search rules in
    let next = one_left HasDigest digest_bytes digest_ends given done c.entries.rest.now each kept.each (omega (arith, kept.counted, count)) (omega (arith, ap length e)) (sym e ∙ kept.read) in
    c.keyed_of.ensures.none c.in_default.is next.0 next.1 next.2 next.3

pub entries-preserved : goal.entries-preserved
entries-preserved c =
    let kept = c.entries.invariant in let done = map by_key c.entries.rows.items in
    let row : List ℕ × List ℕ = (c.in-Some.key.now, c.in-Some.digest.now) in
    let more : map by_key c.push_digest.new.rows.items ≡ done ++ row ∷ [] = c.in_ok-push_digest.ensures in
    record {
      read = read_more digest_bytes done row c.args.body.now c.entries.rest.now c.in-Some.behind.now kept.read c.in-Some.ensures.keyed
          ∙ ap (λ rows. flat_map digest_bytes rows ++ c.in-Some.behind.now) (sym more);
      each = subst (AllByRecursion HasDigest) (sym more) (all_more HasDigest done row kept.each c.in-Some.ensures.sized);
      counted = ap length more ∙ omega (arith, kept.counted, length-append done (row ∷ []));
    }

pub returns-clause-malformed : goal.returns-clause-malformed
returns-clause-malformed c is given each count e =
    let kept = c.entries.invariant in let done = map by_key c.entries.rows.items in
    let short : length c.args.body.now < 2 ^ 64 = search rules in
    c.all_read.ensures.malformed is
    (none_left HasDigest digest_bytes digest_ends given done c.entries.rest.now each kept.each (omega (arith, kept.counted, count))
    (omega (arith, ap length e)) (sym e ∙ kept.read))
