use Rattle.std.proofs.Common.{rules, arith, ◌≡◌, ◌<◌, ◌^◌, [], ◌∷◌, ◌++◌, length, refl, sym, ap, ◌∙◌}
use Rattle.std.specs.Bool.{◌==◌}
use Rattle.std.specs.List.{flat_map}
use Rattle.std.proofs.lemmas.List.{append-nil, length-append, nil_from_length}
use Rattle.c_trees.specs.Spots.{EntryParts, IsParts, two_part_entry}
use Rattle.c_trees.proofs.Lists.{all_more, none_left, one_left}
use Rattle.c_values.proofs.Lists.{read_more}
use Rattle.c_trees.proofs.Spots.{parts_end}
use Rattle.c_trees.proofs.entries.is_list.Goals as goal

pub returns-in-None : goal.returns-in-None
returns-in-None c =
    let kept = c.entries.invariant in
    let short : length c.args.body.now < 2 ^ 64 = search rules in (
      (λ wrong. absurd (search rules)),
      (λ are.
          let next = one_left (IsParts c.args.plain c.args.hashed) (two_part_entry c.args.plain) (parts_end c.args.plain c.args.hashed) are.0 kept.0 c.entries.rest.now are.2 kept.2
          (omega (arith, kept.1, are.1)) (omega (arith, ap length are.3)) (sym are.3 ∙ kept.3) in
          absurd (c.in-None.ensures.none refl next.0 next.1 next.2 next.3)),
    )

pub entries-preserved : goal.entries-preserved
entries-preserved c =
    let kept = c.entries.invariant in
    let read = c.in-Some.ensures.entry in
    let e : EntryParts = ((c.in-Some.field-0-0.now, c.in-Some.field-0-1.now), read.0) in (
      kept.0 ++ e ∷ [],
      omega (arith, kept.1, length-append kept.0 (e ∷ [])),
      all_more (IsParts c.args.plain c.args.hashed) kept.0 e kept.2 read.1,
      read_more (two_part_entry c.args.plain) kept.0 e c.args.body.now c.entries.rest.now c.in-Some.behind.now kept.3 read.2,
    )

pub returns : goal.returns
returns c =
    let kept = c.entries.invariant in
    let rest = c.entries.rest.now in
    let short : length c.args.body.now < 2 ^ 64 = search rules in (
      (λ yes.
          let none : length rest ≡ 0 = search rules in
          let nothing = nil_from_length rest none in
          (kept.0, omega (arith, kept.1), kept.2, kept.3 ∙ ap (λ t. flat_map (two_part_entry c.args.plain) kept.0 ++ t) nothing ∙ append-nil (flat_map (two_part_entry c.args.plain) kept.0))),
      (λ are.
          let nothing = none_left (IsParts c.args.plain c.args.hashed) (two_part_entry c.args.plain) (parts_end c.args.plain c.args.hashed) are.0 kept.0 rest are.2 kept.2
          (omega (arith, kept.1, are.1)) (omega (arith, ap length are.3)) (sym are.3 ∙ kept.3) in
          c.is_empty.ensures ∙ ap (λ left. length left == 0) nothing),
    )
