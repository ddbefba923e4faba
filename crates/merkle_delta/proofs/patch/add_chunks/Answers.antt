use Rattle.std.proofs.Common.{◌≡◌, ◌++◌, ◌+◌, ◌-◌, [], get_or, take, drop, ap, sym, ◌∙◌, arith}
use Rattle.std.specs.List.{concat}
use Rattle.std.proofs.lemmas.List.{append_assoc, get_or-drop, length-drop, take_more}
use Rattle.merkle_delta.proofs.Stepping.{concat-more}
use Rattle.merkle_delta.proofs.patch.add_chunks.Goals as goal

pub chunks-preserved : goal.chunks-preserved
chunks-preserved c =
    let own = c.args.own.now in
    let old = c.args.bytes.now.items in
    let done = c.chunks.at - c.args.from in
    let place : c.args.from + done ≡ c.chunks.at = omega (arith, c.chunks.auto.at) in
    let next : c.chunks.at + 1 - c.args.from ≡ done + 1 = omega (arith, c.chunks.auto.at) in
    c.in_ok-extend_from_slice.ensures.items
    ∙ ap (λ t. t ++ c.get.result.now) c.chunks.invariant
    ∙ append_assoc old (concat (take done (drop c.args.from own))) c.get.result.now
    ∙ ap (λ t. old ++ t)
    (ap (λ x. concat (take done (drop c.args.from own)) ++ x) (c.get.ensures ∙ ap (λ i. get_or own i []) (sym place) ∙ sym (get_or-drop c.args.from own done []))
    ∙ sym (concat-more (take done (drop c.args.from own)) (get_or (drop c.args.from own) done []))
    ∙ ap concat (sym (take_more (drop c.args.from own) done [] (omega (arith, c.requires.inside, c.chunks-test.true, c.chunks.auto.at, length-drop c.args.from own)))
    ∙ ap (λ n. take n (drop c.args.from own)) (sym next)))

pub returns : goal.returns
returns c =
    c.chunks.invariant
    ∙ ap (λ n. c.args.bytes.now.items ++ concat (take n (drop c.args.from c.args.own.now))) (omega (arith, c.chunks-test.false, c.chunks.auto.at, c.chunks.auto.at-end c.requires.low))
