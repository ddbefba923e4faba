use Rattle.std.proofs.Common.{◌≡◌, ◌+◌, ◌<◌, ◌++◌, [], length, get_or, take, ap, ◌∙◌, arith}
use Rattle.std.specs.List.{concat}
use Rattle.std.proofs.lemmas.List.{length-append, take_all, take_more}
use Rattle.merkle_delta.proofs.Stepping.{concat-more}
use Rattle.examples.proofs.deltas.most_told.Goals as goal

pub chunks-preserved : goal.chunks-preserved
chunks-preserved c =
    let own = c.args.own.now in
    let at = c.chunks.at in
    let low : at < length own = omega (arith, c.chunks-test.true, c.len-at-end.ensures) in
    let more : concat (take (at + 1) own) ≡ concat (take at own) ++ get_or own at [] = ap concat (take_more own at [] low) ∙ concat-more (take at own) (get_or own at []) in
    record {
      counted = omega (arith, c.chunks.invariant.counted, ap length more, length-append (concat (take at own)) (get_or own at []), ap length c.get.ensures);
      small = omega (arith, c.chunks.invariant.small, c.get.type_inv.0);
    }

pub returns : goal.returns
returns c plain (delta, is, over) =
    let own = c.args.own.now in
    let all : take c.chunks.at own ≡ own = take_all c.chunks.at own (omega (arith, c.chunks-test.false, c.len-at-end.ensures)) in
    omega (arith, c.a_delta_is_bounded.ensures own delta plain over, ap length is, c.chunks.invariant.counted, ap (λ chunks. length (concat chunks)) all)
