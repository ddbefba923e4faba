use Rattle.std.proofs.Common.{rules, ◌≡◌, ◌++◌, refl, sym, ap, subst, ◌∙◌}
use Rattle.std.specs.List.{flat_map}
use Rattle.std.proofs.lemmas.List.{append_assoc}
use Rattle.merkle_delta.specs.Chunks.{digest_of}
use Rattle.merkle_delta.specs.Deltas.{step_bytes, AddsSteps}
use Rattle.merkle_delta.proofs.Cutting.{chunks_whole}
use Rattle.merkle_delta.proofs.delta.add_delta.Goals as goal

pub returns : goal.returns
returns c =
    let bytes = c.args.bytes.items in
    let old = c.args.delta.now.items in
    let digest : c.digest_of.result ≡ digest_of bytes = search rules in
    let (steps, is, gives) = subst (λ chunks. AddsSteps c.args.checksums.now chunks c.extend_from_slice.new.self.items c.add_steps.new.delta.items) c.in_ok-chunks.ensures c.in_ok-add_steps.ensures in
    let end = flat_map step_bytes steps in (
      digest_of bytes ++ end,
      is ∙ ap (λ t. t ++ end) (c.in_ok-extend_from_slice.ensures.items ∙ ap (λ d. old ++ d) digest) ∙ append_assoc old (digest_of bytes) end,
      (steps, refl, λ own same apart. let so = gives own same apart in (so.0, sym (chunks_whole bytes) ∙ so.1)),
    )
