use Rattle.std.proofs.Common.{◌≡◌, ◌-◌, ◌++◌, length, drop, ap, ap₂, ◌∙◌, arith}
use Rattle.std.proofs.lemmas.List.{append_assoc, length-drop}
use Rattle.merkle_bytes.specs.Keys.{key_behind, kept_of, shareable, shared, front_bytes}
use Rattle.merkle_bytes.specs.RunTelling.{shared_within}
use Rattle.merkle_bytes.proofs.key_run.KeyRun.encode.Goals as goal

pub split_at-requires : goal.split_at-requires
split_at-requires g c = omega (arith, c.shared_len-kept.ensures, (shared_within c.shareable.result.now c.deref-2.result.now).1, ap length c.deref-2.ensures.value, ap length c.deref-3.ensures.value)

pub returns-clause-written : goal.returns-clause-written
unfolding key_behind
returns-clause-written g c =
    let last = c.args.self.now in
    let key = g.K.Encode.encoding c.args.key.now in
    let old = c.args.bytes.now.items in
    let n = kept_of last key in
    let own : c.encode.new.bytes.items ≡ key = c.in_ok-encode.ensures ∙ ap (λ t. t ++ key) c.clear.ensures.items in
    let part : c.shareable.result.now ≡ shareable last = c.shareable.ensures ∙ ap shareable (c.deref.ensures.value ∙ c.self.view_is) in
    let kept : c.shared_len-kept.result ≡ n = c.shared_len-kept.ensures ∙ ap₂ shared part (c.deref-2.ensures.value ∙ own) in
    let rest : c.split_at.result.1.now ≡ drop n key = c.split_at.ensures.back ∙ ap (drop c.shared_len-kept.result) (c.deref-3.ensures.value ∙ own) ∙ ap (λ i. drop i key) kept in
    let more : length c.split_at.result.1.now ≡ length key - n = omega (arith, ap length rest, length-drop n key) in
    c.in_ok-extend_from_slice.ensures.items ∙ ap₂ (λ t u. t ++ u) (c.in_ok-encode_front.ensures ∙ ap₂ (λ i j. old ++ front_bytes i j) kept more) rest
    ∙ append_assoc old (front_bytes n (length key - n)) (drop n key)
