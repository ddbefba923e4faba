use Rattle.std.proofs.Common.{◌≡◌, ◌∙◌, ap, rules, nat_eq}
use Rattle.std.specs.Cmp.Lexicographic.{pointwise}
use Rattle.test_keys.specs.LevelBytes.{level_at, level_byte, bytes_from}
use Rattle.test_keys.proofs.level_hasher.lengths.LevelHasherArrayU82Hasher200ArrayU82.hash.Goals as goal

pub returns : goal.returns
returns c =
    let same : c.deref.result.now ≡ c.args.self.now = search rules in
    c.level_digest.ensures ∙ ap (λ level. bytes_from (level_byte level) 200 0) (c.level_of.ensures ∙ ap (λ levels. level_at (pointwise nat_eq) levels c.args.key.now) same)
