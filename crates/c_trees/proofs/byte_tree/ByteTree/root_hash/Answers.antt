use Rattle.std.proofs.Common.{ap, map}
use Rattle.c_values.specs.Keys.{by_key}
use Rattle.c_trees.proofs.byte_tree.ByteTree.root_hash.Goals as goal

pub returns-clause-kept : goal.returns-clause-kept
returns-clause-kept c =
    let same = c.root_hash_counted-digest.ensures.tree in
    record {
      rows = ap (map by_key) c.root_hash_counted-digest.ensures.map;
      settings = (ap (λ s. s.hasher) same, ap (λ s. s.base) same, ap (λ s. s.format) same);
    }
