use Rattle.std.proofs.Common.{arith}
use Rattle.store_file.specs.Logs.{IsClean, trees_of}
use Rattle.store_rows.proofs.Rooting.{hashed, root_found}
use Rattle.store_rows.proofs.hashing.find_root.Goals as goal

pub returns-clause-root : goal.returns-clause-root
returns-clause-root g c clean =
    let s = g.S.Store in
    let mid = c.root_digest.new.trees in
    let early : IsClean s mid = omega (arith, c.count_keys.ensures.uncommitted.quiet.clean, clean) in
    let digest = c.in_ok-digest.ensures in
    let count = c.in_ok-count.ensures in
    root_found c.args.hash_key.now (trees_of s c.args.trees.now) (trees_of s mid) (trees_of s c.count_keys.new.trees) c.in_ok-digest.digest c.in_ok-count.count
    (rw c.new-pairs.ensures at (digest.root early)) (digest.others early) (rw c.new-pairs.ensures at (count.count clean)) (count.others clean)

pub returns-clause-hashed : goal.returns-clause-hashed
returns-clause-hashed g c clean =
    let s = g.S.Store in
    let mid = c.root_digest.new.trees in
    let early : IsClean s mid = omega (arith, c.count_keys.ensures.uncommitted.quiet.clean, clean) in
    let digest = c.in_ok-digest.ensures in
    let count = c.in_ok-count.ensures in
    hashed c.args.hash_key.now (trees_of s c.args.trees.now) (trees_of s mid) (trees_of s c.count_keys.new.trees) c.in_ok-digest.digest c.in_ok-count.count
    (rw c.new-pairs.ensures at (digest.root early)) (digest.others early) (rw c.new-pairs.ensures at (count.count clean)) (count.others clean)
