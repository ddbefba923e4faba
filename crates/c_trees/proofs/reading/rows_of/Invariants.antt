use Rattle.std.proofs.Common.{◌≡◌, ◌++◌, ℕ, List, length, map}
use Rattle.std.specs.List.{flat_map}
use Rattle.merkle_digest.specs.SipHash.{siphash128}
use Rattle.c_values.specs.Keys.{by_key}
use Rattle.merkle_search_tree.specs.Loading.{digests}
use Rattle.c_values.specs.Lists.{sized_row}
use Rattle.c_trees.proofs.reading.rows_of.Given as goal

-- the rows so far were read, and the rest is still to be
abbrev pub invariant-entries : goal.invariant-entries
invariant-entries l =
    (given : List (List ℕ × List ℕ)) × (l.body ≡ flat_map sized_row given ++ l.rest) × (length given ≡ l._done) × (map by_key l.rows.items ≡ digests (siphash128 l.hasher.key) given)
