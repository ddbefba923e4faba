use Rattle.std.proofs.Common.{◌≡◌, ◌++◌, length, map}
use Rattle.std.specs.List.{AllByRecursion, flat_map}
use Rattle.std.specs.Vec.Iter.{into_iter_items, into_iter_len}
use Rattle.merkle_wire.specs.Outlines.{keys_among}
use Rattle.merkle_wire.specs.Steps.{nodes_read}
use Rattle.merkle_wire.proofs.coming.read_digests.Given as goal

-- the digests at the first keys are read
abbrev pub invariant-keys : goal.invariant-keys
invariant-keys g l = record {
  left : l.yielded ++ into_iter_items l.wanted-iterator ≡ l.fn.keys.items;
  count : into_iter_len l.wanted-iterator ≡ length (into_iter_items l.wanted-iterator);
  of : keys_among (nodes_read l.nodes.items) ≡ map (λ w. w.key) l.yielded;
  read : l.fn.reader.left.now ≡ flat_map (λ d. d.1) (nodes_read l.nodes.items) ++ l.reader.left.now;
  lengths : AllByRecursion (λ d. length d.1 ≡ l.digest_bytes) (nodes_read l.nodes.items);
}
