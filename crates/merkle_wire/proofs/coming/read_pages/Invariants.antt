use Rattle.std.proofs.Common.{◌≡◌, ◌++◌, length, map}
use Rattle.std.specs.List.{AllByRecursion}
use Rattle.std.specs.Vec.Iter.{into_iter_items, into_iter_len}
use Rattle.merkle_wire.specs.Coming.{IsPageDigest}
use Rattle.merkle_wire.specs.Outlines.{pages_bytes}
use Rattle.merkle_wire.specs.Steps.{below_keys}
use Rattle.merkle_wire.proofs.coming.read_pages.Given as goal

-- the digests of the pages before the first keys are read
abbrev pub invariant-keys : goal.invariant-keys
invariant-keys g l = record {
  left : l.yielded ++ into_iter_items l.wanted-iterator ≡ l.fn.keys.items;
  count : into_iter_len l.wanted-iterator ≡ length (into_iter_items l.wanted-iterator);
  of : below_keys l.below.items ≡ map (λ w. w.key) l.yielded;
  read : l.fn.reader.left.now ≡ pages_bytes (map (λ b. b.0) l.below.items) ++ l.reader.left.now;
  digests : AllByRecursion IsPageDigest (map (λ b. b.0) l.below.items);
}
