use Rattle.std.proofs.Common.{◌≡◌, ◌++◌, List, length}
use Rattle.std.specs.List.{AllByRecursion, flat_map}
use Rattle.c_trees.specs.Spots.{EntryParts, IsParts, two_part_entry}
use Rattle.c_trees.proofs.entries.is_list.Given as goal

-- the entries so far were read, and the rest is still to be
abbrev pub invariant-entries : goal.invariant-entries
invariant-entries l =
    (es : List EntryParts) × (length es ≡ l._done) × AllByRecursion (IsParts l.plain l.hashed) es × (l.body ≡ flat_map (two_part_entry l.plain) es ++ l.rest)
