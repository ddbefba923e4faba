-- An iterator over a slice of page ranges as a list of entries.
use Rattle.std.specs.Prelude.{List}
use Rattle.merkle_digest.specs.declared.PageDigest.{PageDigest}
use Rattle.merkle_diff.specs.Entry.{Entry}
use Rattle.merkle_diff.specs.PageRange.{entries}
use Rattle.merkle_diff.specs.declared.slice_iter.SliceIter.{SliceIter}

-- the page ranges that are still to come
abbrev pub entries_to_come : {K o e p : _} → SliceIter K o e p → List (Entry K PageDigest)
entries_to_come it = entries it.rest.rest.now
