-- A page range as an entry.
use Rattle.std.specs.Prelude.{List, map}
use Rattle.merkle_digest.specs.declared.PageDigest.{PageDigest}
use Rattle.merkle_diff.specs.Entry.{Entry}
use Rattle.merkle_diff.specs.declared.page_range.PageRange.{PageRange}

-- the bounds and the digest
abbrev pub entry : {K o e p : _} → PageRange K o e p → Entry K PageDigest
entry r = record { first = r.start.now; last = r.end.now; digest = r.hash }

-- the entries of a list of page ranges
abbrev pub entries : {K o e p : _} → List (PageRange K o e p) → List (Entry K PageDigest)
entries = map entry
