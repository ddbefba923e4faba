use Rattle.std.proofs.Common.{take}
use Rattle.merkle_diff.specs.PageRange.{entries}
use Rattle.merkle_audit.specs.Pages.{LacksPageDigest}
use Rattle.merkle_audit.proofs.pages.lack_digest.Given as goal

-- none of the first pages has the digest
abbrev pub invariant-pages : goal.invariant-pages
invariant-pages g l = LacksPageDigest l.digest (entries (take l.range-index l.ranges))
