use Rattle.std.proofs.Common.{All, take}
use Rattle.merkle_store.specs.Fetches.{IsShortEntry}
use Rattle.merkle_store.specs.News.{AreTimely}
use Rattle.merkle_store.proofs.fetching.expect_fit.Given as goal

-- each so far is short, and none from the future
abbrev pub invariant-entries : goal.invariant-entries
invariant-entries l = record {
  short : All IsShortEntry (take l.entry-index l.entries);
  timely : AreTimely l.latest (take l.entry-index l.entries);
}
