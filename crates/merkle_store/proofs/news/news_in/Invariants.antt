use Rattle.std.proofs.Common.{◌≡◌, ◌++◌, length}
use Rattle.std.specs.Vec.Iter.{into_iter_items, into_iter_len}
use Rattle.store_file.specs.Logs.{IsClean, IsOpen, trees_of}
use Rattle.merkle_store.specs.News.{AreNewsIn}
use Rattle.merkle_store.proofs.NewsIn.{ReadsSoFar}
use Rattle.merkle_store.proofs.news.news_in.Given as goal

-- of the entries so far these are the news, and the log was only read
abbrev pub invariant-entries : goal.invariant-entries
invariant-entries g l = record {
  left : l.yielded ++ into_iter_items l.entry-iterator ≡ l.fn.entries.items;
  count : into_iter_len l.entry-iterator ≡ length (into_iter_items l.entry-iterator);
  news : IsClean g.S.Store l.log → AreNewsIn (trees_of g.S.Store l.fn.log) l.yielded l.news.items;
  reads : ReadsSoFar g.S.Store l.fn.log l.log;
  was_open : IsClean g.S.Store l.log → IsOpen g.S.Store l.log → IsOpen g.S.Store l.fn.log;
}
