pub use Rattle.key_order.specs.Order
pub use Rattle.key_order.specs.Interval
-- ranges and lists of them, as entries and spans
pub mod Entry
pub mod SameEntries
pub mod PageRange
pub mod PageRangeSnapshot
pub mod SliceIter
pub mod DiffRange
pub mod RangeList
pub mod DiffListBuilder
pub mod Iterable
-- what is promised of them
pub mod Merge
pub mod Cut
pub mod TreeShape
pub mod Walk
pub mod Difference
pub mod Answers
-- what the clauses of private functions cite alone: the code's steps
pub mod Lookahead
pub mod Sweep
pub mod OnePass
pub mod Stack
pub mod Turn
