use Rattle.std.proofs.Common.{◌∙◌, arith}
use Rattle.merkle_replica.specs.Answers.{spans_of}
use Rattle.merkle_replica.specs.Contents.{side}
use Rattle.merkle_replica.proofs.PullParts.{covers_sides, pull_from, part_from}
use Rattle.merkle_replica.proofs.SideLaws.{laws_of}
use Rattle.merkle_replica.proofs.replica.Replica.pull.Goals as goal

pub returns-in-Ok-join_within-clause-done : goal.returns-in-Ok-join_within-clause-done
returns-in-Ok-join_within-clause-done g c = rw g.met.H.RowHasher.laws_are (
    pull_from (laws_of g.K.Ord.cmp g.K.KeyBytes.bytes_of g.H.Hasher-1.digest_of g.V.PartialEq.eq g.V.Join.join_of g.H.Hasher-2.digest_of)
    (side c.args.self.now) (side c.args.peer.now) c.in-Ok.ranges.items c.deref.result.now c.ranges_to_ask.new.self.rows c.rows.result.now c.join_within.new.self.rows c.in-Ok-join_within.joined
    c.deref.ensures.value c.ranges_to_ask.ensures.rows (c.rows.ensures.rows ∙ c.ranges_to_ask.ensures.peer_rows)
    (rw g.met.H.RowHasher.laws_are at c.in-Ok.ensures.answer) c.in-Ok-join_within.ensures.all)

pub returns-in-Ok-join_within-clause-covers : goal.returns-in-Ok-join_within-clause-covers
returns-in-Ok-join_within-clause-covers g c = rw g.met.H.RowHasher.laws_are (
    covers_sides (laws_of g.K.Ord.cmp g.K.KeyBytes.bytes_of g.H.Hasher-1.digest_of g.V.PartialEq.eq g.V.Join.join_of g.H.Hasher-2.digest_of) g.met.K.Ord.total
    c.page_ranges_of_a_map.ensures.listing (side c.args.self.now) (side c.args.peer.now)
    (spans_of c.in-Ok.ranges.items) c.rows_ascend.ensures c.rows_ascend-2.ensures (rw g.met.H.RowHasher.laws_are at c.in-Ok.ensures.answer))

pub returns-else-stopped-eq0-clause-part_covers : goal.returns-else-stopped-eq0-clause-part_covers
returns-else-stopped-eq0-clause-part_covers g c = rw g.met.H.RowHasher.laws_are (
    covers_sides (laws_of g.K.Ord.cmp g.K.KeyBytes.bytes_of g.H.Hasher-1.digest_of g.V.PartialEq.eq g.V.Join.join_of g.H.Hasher-2.digest_of) g.met.K.Ord.total
    c.page_ranges_of_a_map.ensures.listing (side c.args.self.now) (side c.args.peer.now)
    (spans_of c.in-Ok.ranges.items) c.rows_ascend.ensures c.rows_ascend-2.ensures (rw g.met.H.RowHasher.laws_are at c.in-Ok.ensures.answer))

pub returns-else-stopped-eq0-clause-refused : goal.returns-else-stopped-eq0-clause-refused
returns-else-stopped-eq0-clause-refused g c = rw g.met.H.RowHasher.laws_are (
    part_from (laws_of g.K.Ord.cmp g.K.KeyBytes.bytes_of g.H.Hasher-1.digest_of g.V.PartialEq.eq g.V.Join.join_of g.H.Hasher-2.digest_of)
    (side c.args.self.now) (side c.args.peer.now) c.in-Ok.ranges.items c.deref.result.now c.ranges_to_ask.new.self.rows c.rows.result.now
    c.join_within.new.self.rows c.in-Err.stopped.done c.in-Err.stopped.joined
    c.deref.ensures.value c.ranges_to_ask.ensures.rows (c.rows.ensures.rows ∙ c.ranges_to_ask.ensures.peer_rows)
    (rw g.met.H.RowHasher.laws_are at c.in-Ok.ensures.answer) (omega arith) c.in-Err.ensures.stopped)
