use Rattle.std.proofs.Common.{ap}
use Rattle.std.proofs.lemmas.Result.{IfOk-weaker}
use Rattle.merkle_replica.specs.Answers.{spans_of}
use Rattle.merkle_replica.proofs.PullParts.{answered_before}
use Rattle.merkle_replica.proofs.SideLaws.{laws_of}
use Rattle.merkle_replica.proofs.replica.Replica.ranges_to_ask.Goals as goal

pub returns-clause-answer : goal.returns-clause-answer
returns-clause-answer g c = rw g.met.H.RowHasher.laws_are (
    IfOk-weaker c.ask.result _ _
    (λ ranges. answered_before (laws_of g.K.Ord.cmp g.K.KeyBytes.bytes_of g.H.Hasher-1.digest_of g.V.PartialEq.eq g.V.Join.join_of g.H.Hasher-2.digest_of)
    c.args.self.now c.args.peer.now c.hash.new.self c.hash-2.new.self (spans_of ranges.items)
    c.hash.ensures.rows c.hash-2.ensures.rows
    (ap (λ t. t.hasher) c.hash.ensures.tree, ap (λ t. t.base) c.hash.ensures.tree, ap (λ t. t.format) c.hash.ensures.tree)
    (ap (λ t. t.hasher) c.hash-2.ensures.tree, ap (λ t. t.base) c.hash-2.ensures.tree, ap (λ t. t.format) c.hash-2.ensures.tree))
    (rw g.met.H.RowHasher.laws_are at c.ask.ensures))
