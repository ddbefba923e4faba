use Rattle.merkle_replica.proofs.PullParts.{answer_came, steps_pull}
use Rattle.merkle_replica.proofs.SideLaws.{laws_of}
use Rattle.merkle_replica.proofs.laws.steps_are_a_pull.Goals as goal

pub returns-clause-answer : goal.returns-clause-answer
returns-clause-answer g c = rw g.met.H.RowHasher.laws_are (
    answer_came (laws_of g.K.Ord.cmp g.K.KeyBytes.bytes_of g.H.Hasher-1.digest_of g.V.PartialEq.eq g.V.Join.join_of g.H.Hasher-2.digest_of) g.met.K.Ord.total c.page_ranges_of_a_map.ensures.shaped)

pub returns-clause-pull : goal.returns-clause-pull
returns-clause-pull g c = rw g.met.H.RowHasher.laws_are (
    steps_pull (laws_of g.K.Ord.cmp g.K.KeyBytes.bytes_of g.H.Hasher-1.digest_of g.V.PartialEq.eq g.V.Join.join_of g.H.Hasher-2.digest_of) g.met.K.Ord.total
    g.met.V.Eq.laws g.met.V.Join.joining c.page_ranges_of_a_map.ensures.shaped)
