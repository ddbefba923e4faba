use Rattle.std.proofs.Common.{subst, sym}
use Rattle.key_order.proofs.SameMaps.{same_map-own}
use Rattle.merkle_diff.specs.SameEntries.{SameEntries}
use Rattle.merkle_tree_theory.specs.Ranges.{ranges_of}
use Rattle.merkle_replica.specs.Contents.{tree_map}
use Rattle.merkle_replica.proofs.Listings.{HaveOneList}
use Rattle.merkle_replica.proofs.PullParts.{one_answer_for, one_pull}
use Rattle.merkle_replica.proofs.SideLaws.{laws_of}
use Rattle.merkle_replica.proofs.laws.a_pull_has_one_answer.Goals as goal

pub returns-clause-ranges : goal.returns-clause-ranges
returns-clause-ranges g c = rw g.met.H.RowHasher.laws_are (
    let laws = laws_of g.K.Ord.cmp g.K.KeyBytes.bytes_of g.H.Hasher-1.digest_of g.V.PartialEq.eq g.V.Join.join_of g.H.Hasher-2.digest_of in
    let lists : HaveOneList laws = λ s es fs (t, of_t, e) (u, of_u, f).
    subst (λ es. SameEntries laws.cmp es fs) (sym e)
    (subst (SameEntries laws.cmp (ranges_of s.format laws.bytes_of t)) (sym f)
    (c.a_map_has_one_tree.ensures.ranges s.hasher s.base s.format (tree_map laws s) (tree_map laws s) t u
    (same_map-own laws.cmp g.met.K.Ord.total (tree_map laws s)) of_t of_u)) in
    one_answer_for laws g.met.K.Ord.total lists)

pub returns-clause-pulls : goal.returns-clause-pulls
returns-clause-pulls g c = rw g.met.H.RowHasher.laws_are (
    let laws = laws_of g.K.Ord.cmp g.K.KeyBytes.bytes_of g.H.Hasher-1.digest_of g.V.PartialEq.eq g.V.Join.join_of g.H.Hasher-2.digest_of in
    let lists : HaveOneList laws = λ s es fs (t, of_t, e) (u, of_u, f).
    subst (λ es. SameEntries laws.cmp es fs) (sym e)
    (subst (SameEntries laws.cmp (ranges_of s.format laws.bytes_of t)) (sym f)
    (c.a_map_has_one_tree.ensures.ranges s.hasher s.base s.format (tree_map laws s) (tree_map laws s) t u
    (same_map-own laws.cmp g.met.K.Ord.total (tree_map laws s)) of_t of_u)) in
    one_pull laws g.met.K.Ord.total g.met.V.Eq.laws g.met.V.Join.joining lists)
