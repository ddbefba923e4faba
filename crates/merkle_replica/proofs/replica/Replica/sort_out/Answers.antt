use Rattle.std.proofs.Common.{ap, subst}
use Rattle.std.proofs.lemmas.List.{take_all}
use Rattle.merkle_search_tree.specs.Items.{item, items}
use Rattle.merkle_replica.specs.Contents.{side}
use Rattle.merkle_replica.specs.Descent.{AreSortedOut, gaps_of, keys_of}
use Rattle.merkle_replica.proofs.Descents.{sorted_step}
use Rattle.merkle_replica.proofs.SideLaws.{laws_of}
use Rattle.merkle_replica.proofs.replica.Replica.sort_out.Goals as goal

pub items-init : goal.items-init
items-init g c = (ap gaps_of c.new.ensures.items, ap keys_of c.new-2.ensures.items)

pub items-preserved : goal.items-preserved
items-preserved g c =
    sorted_step (laws_of g.K.Ord.cmp g.K.KeyBytes.bytes_of g.H.Hasher-1.digest_of g.V.PartialEq.eq g.V.Join.join_of g.H.Hasher-2.digest_of)
    (side c.args.self.now) item c.args.came.now c.items.item-index c.item-item.result
    (gaps_of c.items.asked.gaps.items) (gaps_of c.sort_one.new.asked.gaps.items) (keys_of c.items.asked.keys.items)
    (keys_of c.sort_one.new.asked.keys.items) c.items-test.true c.item-item.is c.items.invariant (rw g.met.H.RowHasher.laws_are at c.in_ok-sort_one.ensures)

pub returns : goal.returns
returns g c = rw g.met.H.RowHasher.laws_are (
    subst (λ es. AreSortedOut (laws_of g.K.Ord.cmp g.K.KeyBytes.bytes_of g.H.Hasher-1.digest_of g.V.PartialEq.eq g.V.Join.join_of g.H.Hasher-2.digest_of)
    (side c.args.self.now) (items es) (gaps_of c.items.asked.gaps.items) (keys_of c.items.asked.keys.items))
    (take_all c.items.item-index c.args.came.now c.items-test.false) c.items.invariant)
