use Rattle.std.proofs.Common.{take}
use Rattle.merkle_search_tree.specs.Items.{items}
use Rattle.merkle_replica.specs.Contents.{side}
use Rattle.merkle_replica.specs.Descent.{AreSortedOut, gaps_of, keys_of}
use Rattle.merkle_replica.proofs.SideLaws.{laws_of}
use Rattle.merkle_replica.proofs.replica.Replica.sort_out.Given as goal

-- the items so far are sorted out
abbrev pub invariant-items : goal.invariant-items
invariant-items g l =
    AreSortedOut (laws_of g.K.Ord.cmp g.K.KeyBytes.bytes_of g.H.Hasher-1.digest_of g.V.PartialEq.eq g.V.Join.join_of g.H.Hasher-2.digest_of) (side l.self)
    (items (take l.item-index l.came)) (gaps_of l.asked.gaps.items) (keys_of l.asked.keys.items)
