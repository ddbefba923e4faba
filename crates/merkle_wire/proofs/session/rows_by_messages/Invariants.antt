use Rattle.std.proofs.Common.{◌≡◌}
use Rattle.merkle_replica.specs.Contents.{side}
use Rattle.merkle_replica.proofs.SideLaws.{laws_of}
use Rattle.merkle_tree_theory.specs.State.{SameSettings}
use Rattle.merkle_wire.specs.Limits.{no_limits}
use Rattle.merkle_wire.specs.Questions.{question_bytes}
use Rattle.merkle_wire.proofs.session.rows_by_messages.Given as goal
use Rattle.merkle_wire.proofs.Covering.{Covers, TellsOwn}
use Rattle.merkle_wire.proofs.Steady.{HasKeysOfSides, IsSteadyCatchUp, left_for}

-- the message asks what the catch-up asks, by own settings and at keys of the two sides, which covers what is missing and is steady, by the tree that
-- the peer had; it has no limits; and rows and settings stay
abbrev pub invariant-exchanges : goal.invariant-exchanges
invariant-exchanges g l = record {
  asks : l.message.items ≡ question_bytes g.K.Encode.encoding l.session.asked;
  covers : Covers (laws_of g.K.Ord.cmp g.K.KeyBytes.bytes_of g.H.Hasher-1.digest_of g.V.PartialEq.eq g.V.Join.join_of g.H.Hasher-2.digest_of) (side l.fn.replica)
      (side l.fn.peer) l.fn.peer.tree.root l.session;
  steady : IsSteadyCatchUp (laws_of g.K.Ord.cmp g.K.KeyBytes.bytes_of g.H.Hasher-1.digest_of g.V.PartialEq.eq g.V.Join.join_of g.H.Hasher-2.digest_of) (side l.fn.peer) l.fn.peer.tree.root l.session;
  keys : HasKeysOfSides (laws_of g.K.Ord.cmp g.K.KeyBytes.bytes_of g.H.Hasher-1.digest_of g.V.PartialEq.eq g.V.Join.join_of g.H.Hasher-2.digest_of) (side l.fn.replica) (side l.fn.peer) l.session;
  own : TellsOwn (laws_of g.K.Ord.cmp g.K.KeyBytes.bytes_of g.H.Hasher-1.digest_of g.V.PartialEq.eq g.V.Join.join_of g.H.Hasher-2.digest_of) g.row.N (side l.fn.replica) l.session.asked;
  limits : l.session.left ≡ no_limits;
  rows : l.replica.rows ≡ l.fn.replica.rows;
  settings : SameSettings l.fn.replica.tree l.replica.tree;
  peer_rows : l.peer.rows ≡ l.fn.peer.rows;
  peer_settings : SameSettings l.fn.peer.tree l.peer.tree;
}

-- each exchange leaves less to ask for
abbrev pub decreases-exchanges : goal.decreases-exchanges
decreases-exchanges g l =
    left_for (laws_of g.K.Ord.cmp g.K.KeyBytes.bytes_of g.H.Hasher-1.digest_of g.V.PartialEq.eq g.V.Join.join_of g.H.Hasher-2.digest_of) (side l.fn.peer) l.fn.peer.tree.root l.session
