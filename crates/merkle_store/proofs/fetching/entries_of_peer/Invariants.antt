use Rattle.std.proofs.Common.{◌≡◌}
use Rattle.merkle_store.specs.Sessions.{AsksByRows}
use Rattle.merkle_store.proofs.Exchanged.{HasComeTo}
use Rattle.merkle_store.proofs.fetching.entries_of_peer.Given as goal

-- exchanges led to what is asked next, by the digests of the rows that the side had, and what it keeps is as it was
abbrev pub invariant-messages : goal.invariant-messages
invariant-messages g l = record {
  come : g.S.KeptTree.is_sound l.side → HasComeTo (g.S.AskingReplica.whole l.fn.side) l.fn.most (g.W.Write.contents l.fn.to, g.R.Read.remaining l.fn.from)
      (g.W.Write.contents l.to, g.R.Read.remaining l.from) l.session l.deltas l.message;
  rows : g.S.KeptTree.is_sound l.side → AsksByRows (g.S.KeptTree.kept l.side).digests (g.S.AskingReplica.whole l.fn.side);
  kept : g.S.KeptTree.is_sound l.side → g.S.KeptTree.kept l.side ≡ g.S.KeptTree.kept l.fn.side;
  steady : g.S.KeptTree.is_sound l.side → g.S.KeptTree.is_sound l.fn.side;
}
