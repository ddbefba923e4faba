use Rattle.std.proofs.Common.{◌≡◌}
use Rattle.merkle_tree_theory.specs.State.{SameSettings}
use Rattle.merkle_store.specs.Sessions.{HasServed}
use Rattle.merkle_store.proofs.serving.serve.Given as goal

-- each message so far was answered, and the side keeps its rows and settings
abbrev pub invariant-messages : goal.invariant-messages
invariant-messages g l = record {
  served : g.S.KeptSide.is_sound l.side → HasServed (g.S.KeptSide.contents l.fn.side tt) l.fn.most (g.W.Write.contents l.fn.to, g.R.Read.remaining l.fn.from)
      (g.W.Write.contents l.to, g.R.Read.remaining l.from);
  rows : g.S.KeptSide.is_sound l.side → (g.S.KeptSide.contents l.side tt).rows ≡ (g.S.KeptSide.contents l.fn.side tt).rows;
  settings : g.S.KeptSide.is_sound l.side → SameSettings (g.S.KeptSide.contents l.fn.side tt).tree (g.S.KeptSide.contents l.side tt).tree;
  steady : g.S.KeptSide.is_sound l.side → g.S.KeptSide.is_sound l.fn.side;
}
