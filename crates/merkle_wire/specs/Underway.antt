-- A catch-up that waits for a reply: what it has found, and what it asks next.
use Rattle.std.specs.Prelude.{List, [], ◌≡◌, ◌≢◌, ℕ, Option, Some, None, ◌⊎◌, ◌<◌, ◌^◌, ◌++◌, map, ⊤}
use Rattle.merkle_tree_theory.specs.Gap.{Gap}
use Rattle.merkle_wire.specs.declared.limits.Limits.{Limits}
use Rattle.merkle_wire.specs.declared.question.Question.{Question}
use Rattle.merkle_wire.specs.declared.question.Question.TheVariants.{Root, Outlines, Nodes, RowsAt, RowsIn}
use Rattle.merkle_wire.specs.Gaps.{owned_gap}

-- of the peer: gaps of pages that this side lacks, below those looked at last; of pages whose nodes it lacks; keys, whole gaps and rows that it lacks
pub record Found (K V : Type 0) : Type 0 where
  pub below : List (Gap K)
  pub nodes : List (Gap K)
  pub wanted : List K
  pub whole : List (Gap K)
  pub rows : List (K × V)

-- nothing is found
abbrev pub nothing : {K V : Type 0} → Found K V
nothing = record { below = []; nodes = []; wanted = []; whole = []; rows = [] }

-- what was asked, what has been found, how many rounds of outlines were asked for, and what is left of the limits
pub record Underway (K V : Type 0) : Type 0 where
  pub asked : Question K
  pub found : Found K V
  pub rounds : ℕ
  pub left : Limits

-- the question asks for something, and its number fits
abbrev pub AsksForSome : {K : Type 0} → Question K → Type 0
AsksForSome (Root settings) = ⊤
AsksForSome (Outlines most gaps) = (gaps.items ≢ []) × (most < 2 ^ 64)
AsksForSome (Nodes most gaps) = (gaps.items ≢ []) × (most < 2 ^ 64)
AsksForSome (RowsAt keys) = keys.items ≢ []
AsksForSome (RowsIn gaps) = gaps.items ≢ []

-- nothing is to be asked for
abbrev pub AsksNothingMore : {K V : Type 0} → Found K V → Type 0
AsksNothingMore f = (f.below ≡ []) × (f.nodes ≡ []) × (f.wanted ≡ []) × (f.whole ≡ [])

-- the question asks for a part of what is found, which is no longer among it
abbrev pub IsTakenFrom : {K V : Type 0} → Question K → Found K V → Found K V → Type 0
IsTakenFrom (Root settings) before after = ⊥
IsTakenFrom (Outlines most gaps) before after = (before.below ≡ map owned_gap gaps.items) × (after ≡ record before { below = [] })
IsTakenFrom (Nodes most gaps) before after = (before.nodes ≡ map owned_gap gaps.items) × (after ≡ record before { nodes = [] })
IsTakenFrom (RowsAt keys) before after = (before.wanted ≡ map (λ w. w.key) keys.items) × (after ≡ record before { wanted = [] })
IsTakenFrom (RowsIn gaps) before after = (before.whole ≡ map owned_gap gaps.items) × (after ≡ record before { whole = [] })

-- what is asked next is something, taken from what is found, or from that with all rows of the pages below; or nothing is to be asked for
abbrev pub IsAskedOf : {K V : Type 0} → Option (Question K) → Found K V → Found K V → Type 0
IsAskedOf None before after = AsksNothingMore after × (after ≡ before)
IsAskedOf (Some question) before after = AsksForSome question × (IsTakenFrom question before after ⊎ IsTakenFrom question (record before { below = []; whole = before.whole ++ before.below }) after)
