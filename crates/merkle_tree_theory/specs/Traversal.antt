-- Where the calls of a traversal lead its visitor.
use Rattle.std.specs.Prelude.{List, [], ◌∷◌, ◌++◌, Bool, true, false}
use Rattle.merkle_tree_theory.specs.Tree.{Node}
use Rattle.merkle_tree_theory.specs.Events.{Event, pre_visit_node, visit_node, post_visit_node, held_events}

-- the calls of a list are made in order, up to and including the first that answers false: they lead from the first state to the
-- last, and the flag says whether all answered true
pub data Visits {S E : Type 0} (step : S → E → Bool → S → Type 0) : S → List E → Bool → S → Type 0 where
  over : {s : S} → Visits step s [] true s
  ends : {s t : S} {e : E} {es : List E} → step s e false t → Visits step s (e ∷ es) false t
  goes_on : {s u t : S} {e : E} {es : List E} {all : Bool} → step s e true u → Visits step u es all t → Visits step s (e ∷ es) all t

-- the calls at a node, those at the page below it among them
abbrev pub node_events : {K D : Type 0} → Node K D → List (Event K D)
node_events n = pre_visit_node n ∷ (held_events false n.lt ++ visit_node n ∷ post_visit_node n ∷ [])
