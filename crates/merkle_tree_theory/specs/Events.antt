-- The calls that a traversal makes of its visitor, as if each answered true.
use Rattle.std.specs.Prelude.{List, [], ◌∷◌, ◌++◌, Bool, true, false}
use Rattle.merkle_tree_theory.specs.Tree.{Tree, page, Row, high, node, Held, nothing, below, Node}

-- a call, with its arguments; the flag of `visit_page` says that the page is a high page
pub data Event (K D : Type 0) : Type 0 where
  visit_page : Tree K D → Bool → Event K D
  pre_visit_node : Node K D → Event K D
  visit_node : Node K D → Event K D
  post_visit_node : Node K D → Event K D
  post_visit_page : Tree K D → Event K D

module _ {K D : Type 0} where
  abbrev mutual
    -- a page is visited, then its nodes, each with the page below it; after them it is left, and its high page is visited
    pub events_of : Bool → Tree K D → List (Event K D)
    events_of is_high (page l c r) = visit_page (page l c r) is_high ∷ row_events (page l c r) r

    pub row_events : Tree K D → Row K D → List (Event K D)
    row_events t (high h) = post_visit_page t ∷ held_events true h
    row_events t (node h k d r) =
        let n : Node K D = record { lt = h; key = k; digest = d } in
        pre_visit_node n ∷ (held_events false h ++ visit_node n ∷ post_visit_node n ∷ row_events t r)

    pub held_events : Bool → Held K D → List (Event K D)
    held_events is_high nothing = []
    held_events is_high (below t) = events_of is_high t
