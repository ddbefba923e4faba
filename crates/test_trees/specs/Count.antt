-- How many calls of a traversal are at a node in its place.
use Rattle.std.specs.Prelude.{ℕ, ◌+◌, ◌-◌, ◌^◌, min}
use Rattle.merkle_tree_theory.specs.Events.{Event, visit_page, pre_visit_node, visit_node, post_visit_node, post_visit_page}

module _ {K D : Type 0} where
  -- the count after a call; it stops at what a `usize` holds
  abbrev pub counted : ℕ → Event K D → ℕ
  counted c (visit_page t b) = c
  counted c (pre_visit_node n) = c
  counted c (visit_node n) = min (c + 1) (2 ^ 64 - 1)
  counted c (post_visit_node n) = c
  counted c (post_visit_page t) = c
