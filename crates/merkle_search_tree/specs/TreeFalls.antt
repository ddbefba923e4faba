-- A page's nodes, and the pages below it, are smaller than it.
use Rattle.std.specs.Prelude.{suc, ◌+◌, ◌≤◌, List, [], ◌∷◌, Option, Some, None}
use Rattle.std.specs.declared.boxed.Box.{Box}
use Rattle.std.specs.declared.alloc.Global.{Global}
use Rattle.std.proofs.Common.{arith}
use denote.Param.Weighed.{most}
use Rattle.merkle_tree_theory.specs.Tree.{Tree, Held, nothing, below, Node, held_of, row, row_size, held_size, node_size}
use Rattle.merkle_search_tree.specs.declared.page.NodeOf.TheInside.{Inside}
use Rattle.merkle_search_tree.specs.declared.page.PageOf.TheInside.{Inside as PageInside}
use Rattle.merkle_search_tree.specs.declared.page.NodeOf.TheDeep.{deep-NodeOf, deep-PageOf}

pub most_nodes : {K D : Type 0} (es : List (Node K D)) (h : Held K D) → most (λ e. node_size e + 1) es ≤ row_size (row es h) + 1
most_nodes [] h = omega arith
most_nodes (e ∷ es) h = omega (arith, most_nodes es h)

pub high_size : {K D : Type 0} (es : List (Node K D)) (h : Held K D) → held_size h ≤ row_size (row es h)
high_size [] h = omega arith
high_size (e ∷ es) h = omega (arith, high_size es h)

pub falls_node : {K D : Type 0} (a : Inside K D) → deep-NodeOf K D a ≤ suc (held_size (held_of a.lt_pointer))
falls_node {K} {D} a = by a.lt_pointer
  where
    by : (o : Option (Box (Tree K D) Global)) → deep-NodeOf K D (record a { lt_pointer = o }) ≤ suc (held_size (held_of o))
    by None = omega arith
    by (Some b) = omega arith

pub falls_page : {K D : Type 0} (a : PageInside K D) → deep-PageOf K D a ≤ suc (row_size (row a.nodes.items (held_of a.high_page)))
falls_page {K} {D} a = by a.high_page
  where
    by : (o : Option (Box (Tree K D) Global)) → deep-PageOf K D (record a { high_page = o }) ≤ suc (row_size (row a.nodes.items (held_of o)))
    by None = omega (arith, most_nodes a.nodes.items nothing, high_size a.nodes.items nothing)
    by (Some b) = omega (arith, most_nodes a.nodes.items (below b.value), high_size a.nodes.items (below b.value))
