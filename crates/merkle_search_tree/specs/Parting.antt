-- Where a key parts the pages of its path.
use Rattle.std.specs.Prelude.{◌≡◌, ℕ, suc, ◌-◌, ◌<◌, ◌≤◌, List, [], ◌∷◌, ⊤, if◌then◌else◌}
use Rattle.std.specs.Vec.{vec_capacity}
use Rattle.std.specs.declared.cmp.Ordering.{Ordering}
use Rattle.std.specs.Ordering.{is_gt}
use Rattle.merkle_tree_theory.specs.Tree.{page, Row, high, node, Held, nothing, below}
use Rattle.merkle_tree_theory.specs.Chain.{row_length}
use Rattle.merkle_search_tree.specs.declared.parting.Parting.{Parting}
use Rattle.merkle_search_tree.specs.declared.parting.Parting.TheVariants.{Start, Inside, End}

module _ {K D : Type 0} where
  -- how many of n nodes are before a parting
  abbrev pub parting_place : ℕ → Parting K D → ℕ
  parting_place n Start = 0
  parting_place n (Inside i s) = i
  parting_place n End = n

  -- a parting of n nodes: after the start there is a node, and a parting inside has nodes on both sides, and room for those after it
  abbrev pub PartsNodes : ℕ → Parting K D → Type 0
  PartsNodes n Start = 0 < n
  PartsNodes n (Inside i s) = (0 < i) × (i < n) × (s.nodes.items ≡ []) × (n - i ≤ vec_capacity s.nodes)
  PartsNodes n End = ⊤

module _ {K D : Type 0} (cmp : K → K → Ordering) (at : K) where
  -- what stands in the key's gap of a row
  abbrev pub gap : Row K D → Held K D
  gap (high h) = h
  gap (node h k d r) = if (is_gt (cmp at k)) then (gap r) else h

  -- the place of the gap: how many nodes are below the key
  abbrev pub row_place : Row K D → ℕ
  row_place (high h) = 0
  row_place (node h k d r) = if (is_gt (cmp at k)) then (suc (row_place r)) else 0

  -- a row's parting at the key's gap
  abbrev pub PartingFits : Row K D → Parting K D → Type 0
  PartingFits r c = PartsNodes (row_length r) c × (parting_place (row_length r) c ≡ row_place r)

  -- the partings are those of the key's path, the topmost first
  abbrev pub PartingsFit : Held K D → List (Parting K D) → Type 0
  PartingsFit nothing [] = ⊤
  PartingsFit nothing (c ∷ cs) = ⊥
  PartingsFit (below t) [] = ⊥
  PartingsFit (below (page l d r)) (c ∷ cs) = PartingFits r c × PartingsFit (gap r) cs
