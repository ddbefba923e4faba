-- The order of a page's nodes, and a search for a key among them.
use Rattle.std.specs.Prelude.{◌≡◌, ℕ, zero, suc, ◌/◌, List, [], ◌∷◌, ◌++◌, length, ⊤, ◌⊎◌}
use Rattle.std.specs.List.{AllByRecursion}
use Rattle.std.specs.declared.cmp.Ordering.{Ordering}
use Rattle.std.specs.declared.cmp.Ordering.TheVariants.{Less, Equal, Greater}
use Rattle.key_order.specs.Order.{Below}
use Rattle.merkle_tree_theory.specs.Tree.{Node}

module _ {K D : Type 0} (cmp : K → K → Ordering) where
  -- the keys of the nodes ascend
  abbrev pub NodesAscend : List (Node K D) → Type 0
  NodesAscend [] = ⊤
  NodesAscend (e ∷ es) = AllByRecursion (λ f. Below cmp e.key f.key) es × NodesAscend es

  -- this many comparisons a search by halving makes among nodes: none where there is no node, else one with the node in the middle, and then
  -- those among the nodes before it, or after it, or none where it has the key
  abbrev pub ComparesByHalves : K → ℕ → List (Node K D) → Type 0
  ComparesByHalves k zero es = es ≡ []
  ComparesByHalves k (suc n) es =
      (before : List (Node K D)) × (middle : Node K D) × (behind : List (Node K D))
      × (es ≡ before ++ middle ∷ behind) × (length before ≡ length es / 2)
      × (((cmp k middle.key ≡ Less) × ComparesByHalves k n before) ⊎ (((cmp k middle.key ≡ Equal) × (n ≡ 0)) ⊎ ((cmp k middle.key ≡ Greater) × ComparesByHalves k n behind)))
