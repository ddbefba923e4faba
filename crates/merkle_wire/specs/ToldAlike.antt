-- What is told of keys and values rests on their bytes alone.
use Rattle.std.specs.Prelude.{◌≡◌, ℕ, List, map, Bool, Option, option_map}
use Rattle.std.specs.Global.{Vec}
use Rattle.std.specs.List.{AllByRecursion}
use Rattle.std.specs.declared.cmp.Ordering.{Ordering}
use Rattle.key_order.specs.Map.{get}
use Rattle.merkle_tree_theory.specs.Gap.{everywhere}
use Rattle.merkle_tree_theory.specs.Outline.{Item, of_node, of_page}
use Rattle.merkle_wire.specs.Outlines.{IsTold, nodes_among}
use Rattle.merkle_wire.specs.Steps.{AddsTold}

-- an item as it is told: the bytes of a node's key, with its digest, or the digest of a page
abbrev pub told_item : {K : Type 0} → (K → List ℕ) → Item K (List ℕ) → Item (List ℕ) (List ℕ)
told_item encoding (of_node k d) = of_node (encoding k) d
told_item encoding (of_page g d) = of_page everywhere d

-- of items that are the same as they are told, and rows whose values at their nodes are, what is told of one page is told of the other
abbrev pub ItemsAreToldAlike : {K V : Type 0} → (K → K → Ordering) → (K → List ℕ) → (V → List ℕ) → Type 0
ItemsAreToldAlike {K} {V} cmp encoding values =
    (rows others : List (K × V)) (with_pages : Bool) (xs ys : List (Item K (List ℕ))) (after : Option K) (old new : Vec ℕ) → map (told_item encoding) xs ≡ map (told_item encoding) ys
    → AllByRecursion (λ n. option_map values (get cmp rows n.0) ≡ option_map values (get cmp others n.0)) (nodes_among xs)
    → AddsTold encoding values (IsTold cmp rows with_pages xs) after old new → AddsTold encoding values (IsTold cmp others with_pages ys) after old new
