-- Rows in two lists: those before a place, and those from it on, the last one first.
use Rattle.std.specs.Prelude.{◌≡◌, Bool, false, List, [], ◌∷◌, ◌++◌, reverse, ⊤}
use Rattle.std.specs.declared.cmp.Ordering.{Ordering}
use Rattle.std.specs.declared.cmp.Ordering.TheVariants.{Less}
use Rattle.std.specs.Ordering.{is_eq}
use Rattle.std.specs.Global.{Vec}
use Rattle.key_order.specs.Join.{IsJoin}
use Rattle.merkle_tree_theory.specs.State.{State}
use Rattle.merkle_replica.specs.Contents.{Contents}

-- the rows of both lists, in order
abbrev pub whole : {X : Type 0} → List X → List X → List X
whole front back = front ++ reverse back

-- the rows of both lists, and a tree
abbrev pub parted : {K V H : Type 0} → Vec (K × V) → Vec (K × V) → State K H → Contents K V H
parted front back tree = record { rows = whole front.items back.items; tree = tree }

-- a row is joined with the rows of both lists
abbrev pub JoinsParted : {K V : Type 0} → (K → K → Ordering) → (V → V → Bool) → (V → V → V)
    → Vec (K × V) → Vec (K × V) → K × V → Vec (K × V) → Vec (K × V) → Type 0
JoinsParted cmp eq join front back row front' back' = IsJoin cmp eq join (whole front.items back.items) (row ∷ []) (whole front'.items back'.items)

-- the first of the rows, where there is one, isn't below the key
abbrev pub FirstNotBelow : {K V : Type 0} → (K → K → Ordering) → K → List (K × V) → Type 0
FirstNotBelow cmp key [] = ⊤
FirstNotBelow cmp key (r ∷ rs) = cmp r.0 key ≡ Less → ⊥

-- whether the first of the rows has the key
abbrev pub first_is : {K V : Type 0} → (K → K → Ordering) → K → List (K × V) → Bool
first_is cmp key [] = false
first_is cmp key (r ∷ rs) = is_eq (cmp r.0 key)
