-- The pages on the way to what comes next in an iteration, the root first.
use Rattle.std.specs.Prelude.{◌≡◌, ℕ, suc, ◌+◌, ◌<◌, ◌≤◌, List, [], ◌∷◌, ◌++◌, length, Option, MatchOption, ⊤}
use Rattle.std.specs.declared.alloc.Global.{Global}
use Rattle.std.specs.declared.boxed.Box.{Box}
use denote.Ref.{Bor}
use Rattle.merkle_tree_theory.specs.Tree.{Tree, Row, high, node, Held, row, held_of, Node}
use Rattle.merkle_tree_theory.specs.Page.{row_in_order, held_in_order, row_pages, held_pages, RowFalls, HeldFalls}
use Rattle.merkle_search_tree.specs.declared.path.Visit.{Visit}

module _ {K D : Type 0} where
  -- what is left of a row whose first node comes next
  abbrev pub from_first : Row K D → List (Node K D)
  from_first (high h) = held_in_order h
  from_first (node h k d r) = record { lt = h; key = k; digest = d } ∷ row_in_order r

  -- what is left of a page
  abbrev pub visit_rest : Visit K D → List (Node K D)
  visit_rest v = from_first (row v.nodes.now (held_of v.high_page.now))

  -- the nodes that are left, in order: those of the last page first
  abbrev pub rest_of : List (Visit K D) → List (Node K D)
  rest_of [] = []
  rest_of (v ∷ vs) = rest_of vs ++ visit_rest v

  -- the pages that are left of a row whose first node comes next
  abbrev pub behind_first : Row K D → List (Tree K D)
  behind_first (high h) = held_pages h
  behind_first (node h k d r) = row_pages r

  -- the pages that are left, each before those below it: those of the last page first
  abbrev pub pages_left : List (Visit K D) → List (Tree K D)
  pages_left [] = []
  pages_left (v ∷ vs) = pages_left vs ++ behind_first (row v.nodes.now (held_of v.high_page.now))

  -- a page at a place in the path has a node left, and room above it for a page of each lower level
  abbrev pub VisitFits : ℕ → ℕ → Visit K D → Type 0
  VisitFits capacity place v = (0 < length v.nodes.now) × RowFalls v.level (row v.nodes.now (held_of v.high_page.now)) × (place + v.level < capacity)

  -- so has each page of the path from a place on
  abbrev pub PathFits : ℕ → ℕ → List (Visit K D) → Type 0
  PathFits capacity place [] = ⊤
  PathFits capacity place (v ∷ vs) = VisitFits capacity place v × PathFits capacity (suc place) vs

  -- a path of this length has room for what is held, down to the lowest level
  abbrev pub HasRoom : ℕ → ℕ → Held K D → Type 0
  HasRoom len capacity h = (bound : ℕ) × HeldFalls bound h × (len + bound ≤ capacity)

  -- the nodes that are left, with those of what is held before those of the path
  abbrev pub rest_with : Held K D → List (Visit K D) → List (Node K D)
  rest_with h vs = held_in_order h ++ rest_of vs

  -- the pages that are left, with those of what is held before those of the path
  abbrev pub pages_with : Held K D → List (Visit K D) → List (Tree K D)
  pages_with h vs = held_pages h ++ pages_left vs

  -- the node was the first of those that were left, and the others are left; without one none was left, and none is
  abbrev pub TakesNode : List (Visit K D) → List (Visit K D) → Option (Bor (Node K D)) → Type 0
  TakesNode old new taken = MatchOption taken ((rest_of old ≡ []) × (rest_of new ≡ [])) (λ node. rest_of old ≡ node.now ∷ rest_of new)

  -- so it is with the node that is passed, where what stands after it comes next
  abbrev pub PassesNode : List (Visit K D) → List (Visit K D) → Option (Bor (Node K D) × Bor (Option (Box (Tree K D) Global))) → Type 0
  PassesNode old new passed =
      MatchOption passed ((rest_of old ≡ []) × (rest_of new ≡ [])) (λ step. rest_of old ≡ step.0.now ∷ rest_with (held_of step.1.now) new)

  -- the pages after the node that is passed were the first of those that were left; without a node none was left, and none is
  abbrev pub PassesPages : List (Visit K D) → List (Visit K D) → Option (Bor (Node K D) × Bor (Option (Box (Tree K D) Global))) → Type 0
  PassesPages old new passed =
      MatchOption passed ((pages_left old ≡ []) × (pages_left new ≡ [])) (λ step. pages_left old ≡ pages_with (held_of step.1.now) new)
