-- The pages of a path, taken apart at a key and page_chain together again.
use Rattle.std.specs.Prelude.{ℕ, zero, suc, ◌<◌, List, [], ◌∷◌, ⊤, None}
use Rattle.std.specs.declared.boxed.Box.{Box}
use Rattle.std.specs.declared.alloc.Global.{Global}
use Rattle.merkle_tree_theory.specs.Tree.{Tree, page, Row, high, node, Held, nothing, below}

module _ {K D : Type 0} where
  abbrev pub row_length : Row K D → ℕ
  row_length (high h) = 0
  row_length (node h k d r) = suc (row_length r)

  abbrev pub page_length : Tree K D → ℕ
  page_length (page l c r) = row_length r

  -- what stands above the last node, and what stands below the first
  abbrev pub high_of : Row K D → Held K D
  high_of (high h) = h
  high_of (node h k d r) = high_of r

  abbrev pub first_of : Row K D → Held K D
  first_of (high h) = h
  first_of (node h k d r) = h

  -- the row with another page there
  abbrev pub with_high : Held K D → Row K D → Row K D
  with_high g (high h) = high g
  with_high g (node h k d r) = node h k d (with_high g r)

  abbrev pub with_first : Held K D → Row K D → Row K D
  with_first g (high h) = high g
  with_first g (node h k d r) = node g k d r

  -- the first n nodes, with nothing above them, and the others
  abbrev pub row_take : ℕ → Row K D → Row K D
  row_take zero r = high nothing
  row_take (suc n) (high h) = high nothing
  row_take (suc n) (node h k d r) = node h k d (row_take n r)

  abbrev pub row_drop : ℕ → Row K D → Row K D
  row_drop zero r = r
  row_drop (suc n) (high h) = high h
  row_drop (suc n) (node h k d r) = row_drop n r

  -- a page with another row; its digest stays only at 0
  abbrev pub page_with_row : ℕ → Tree K D → Row K D → Tree K D
  page_with_row zero (page l c r) s = page l c s
  page_with_row (suc n) (page l c r) s = page l None s

  abbrev pub row_of_page : Tree K D → Row K D
  row_of_page (page l c r) = r

  -- each page has a node
  abbrev pub HaveNodes : List (Box (Tree K D) Global) → Type 0
  HaveNodes [] = ⊤
  HaveNodes (b ∷ bs) = (0 < page_length b.value) × HaveNodes bs

  -- pages page_chain together, each where `hang` hangs it in the page before it; the first n of them lose their digests
  abbrev pub page_chain : (Held K D → Row K D → Row K D) → ℕ → List (Box (Tree K D) Global) → Held K D → Held K D
  page_chain hang n [] h = h
  page_chain hang zero (b ∷ bs) h = below (page_with_row 0 b.value (hang (page_chain hang zero bs h) (row_of_page b.value)))
  page_chain hang (suc n) (b ∷ bs) h = below (page_with_row 1 b.value (hang (page_chain hang n bs h) (row_of_page b.value)))
