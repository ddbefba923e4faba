-- The items of a page, read off its list of nodes.
use Rattle.std.proofs.Common.{◌≡◌, ℕ, ◌+◌, ◌<◌, List, [], ◌∷◌, ◌++◌, length, take, get_or, Option, Some, refl, ap, sym, ◌∙◌, append_assoc}
use Rattle.std.proofs.lemmas.List.{take_more}
use Rattle.merkle_tree_theory.specs.Gap.{Gap, part_before, part_behind}
use Rattle.merkle_tree_theory.specs.Outline.{Item, of_node, row_items, held_items}
use Rattle.merkle_tree_theory.specs.Tree.{Tree, Held, Node, row}

module _ {K D : Type 0} where
  -- the bound after nodes: the key of the last one, or where there is none the one before them
  abbrev pub bound_behind : Option K → List (Node K D) → Option K
  bound_behind a [] = a
  bound_behind a (e ∷ es) = bound_behind (Some e.key) es

  pub bound_behind-more : (a : Option K) (es : List (Node K D)) (e : Node K D) → bound_behind a (es ++ e ∷ []) ≡ Some e.key
  bound_behind-more a [] e = refl
  bound_behind-more a (f ∷ es) e = bound_behind-more (Some f.key) es e

module _ {K D : Type 0} (digest_of : Tree K D → Option (List ℕ)) where
  -- the items of nodes and of the pages before them
  abbrev pub front_items : Gap K → List (Node K D) → List (Item K D)
  front_items g [] = []
  front_items g (e ∷ es) = held_items digest_of (part_before g e.key) e.lt ++ of_node e.key e.digest ∷ front_items (part_behind g e.key) es

  pub row_items-row : (g : Gap K) (es : List (Node K D)) (h : Held K D)
      → row_items digest_of g (row es h) ≡ front_items g es ++ held_items digest_of (record { after = bound_behind g.after es; before = g.before }) h
  row_items-row g [] h = refl
  row_items-row g (e ∷ es) h =
      let first = held_items digest_of (part_before g e.key) e.lt in
      let rest = part_behind g e.key in
      ap (λ w. first ++ of_node e.key e.digest ∷ w) (row_items-row rest es h)
      ∙ sym (append_assoc first (of_node e.key e.digest ∷ front_items rest es) (held_items digest_of (record { after = bound_behind (Some e.key) es; before = g.before }) h))

  -- one node more
  pub front_items-more : (g : Gap K) (es : List (Node K D)) (e : Node K D)
      → front_items g (es ++ e ∷ []) ≡ front_items g es ++ (held_items digest_of (record { after = bound_behind g.after es; before = Some e.key }) e.lt ++ of_node e.key e.digest ∷ [])
  front_items-more g [] e = refl
  front_items-more g (f ∷ es) e =
      let first = held_items digest_of (part_before g f.key) f.lt in
      let rest = part_behind g f.key in
      ap (λ w. first ++ of_node f.key f.digest ∷ w) (front_items-more rest es e)
      ∙ sym (append_assoc first (of_node f.key f.digest ∷ front_items rest es)
      (held_items digest_of (record { after = bound_behind (Some f.key) es; before = Some e.key }) e.lt ++ of_node e.key e.digest ∷ []))

  -- a list that got the items of all nodes gets those of the row with what the high page holds
  pub listed-row : (g : Gap K) (es : List (Node K D)) (h : Held K D) (old now : List (Item K D)) (a : Option K) → now ≡ old ++ front_items g es → a ≡ bound_behind g.after es
      → now ++ held_items digest_of (record { after = a; before = g.before }) h ≡ old ++ row_items digest_of g (row es h)
  listed-row g es h old now a listed behind =
      (λ i. listed i ++ held_items digest_of (record { after = behind i; before = g.before }) h)
      ∙ append_assoc old (front_items g es) (held_items digest_of (record { after = bound_behind g.after es; before = g.before }) h) ∙ ap (λ w. old ++ w) (sym (row_items-row g es h))

  -- a list that got the items of some nodes gets those of one more
  pub listed-more : (g : Gap K) (xs : List (Node K D)) (i : ℕ) (x : Node K D) {e : Node K D} (old now : List (Item K D)) (a : Option K) → i < length xs → e ≡ get_or xs i x
      → now ≡ old ++ front_items g (take i xs) → a ≡ bound_behind g.after (take i xs)
      → (now ++ held_items digest_of (record { after = a; before = Some e.key }) e.lt) ++ of_node e.key e.digest ∷ [] ≡ old ++ front_items g (take (i + 1) xs)
  listed-more g xs i x {e = e} old now a within at listed behind =
      let more : take (i + 1) xs ≡ take i xs ++ e ∷ [] = take_more xs i x within ∙ ap (λ y. take i xs ++ y ∷ []) (sym at) in
      let held = held_items digest_of (record { after = bound_behind g.after (take i xs); before = Some e.key }) e.lt in
      (λ j. (listed j ++ held_items digest_of (record { after = behind j; before = Some e.key }) e.lt) ++ of_node e.key e.digest ∷ [])
      ∙ append_assoc (old ++ front_items g (take i xs)) held (of_node e.key e.digest ∷ []) ∙ append_assoc old (front_items g (take i xs)) (held ++ of_node e.key e.digest ∷ [])
      ∙ ap (λ w. old ++ w) (sym (front_items-more g (take i xs) e)) ∙ ap (λ ys. old ++ front_items g ys) (sym more)

-- and what comes is after that node
pub behind-more : {K D : Type 0} (a : Option K) (xs : List (Node K D)) (i : ℕ) (x : Node K D) {e : Node K D} → i < length xs → e ≡ get_or xs i x → Some e.key ≡ bound_behind a (take (i + 1) xs)
behind-more a xs i x {e = e} within at =
    let more : take (i + 1) xs ≡ take i xs ++ e ∷ [] = take_more xs i x within ∙ ap (λ y. take i xs ++ y ∷ []) (sym at) in
    sym (bound_behind-more a (take i xs) e) ∙ ap (bound_behind a) (sym more)
