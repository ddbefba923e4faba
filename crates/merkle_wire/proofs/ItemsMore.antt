-- The nodes and the pages among one item more.
use Rattle.std.proofs.Common.{◌≡◌, ℕ, ◌+◌, ◌<◌, List, [], ◌∷◌, ◌++◌, length, take, get_or, map, Option, Some, None, refl, ap, sym, ◌∙◌}
use Rattle.std.proofs.lemmas.List.{take_more, map-append}
use Rattle.merkle_tree_theory.specs.Gap.{Gap}
use Rattle.merkle_tree_theory.specs.Outline.{Item, of_node, of_page}
use Rattle.merkle_wire.specs.Outlines.{nodes_among, pages_beside, HasNoPage}

-- what is made of one more
pub map_more : {X Y : Type 0} (f : X → Y) (xs : List X) (i : ℕ) (x : X) → i < length xs → x ≡ get_or xs i x → map f (take (i + 1) xs) ≡ map f (take i xs) ++ f x ∷ []
map_more f xs i x low is = ap (map f) (take_more xs i x low ∙ ap (λ z. take i xs ++ z ∷ []) (sym is)) ∙ map-append f (take i xs) (x ∷ [])

module _ {K : Type 0} where
  pub nodes_among-append : (xs ys : List (Item K (List ℕ))) → nodes_among (xs ++ ys) ≡ nodes_among xs ++ nodes_among ys
  nodes_among-append [] ys = refl
  nodes_among-append (of_node k d ∷ xs) ys = ap (λ ns. (k, d) ∷ ns) (nodes_among-append xs ys)
  nodes_among-append (of_page g d ∷ xs) ys = nodes_among-append xs ys

  pub no_page-append : (xs ys : List (Item K (List ℕ))) → HasNoPage xs → HasNoPage ys → HasNoPage (xs ++ ys)
  no_page-append [] ys p q = q
  no_page-append (of_node k d ∷ xs) ys p q = no_page-append xs ys p q
  no_page-append (of_page g d ∷ xs) ys p q = absurd p

  -- the digests of the pages before the nodes, and what stands after the last item
  abbrev pub pages_before : Option (List ℕ) → List (Item K (List ℕ)) → List (Option (List ℕ))
  pages_before before [] = []
  pages_before before (of_node k d ∷ xs) = before ∷ pages_before None xs
  pages_before before (of_page g d ∷ xs) = pages_before (Some d) xs

  abbrev pub page_behind : Option (List ℕ) → List (Item K (List ℕ)) → Option (List ℕ)
  page_behind before [] = before
  page_behind before (of_node k d ∷ xs) = page_behind None xs
  page_behind before (of_page g d ∷ xs) = page_behind (Some d) xs

  pub pages_are : (before : Option (List ℕ)) (xs : List (Item K (List ℕ))) → pages_beside before xs ≡ pages_before before xs ++ page_behind before xs ∷ []
  pages_are before [] = refl
  pages_are before (of_node k d ∷ xs) = ap (λ ps. before ∷ ps) (pages_are None xs)
  pages_are before (of_page g d ∷ xs) = pages_are (Some d) xs

  -- a node more
  pub node_more : (before : Option (List ℕ)) (xs : List (Item K (List ℕ))) (k : K) (d : List ℕ)
      → (pages_before before (xs ++ of_node k d ∷ []) ≡ pages_before before xs ++ page_behind before xs ∷ []) × (page_behind before (xs ++ of_node k d ∷ []) ≡ None)
  node_more before [] k d = (refl, refl)
  node_more before (of_node j e ∷ xs) k d = let rest = node_more None xs k d in (ap (λ ps. before ∷ ps) rest.0, rest.1)
  node_more before (of_page g e ∷ xs) k d = node_more (Some e) xs k d

  -- a page more
  pub page_more : (before : Option (List ℕ)) (xs : List (Item K (List ℕ))) (g : Gap K) (d : List ℕ)
      → (pages_before before (xs ++ of_page g d ∷ []) ≡ pages_before before xs) × (page_behind before (xs ++ of_page g d ∷ []) ≡ Some d)
  page_more before [] g d = (refl, refl)
  page_more before (of_node j e ∷ xs) g d = let rest = page_more None xs g d in (ap (λ ps. before ∷ ps) rest.0, rest.1)
  page_more before (of_page h e ∷ xs) g d = page_more (Some e) xs g d
