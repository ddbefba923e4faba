-- The items of an outline, listed one after the other.
use Rattle.std.proofs.Common.{◌≡◌, ◌<◌, ◌+◌, ℕ, List, [], ◌∷◌, ◌++◌, drop, map, length, Option, Some, None, refl, sym, ap, ◌∙◌, append_assoc, get_or, string_bytes}
use Rattle.std.proofs.lemmas.List.{drop_more, map-append}
use Rattle.key_order.specs.Text.{Text}
use Rattle.merkle_tree_theory.specs.Gap.{Gap}
use Rattle.merkle_tree_theory.specs.Outline.{Item, of_node, page_items}
use Rattle.store_tree.specs.Outlines.{told_items}
use Rattle.store_tree.specs.Texts.{bytes_gap, bytes_item}
use Rattle.store_tree.specs.declared.outline.ToldNode.{ToldNode}

-- what is listed so far, and what comes for the nodes that are left, are the items of all
abbrev pub IsListed : Gap Text → List ToldNode → Option (List ℕ) → List (Item Text (List ℕ)) → Option Text → List ToldNode → Type 0
IsListed gap all last listed after left =
    map bytes_item listed ++ told_items (bytes_gap (record { after = after; before = gap.before })) left last ≡ told_items (bytes_gap gap) all last

page_bytes_item : (gap : Gap Text) (page : Option (List ℕ)) → map bytes_item (page_items gap page) ≡ page_items (bytes_gap gap) page
page_bytes_item gap None = refl
page_bytes_item gap (Some digest) = refl

module _ (gap : Gap Text) (all : List ToldNode) (last : Option (List ℕ)) where
  pub listed_more : (i : ℕ) (x : ToldNode) {n : ToldNode} (now new : List (Item Text (List ℕ))) (after : Option Text) → i < length all → n ≡ get_or all i x
      → new ≡ (now ++ page_items (record { after = after; before = Some n.key }) n.before) ++ of_node n.key n.digest ∷ []
      → IsListed gap all last now after (drop i all) → IsListed gap all last new (Some n.key) (drop (i + 1) all)
  listed_more i x {n = n} now new after within at is listed =
      let before : Gap Text = record { after = after; before = Some n.key } in
      let pages = page_items before n.before in
      let rest = told_items (bytes_gap (record { after = Some n.key; before = gap.before })) (drop (i + 1) all) last in
      let left : drop i all ≡ n ∷ drop (i + 1) all = drop_more all i x within ∙ ap (λ y. y ∷ drop (i + 1) all) (sym at) in
      let bytes : map bytes_item new ≡ (map bytes_item now ++ page_items (bytes_gap before) n.before) ++ of_node (string_bytes n.key) n.digest ∷ [] =
      ap (map bytes_item) is ∙ map-append bytes_item (now ++ pages) (of_node n.key n.digest ∷ [])
      ∙ ap (λ xs. xs ++ of_node (string_bytes n.key) n.digest ∷ [])
      (map-append bytes_item now pages ∙ ap (λ xs. map bytes_item now ++ xs) (page_bytes_item before n.before)) in
      ap (λ xs. xs ++ rest) bytes
      ∙ append_assoc (map bytes_item now ++ page_items (bytes_gap before) n.before) (of_node (string_bytes n.key) n.digest ∷ []) rest
      ∙ append_assoc (map bytes_item now) (page_items (bytes_gap before) n.before) (of_node (string_bytes n.key) n.digest ∷ rest)
      ∙ ap (λ ns. map bytes_item now ++ told_items (bytes_gap (record { after = after; before = gap.before })) ns last) (sym left)
      ∙ listed

  pub listed_all : (now new : List (Item Text (List ℕ))) (after : Option Text) (left : List ToldNode) → left ≡ []
      → new ≡ now ++ page_items (record { after = after; before = gap.before }) last → IsListed gap all last now after left
      → map bytes_item new ≡ told_items (bytes_gap gap) all last
  listed_all now new after left none is listed =
      let behind : Gap Text = record { after = after; before = gap.before } in
      ap (map bytes_item) is ∙ map-append bytes_item now (page_items behind last) ∙ ap (λ xs. map bytes_item now ++ xs) (page_bytes_item behind last)
      ∙ ap (λ ns. map bytes_item now ++ told_items (bytes_gap behind) ns last) (sym none) ∙ listed

pub ruleset listing = (listed_more, listed_all)
