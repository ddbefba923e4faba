-- The nodes and the gaps among one item more, and what a side has at the keys of nodes.
use Rattle.std.proofs.Common.{◌≡◌, ℕ, ◌+◌, ◌<◌, List, [], ◌∷◌, ◌++◌, length, take, drop, get_or, map, Some, None, Option, refl, ap, ap₂, sym, ◌∙◌, append-nil, append_assoc}
use Rattle.std.proofs.lemmas.List.{take-append-drop, map-append}
use Rattle.std.proofs.lemmas.Grind.{flat_map-append}
use Rattle.std.specs.List.{flat_map}
use Rattle.key_order.specs.Map.{get}
use Rattle.key_order.proofs.ListParts.{each-append}
use Rattle.merkle_replica.specs.Contents.{Side, tree_map}
use Rattle.merkle_replica.specs.Laws.{Laws}
use Rattle.merkle_tree_theory.specs.Gap.{Gap}
use Rattle.merkle_tree_theory.specs.Outline.{Item, of_node, of_page}
use Rattle.merkle_tree_theory.specs.State.{State}
use Rattle.merkle_wire.specs.Outlines.{keys_among, nodes_among}
use Rattle.merkle_wire.proofs.ItemsMore.{map_more, nodes_among-append}
use Rattle.merkle_audit.specs.Nodes.{AreFaithful, AreLookedAt, Differ, HasAll, HasDigests, gaps_among, page_items_over}

pub gaps_among-append : {K : Type 0} (xs ys : List (Item K (List ℕ))) → gaps_among (xs ++ ys) ≡ gaps_among xs ++ gaps_among ys
gaps_among-append [] ys = refl
gaps_among-append (of_node k d ∷ xs) ys = gaps_among-append xs ys
gaps_among-append (of_page g d ∷ xs) ys = ap (λ gs. g ∷ gs) (gaps_among-append xs ys)

-- the gaps among one item more
pub gaps_more : {K X : Type 0} (f : X → Item K (List ℕ)) (xs : List X) (i : ℕ) (x : X) → i < length xs → x ≡ get_or xs i x
    → gaps_among (map f (take (i + 1) xs)) ≡ gaps_among (map f (take i xs)) ++ gaps_among (f x ∷ [])
gaps_more f xs i x low is = ap gaps_among (map_more f xs i x low is) ∙ gaps_among-append (map f (take i xs)) (f x ∷ [])

-- and the nodes
pub nodes_more : {K X : Type 0} (f : X → Item K (List ℕ)) (xs : List X) (i : ℕ) (x : X) → i < length xs → x ≡ get_or xs i x
    → nodes_among (map f (take (i + 1) xs)) ≡ nodes_among (map f (take i xs)) ++ nodes_among (f x ∷ [])
nodes_more f xs i x low is = ap nodes_among (map_more f xs i x low is) ∙ nodes_among-append (map f (take i xs)) (f x ∷ [])

-- the nodes before one, itself and those after it
pub node_at : {K X : Type 0} (f : X → Item K (List ℕ)) (xs : List X) (i : ℕ) (x : X) (k : K) (d : List ℕ) → i < length xs → x ≡ get_or xs i x → f x ≡ of_node k d
    → nodes_among (map f xs) ≡ nodes_among (map f (take i xs)) ++ (k, d) ∷ nodes_among (map f (drop (i + 1) xs))
node_at f xs i x k d low is node =
    let first = map f (take i xs) in
    let rest = map f (drop (i + 1) xs) in
    ap (λ ys. nodes_among (map f ys)) (sym (take-append-drop (i + 1) xs)) ∙ ap nodes_among (map-append f (take (i + 1) xs) (drop (i + 1) xs))
    ∙ ap (λ ys. nodes_among (ys ++ rest)) (map_more f xs i x low is ∙ ap (λ y. first ++ y ∷ []) node) ∙ ap nodes_among (append_assoc first (of_node k d ∷ []) rest)
    ∙ nodes_among-append first (of_node k d ∷ rest)

-- one digest more, of a node more
pub digests_more : {K : Type 0} (at : K → Option (List ℕ)) (nodes all : List (K × List ℕ)) (k : K) (d : List ℕ) (ds : List (List ℕ)) (own : List ℕ)
    → all ≡ nodes ++ (k, d) ∷ [] → map at (keys_among nodes) ≡ map Some ds
    → at k ≡ Some own → map at (keys_among all) ≡ map Some (ds ++ own ∷ [])
digests_more at nodes all k d ds own is had here =
    ap (λ ns. map at (keys_among ns)) is ∙ ap (map at) (map-append (λ n. n.0) nodes ((k, d) ∷ [])) ∙ map-append at (keys_among nodes) (k ∷ [])
    ∙ ap₂ (λ xs ys. xs ++ ys) had (ap (λ o. o ∷ []) here) ∙ sym (map-append Some ds (own ∷ []))

-- the bytes of one digest more
pub bytes_more : (ds : List (List ℕ)) (d bytes : List ℕ) → bytes ≡ d → flat_map (λ e. e) ds ++ bytes ≡ flat_map (λ e. e) (ds ++ d ∷ [])
bytes_more ds d bytes is = ap (λ b. flat_map (λ e. e) ds ++ b) (is ∙ sym (append-nil d)) ∙ sym (flat_map-append (λ (e : List ℕ). e) ds (d ∷ []))

-- lists of digests with equal options are equal
pub some_tell : (ds es : List (List ℕ)) → map Some ds ≡ map Some es → ds ≡ es
some_tell [] [] e = refl
some_tell [] (y ∷ es) e = absurd (cc)
some_tell (x ∷ ds) [] e = absurd (cc)
some_tell (x ∷ ds) (y ∷ es) e =
    let here : x ≡ y = cc in
    let rest : map Some ds ≡ map Some es = cc in
    let more = some_tell ds es rest in
    (λ i. here i ∷ more i)

module _ {K V H : Type 0} (laws : Laws K V H) (local : Side K V H) where
  abbrev at : K → Option (List ℕ)
  at = get laws.cmp (tree_map laws local)

  -- of nodes of which it lacks a key, the side does not have all digests
  pub one_lacked : (pre post : List (K × List ℕ)) (n : K × List ℕ) (ds : List (List ℕ)) → at n.0 ≡ None → HasDigests laws local (pre ++ n ∷ post) ds → ⊥
  one_lacked [] post n [] none own = cc
  one_lacked [] post n (d ∷ ds) none own = let here : at n.0 ≡ Some d = cc in cc
  one_lacked (p ∷ pre) post n [] none own = cc
  one_lacked (p ∷ pre) post n (d ∷ ds) none own = let rest : map at (keys_among (pre ++ n ∷ post)) ≡ map Some ds = cc in one_lacked pre post n ds none rest

  -- so they differ
  pub lacked_differ : (pre post : List (K × List ℕ)) (n : K × List ℕ) → at n.0 ≡ None → Differ laws local (pre ++ n ∷ post)
  lacked_differ pre post n none ds own same = one_lacked pre post n ds none own

  -- nodes that the side has are faithful
  pub had_faithful : (nodes : List (K × List ℕ)) → HasAll laws local nodes → AreFaithful laws local nodes
  had_faithful nodes a ds own same = some_tell ds (map (λ n. n.1) nodes) (sym own ∙ are nodes a)
    where
      are : (ns : List (K × List ℕ)) → HasAll laws local ns → map at (keys_among ns) ≡ map Some (map (λ n. n.1) ns)
      are [] a = refl
      are (n ∷ ns) a = let here = a.0 in let more = are ns a.1 in (λ i. here i ∷ more i)

  -- so are those whose digests differ
  pub differ_faithful : (nodes : List (K × List ℕ)) → Differ laws local nodes → AreFaithful laws local nodes
  differ_faithful nodes differ ds own same = absurd (differ ds own same)

  -- one page more is looked at
  pub looked_more : (tree : State K H) (gaps below : List (Gap K)) (g : Gap K) → AreLookedAt laws local tree gaps below → AreFaithful laws local (nodes_among (page_items_over laws tree g))
      → AreLookedAt laws local tree (gaps ++ g ∷ []) (below ++ gaps_among (page_items_over laws tree g))
  looked_more tree gaps below g a f = (
    each-append (λ h. AreFaithful laws local (nodes_among (page_items_over laws tree h))) gaps (g ∷ []) a.0 (f, tt),
    ap₂ (λ xs ys. xs ++ ys) a.1 (sym (append-nil (gaps_among (page_items_over laws tree g)))) ∙ sym (flat_map-append (λ h. gaps_among (page_items_over laws tree h)) gaps (g ∷ [])),
  )
