-- What is told of keys and values rests on their bytes alone.
use Rattle.std.proofs.Common.{◌≡◌, ℕ, suc, Bool, List, [], ◌∷◌, ◌++◌, length, map, flat_map, drop, Option, Some, None, option_map, inl, inr, refl, sym, ap, ap₂, subst, ◌∙◌}
use Rattle.std.specs.Cmp.{IsTotalOrder, alike_right}
use Rattle.std.specs.Global.{Vec}
use Rattle.std.specs.List.{AllByRecursion}
use Rattle.std.specs.declared.cmp.Ordering.{Ordering}
use Rattle.key_order.specs.Map.{get}
use Rattle.key_order.specs.Order.{Same}
use Rattle.key_order.proofs.Maps.{get_same}
use Rattle.merkle_bytes.specs.Counts.{count_bytes}
use Rattle.merkle_bytes.specs.Keys.{key_behind}
use Rattle.merkle_bytes.specs.Runs.{bound_key, entries_bytes}
use Rattle.merkle_tree_theory.specs.Outline.{Item, of_node, of_page}
use Rattle.merkle_wire.specs.Outlines.{rows_told, digests_told, page_told, AreRowsAt, HasNoPage, IsTold, digest_of_all, keys_among, keys_told, nodes_among, pages_beside, pages_bytes}
use Rattle.merkle_wire.specs.Steps.{AddsTold}
use Rattle.merkle_wire.specs.ToldAlike.{ItemsAreToldAlike, told_item}
use Rattle.merkle_wire.proofs.PartsTold.{code as row_code, count_alike, rows_alike}

module _ {K : Type 0} (encoding : K → List ℕ) where
  abbrev told : List (Item K (List ℕ)) → List (Item (List ℕ) (List ℕ))
  told = map (told_item encoding)

  abbrev coded_node : K × List ℕ → List ℕ × List ℕ
  coded_node n = (encoding n.0, n.1)

  nodes_told : (xs : List (Item K (List ℕ))) → nodes_among (told xs) ≡ map coded_node (nodes_among xs)
  nodes_told [] = refl
  nodes_told (of_node k d ∷ xs) = ap (λ ns. (encoding k, d) ∷ ns) (nodes_told xs)
  nodes_told (of_page g d ∷ xs) = nodes_told xs

  pages_told : (before : Option (List ℕ)) (xs : List (Item K (List ℕ))) → pages_beside before (told xs) ≡ pages_beside before xs
  pages_told before [] = refl
  pages_told before (of_node k d ∷ xs) = ap (λ ps. before ∷ ps) (pages_told None xs)
  pages_told before (of_page g d ∷ xs) = pages_told (Some d) xs

  no_page_told : (xs : List (Item K (List ℕ))) → HasNoPage xs → HasNoPage (told xs)
  no_page_told [] none = tt
  no_page_told (of_node k d ∷ xs) none = no_page_told xs none
  no_page_told (of_page g d ∷ xs) none = absurd none

  no_page_back : (xs : List (Item K (List ℕ))) → HasNoPage (told xs) → HasNoPage xs
  no_page_back [] none = tt
  no_page_back (of_node k d ∷ xs) none = no_page_back xs none
  no_page_back (of_page g d ∷ xs) none = absurd none

  abbrev keys_coded : List ℕ → List (List ℕ) → List ℕ
  keys_coded = entries_bytes (λ last k. key_behind last k) (λ last k. k)

  abbrev each_key : List ℕ → List K → List ℕ
  each_key = entries_bytes (λ last k. key_behind last (encoding k)) (λ last k. encoding k)

  keys_are : (last : List ℕ) (ks : List K) → each_key last ks ≡ keys_coded last (map encoding ks)
  keys_are last [] = refl
  keys_are last (k ∷ ks) = ap (λ more. key_behind last (encoding k) ++ more) (keys_are (encoding k) ks)

  keys_counted : (ks js : List K) → map encoding ks ≡ map encoding js → length ks ≡ length js
  keys_counted [] [] e = refl
  keys_counted [] (j ∷ js) e = absurd (let f = e in cc)
  keys_counted (k ∷ ks) [] e = absurd (let f = e in cc)
  keys_counted (k ∷ ks) (j ∷ js) e = ap suc (keys_counted ks js (ap (drop 1) e))

  keys_alike : (last : List ℕ) (ks js : List K) → map encoding ks ≡ map encoding js → keys_told encoding last ks ≡ keys_told encoding last js
  keys_alike last ks js e = ap₂ (λ n bytes. count_bytes n ++ bytes) (keys_counted ks js e) (keys_are last ks ∙ ap (keys_coded last) e ∙ sym (keys_are last js))

  firsts : (ns : List (K × List ℕ)) → map (λ c. c.0) (map coded_node ns) ≡ map encoding (keys_among ns)
  firsts [] = refl
  firsts (n ∷ ns) = ap (λ ks. encoding n.0 ∷ ks) (firsts ns)

  seconds : (ns : List (K × List ℕ)) → map (λ c. c.1) (map coded_node ns) ≡ map (λ n. n.1) ns
  seconds [] = refl
  seconds (n ∷ ns) = ap (λ ds. n.1 ∷ ds) (seconds ns)

  flat_seconds : (ns : List (K × List ℕ)) → flat_map (λ c. c.1) (map coded_node ns) ≡ flat_map (λ n. n.1) ns
  flat_seconds [] = refl
  flat_seconds (n ∷ ns) = ap (λ ds. n.1 ++ ds) (flat_seconds ns)

  module _ {V : Type 0} (values : V → List ℕ) (cmp : K → K → Ordering) (o : IsTotalOrder cmp) (tells : (j k : K) → encoding j ≡ encoding k → Same cmp j k) (rows others : List (K × V)) where
    abbrev code : List (K × V) → List (List ℕ × List ℕ)
    code = map (row_code encoding values)

    abbrev AlikeAt : K → Type 0
    AlikeAt k = option_map values (get cmp rows k) ≡ option_map values (get cmp others k)

    -- rows at keys that are told alike
    abbrev AreRowsAlike : List K → List (K × V) → Type 0
    AreRowsAlike js found = (same : List (K × V)) × AreRowsAt cmp others js same × (code found ≡ code same)

    head_same : (k j : K) (ks js : List K) → encoding k ∷ map encoding ks ≡ encoding j ∷ map encoding js → encoding k ≡ encoding j
    head_same k j ks js e = let g = e in cc

    one_at : (k j : K) (js : List K) (row : K × V) (rest : List (K × V)) → encoding k ≡ encoding j → Same cmp row.0 k → (other : Option V) → get cmp others k ≡ other
        → Some (values row.1) ≡ option_map values other → AreRowsAlike js rest → AreRowsAlike (j ∷ js) (row ∷ rest)
    one_at k j js row rest one same None is told more = absurd (let e = told in cc)
    one_at k j js row rest one same (Some v) is told (found, at, codes) =
        let value : values row.1 ≡ values v = let e = told in cc in (
          (row.0, v) ∷ found,
          inr ((row.0, v), found, alike_right o j k row.0 (tells j k (sym one)) ∙ same, get_same cmp o others j k (tells j k (sym one)) ∙ is, at, refl),
          ap₂ (λ bytes codes. (encoding row.0, bytes) ∷ codes) value codes,
        )

    none_at : (k j : K) (js : List K) (found : List (K × V)) → encoding k ≡ encoding j → (other : Option V) → get cmp others k ≡ other → None ≡ option_map values other
        → AreRowsAlike js found → AreRowsAlike (j ∷ js) found
    none_at k j js found one None is told (same, at, codes) = (same, inl (get_same cmp o others j k (tells j k (sym one)) ∙ is, at), codes)
    none_at k j js found one (Some v) is told more = absurd (let e = told in cc)

    rows_at_alike : (ks js : List K) (found : List (K × V)) → map encoding ks ≡ map encoding js → AllByRecursion AlikeAt ks → AreRowsAt cmp rows ks found → AreRowsAlike js found
    rows_at_alike [] [] found e alike at = ([], refl, ap code at)
    rows_at_alike [] (j ∷ js) found e alike at = absurd (let f = e in cc)
    rows_at_alike (k ∷ ks) [] found e alike at = absurd (let f = e in cc)
    rows_at_alike (k ∷ ks) (j ∷ js) found e alike (inl (none, at)) =
        none_at k j js found (head_same k j ks js e) (get cmp others k) refl (ap (option_map values) (sym none) ∙ alike.0) (rows_at_alike ks js found (ap (drop 1) e) alike.1 at)
    rows_at_alike (k ∷ ks) (j ∷ js) found e alike (inr (row, rest, same, has, at, is)) =
        subst (AreRowsAlike (j ∷ js)) (sym is) (one_at k j js row rest (head_same k j ks js e) same (get cmp others k) refl (ap (option_map values) (sym has) ∙ alike.0)
        (rows_at_alike ks js rest (ap (drop 1) e) alike.1 at))

    keys_alike_at : (ns : List (K × List ℕ)) → AllByRecursion (λ n. AlikeAt n.0) ns → AllByRecursion AlikeAt (keys_among ns)
    keys_alike_at [] alike = tt
    keys_alike_at (n ∷ ns) alike = (alike.0, keys_alike_at ns alike.1)

    module _ (with_pages : Bool) (xs ys : List (Item K (List ℕ))) (same : told xs ≡ told ys) where
      nodes : map coded_node (nodes_among xs) ≡ map coded_node (nodes_among ys)
      nodes = sym (nodes_told xs) ∙ ap (λ zs. nodes_among zs) same ∙ nodes_told ys

      keys : map encoding (keys_among (nodes_among xs)) ≡ map encoding (keys_among (nodes_among ys))
      keys = sym (firsts (nodes_among xs)) ∙ ap (map (λ c. c.0)) nodes ∙ firsts (nodes_among ys)

      digests : map (λ n. n.1) (nodes_among xs) ≡ map (λ n. n.1) (nodes_among ys)
      digests = sym (seconds (nodes_among xs)) ∙ ap (map (λ c. c.1)) nodes ∙ seconds (nodes_among ys)

      flat : flat_map (λ n. n.1) (nodes_among xs) ≡ flat_map (λ n. n.1) (nodes_among ys)
      flat = sym (flat_seconds (nodes_among xs)) ∙ ap (flat_map (λ c. c.1)) nodes ∙ flat_seconds (nodes_among ys)

      pages : pages_beside None xs ≡ pages_beside None ys
      pages = sym (pages_told None xs) ∙ ap (λ zs. pages_beside None zs) same ∙ pages_told None ys

      alone : HasNoPage xs → HasNoPage ys
      alone none = no_page_back ys (subst (λ zs. HasNoPage zs) same (no_page_told xs none))

      abbrev AddsOf : List (K × V) → List (Item K (List ℕ)) → Option K → Vec ℕ → Vec ℕ → Type 0
      AddsOf of_rows items = AddsTold encoding values (IsTold cmp of_rows with_pages items)

      outline_alike : AllByRecursion (λ n. AlikeAt n.0) (nodes_among xs) → (after : Option K) (old new : Vec ℕ) → AddsOf rows xs after old new → AddsOf others ys after old new
      outline_alike alike after old new (rows_told found, (no_pages, at), adds) =
          let (rows, are, codes) = rows_at_alike (keys_among (nodes_among xs)) (keys_among (nodes_among ys)) found keys (keys_alike_at (nodes_among xs) alike) at in (
            rows_told rows,
            ((λ with_them. alone (no_pages with_them)), are),
            adds ∙ ap₂ (λ n bytes. old.items ++ 0 ∷ (count_bytes n ++ bytes)) (count_alike encoding values found rows codes)
                (rows_alike encoding values (bound_key encoding [] after) found rows codes),
          )
      outline_alike alike after old new (digests_told ns, (no_pages, are), adds) = (
        digests_told (nodes_among ys),
        ((λ with_them. alone (no_pages with_them)), refl),
        adds ∙ ap (λ ms. old.items ++ 1 ∷ (keys_told encoding (bound_key encoding [] after) (keys_among ms) ++ flat_map (λ n. n.1) ms)) are
            ∙ ap₂ (λ ks ds. old.items ++ 1 ∷ (ks ++ ds)) (keys_alike (bound_key encoding [] after) (keys_among (nodes_among xs)) (keys_among (nodes_among ys)) keys) flat,
      )
      outline_alike alike after old new (page_told digest ks ps, (with_them, digest_is, keys_is, pages_is), adds) = (
        page_told digest (keys_among (nodes_among ys)) ps,
        (with_them, digest_is ∙ ap digest_of_all digests, refl, pages_is ∙ pages),
        adds ∙ ap (λ ks. old.items ++ 2 ∷ (digest ++ (ks ++ pages_bytes ps)))
            (ap (keys_told encoding (bound_key encoding [] after)) keys_is ∙ keys_alike (bound_key encoding [] after) (keys_among (nodes_among xs)) (keys_among (nodes_among ys)) keys),
      )

-- what is told of a page is told alike
pub items_alike : {K V : Type 0} (cmp : K → K → Ordering) (o : IsTotalOrder cmp) (encoding : K → List ℕ) (values : V → List ℕ) → ((j k : K) → encoding j ≡ encoding k → Same cmp j k)
    → ItemsAreToldAlike cmp encoding values
items_alike cmp o encoding values tells rows others with_pages xs ys after old new same alike = outline_alike encoding values cmp o tells rows others with_pages xs ys same alike after old new
