-- A tree of texts, as one of their bytes.
use Rattle.std.proofs.Common.{◌≡◌, ℕ, zero, suc, Bool, true, false, ◌==◌, ◌||◌, if◌then◌else◌, cond, List, [], ◌∷◌, ◌++◌, length, map, Option, Some, None, refl, sym, ap, ◌∙◌, is_eq, string_bytes}
use Rattle.std.specs.Option.{option_map}
use Rattle.std.proofs.lemmas.List.{map-append}
use Rattle.key_order.specs.Map.{get}
use Rattle.key_order.specs.Text.{Text, text_order}
use Rattle.merkle_digest.specs.Level.{level_of}
use Rattle.merkle_digest.specs.SipHash.{siphash128, zero_key}
use Rattle.merkle_tree_theory.specs.Canonical.{SamePages, SameRow, SameHeld}
use Rattle.merkle_tree_theory.specs.Gap.{Gap, everywhere, is_after, is_before, part_before, part_behind}
use Rattle.merkle_tree_theory.specs.Lookup.{page_over, row_over, held_over}
use Rattle.merkle_tree_theory.specs.Outline.{of_node, of_page, held_items, row_items, outline_over, outline_where, whole_item}
use Rattle.merkle_tree_theory.specs.Page.{row_nodes}
use Rattle.merkle_tree_theory.specs.Stream.{stream_of, row_stream, held_stream, page_digest, below_bytes, head_bytes, key_bytes}
use Rattle.merkle_tree_theory.specs.Tree.{Tree, page, Row, high, node, Held, nothing, below}
use Rattle.merkle_tree_theory.specs.TreeOf.{any_at, row_of, gap_of, root_of, tree_of, defined_tree}
use Rattle.merkle_tree_theory.specs.declared.page_format.PageFormat.{PageFormat}
use Rattle.merkle_tree_theory.specs.declared.page_format.PageFormat.TheVariants.{V2}
use Rattle.store_tree.specs.Calls.{digest_over}
use Rattle.store_tree.specs.Cells.{bytes_order}
use Rattle.store_tree.specs.Maps.{bytes_pair}
use Rattle.store_tree.specs.Texts.{bytes_map, bytes_gap, bytes_item, TellsAlike}
use Rattle.store_tree.proofs.Sets.{same_key}

-- a tree with the bytes of its keys, and without cached digests
abbrev mutual
  pub bytes_tree : Tree Text (List ℕ) → Tree (List ℕ) (List ℕ)
  bytes_tree (page l c r) = page l None (bytes_row r)

  pub bytes_row : Row Text (List ℕ) → Row (List ℕ) (List ℕ)
  bytes_row (high h) = high (bytes_held h)
  bytes_row (node h k d r) = node (bytes_held h) (string_bytes k) d (bytes_row r)

  pub bytes_held : Held Text (List ℕ) → Held (List ℕ) (List ℕ)
  bytes_held nothing = nothing
  bytes_held (below t) = below (bytes_tree t)

mutual
  -- trees of the same pages have the same bytes
  same_tree : (t u : Tree Text (List ℕ)) → SamePages text_order t u → bytes_tree t ≡ bytes_tree u
  same_tree (page l c r) (page k e s) a = λ i. page (a.0 i) None (same_row r s a.2 i)

  same_row : (r s : Row Text (List ℕ)) → SameRow text_order r s → bytes_row r ≡ bytes_row s
  same_row (high h) (high g) a = ap (λ w. high w) (same_held h g a)
  same_row (high h) (node g k d s) a = absurd a
  same_row (node h k d r) (high g) a = absurd a
  same_row (node h k d r) (node g j e s) a = λ i. node (same_held h g a.0 i) (same_key (string_bytes k) (string_bytes j) (ap is_eq a.1) i) (a.2 i) (same_row r s a.3 i)

  same_held : (h g : Held Text (List ℕ)) → SameHeld text_order h g → bytes_held h ≡ bytes_held g
  same_held nothing nothing a = refl
  same_held nothing (below u) a = absurd a
  same_held (below t) nothing a = absurd a
  same_held (below t) (below u) a = ap (λ w. below w) (same_tree t u a)

module _ (lev : List ℕ → ℕ) (text_lev : Text → ℕ) (agree : (key : Text) → lev (string_bytes key) ≡ text_lev key) where
  any_bytes : (n : ℕ) (ps : List (Text × List ℕ)) → any_at lev n (bytes_map ps) ≡ any_at text_lev n ps
  any_bytes n [] = refl
  any_bytes n (p ∷ ps) = λ i. (agree p.0 i == n) || any_bytes n ps i

  row_bytes : (n : ℕ) → ((ps : List (Text × List ℕ)) → gap_of lev n (bytes_map ps) ≡ bytes_held (gap_of text_lev n ps)) → (run ps : List (Text × List ℕ))
      → row_of lev (gap_of lev n) n (bytes_map run) (bytes_map ps) ≡ bytes_row (row_of text_lev (gap_of text_lev n) n run ps)
  row_bytes n each run [] = ap (λ w. high w) (each run)
  row_bytes n each run (p ∷ ps) =
      ap (λ l. if (l == n) then (node (gap_of lev n (bytes_map run)) (string_bytes p.0) p.1 (row_of lev (gap_of lev n) n [] (bytes_map ps))) else (row_of lev (gap_of lev n) n
      (bytes_map run ++ (string_bytes p.0, p.1) ∷ []) (bytes_map ps))) (agree p.0)
      ∙ by (text_lev p.0 == n) (row_bytes n each [] ps) (row_bytes n each (run ++ p ∷ []) ps)
    where
      by : (b : Bool) → row_of lev (gap_of lev n) n [] (bytes_map ps) ≡ bytes_row (row_of text_lev (gap_of text_lev n) n [] ps)
          → row_of lev (gap_of lev n) n (bytes_map (run ++ p ∷ [])) (bytes_map ps) ≡ bytes_row (row_of text_lev (gap_of text_lev n) n (run ++ p ∷ []) ps)
          → (if b then (node (gap_of lev n (bytes_map run)) (string_bytes p.0) p.1 (row_of lev (gap_of lev n) n [] (bytes_map ps))) else (row_of lev (gap_of lev n) n
          (bytes_map run ++ (string_bytes p.0, p.1) ∷ []) (bytes_map ps)))
          ≡ bytes_row (if b then (node (gap_of text_lev n run) p.0 p.1 (row_of text_lev (gap_of text_lev n) n [] ps)) else (row_of text_lev (gap_of text_lev n) n (run ++ p ∷ []) ps))
      by true f g = λ i. node (each run i) (string_bytes p.0) p.1 (f i)
      by false f g = ap (λ rs. row_of lev (gap_of lev n) n rs (bytes_map ps)) (sym (map-append bytes_pair run (p ∷ []))) ∙ g

  gap_bytes : (n : ℕ) (ps : List (Text × List ℕ)) → gap_of lev n (bytes_map ps) ≡ bytes_held (gap_of text_lev n ps)
  gap_bytes zero ps = refl
  gap_bytes (suc n) ps =
      ap (λ b. if b then (below (page n None (row_of lev (gap_of lev n) n [] (bytes_map ps)))) else (gap_of lev n (bytes_map ps))) (any_bytes n ps)
      ∙ by (any_at text_lev n ps) (row_bytes n (gap_bytes n) [] ps) (gap_bytes n ps)
    where
      by : (b : Bool) → row_of lev (gap_of lev n) n [] (bytes_map ps) ≡ bytes_row (row_of text_lev (gap_of text_lev n) n [] ps) → gap_of lev n (bytes_map ps) ≡ bytes_held (gap_of text_lev n ps)
          → (if b then (below (page n None (row_of lev (gap_of lev n) n [] (bytes_map ps)))) else (gap_of lev n (bytes_map ps)))
          ≡ bytes_held (if b then (below (page n None (row_of text_lev (gap_of text_lev n) n [] ps))) else (gap_of text_lev n ps))
      by true f g = ap (λ r. below (page n None r)) f
      by false f g = g

  root_bytes : (h : Held Text (List ℕ)) → root_of (bytes_held h) ≡ bytes_tree (root_of h)
  root_bytes nothing = refl
  root_bytes (below t) = refl

  pub tree_bytes : (ps : List (Text × List ℕ)) → tree_of lev (bytes_map ps) ≡ bytes_tree (tree_of text_lev ps)
  unfolding tree_of
  tree_bytes ps = ap root_of (gap_bytes 256 ps) ∙ root_bytes (gap_of text_lev 256 ps)

-- ---- what a tree and its bytes tell

count_bytes : (r : Row Text (List ℕ)) → length (row_nodes (bytes_row r)) ≡ length (row_nodes r)
count_bytes (high h) = refl
count_bytes (node h k d r) = ap suc (count_bytes r)

module _ (format : PageFormat) where
  mutual
    stream_bytes : (t : Tree Text (List ℕ)) → stream_of format (λ bytes. bytes) (bytes_tree t) ≡ stream_of format string_bytes t
    stream_bytes (page l c r) = λ i. head_bytes format l (count_bytes r i) ++ row_stream_bytes r i

    row_stream_bytes : (r : Row Text (List ℕ)) → row_stream format (λ bytes. bytes) (bytes_row r) ≡ row_stream format string_bytes r
    row_stream_bytes (high h) = held_stream_bytes h
    row_stream_bytes (node h k d r) = λ i. held_stream_bytes h i ++ key_bytes format (string_bytes k) ++ d ++ row_stream_bytes r i

    held_stream_bytes : (h : Held Text (List ℕ)) → held_stream format (λ bytes. bytes) (bytes_held h) ≡ held_stream format string_bytes h
    held_stream_bytes nothing = refl
    held_stream_bytes (below t) = ap (λ s. below_bytes format (siphash128 zero_key s)) (stream_bytes t)

  pub digest_bytes : (t : Tree Text (List ℕ)) → page_digest format (λ bytes. bytes) (bytes_tree t) ≡ page_digest format string_bytes t
  digest_bytes t = ap (siphash128 zero_key) (stream_bytes t)

  held_items_bytes : (gap : Gap Text) (h : Held Text (List ℕ))
      → held_items (λ t. Some (page_digest format (λ bytes. bytes) t)) (bytes_gap gap) (bytes_held h) ≡ map bytes_item (held_items (λ t. Some (page_digest format string_bytes t)) gap h)
  held_items_bytes gap nothing = refl
  held_items_bytes gap (below t) = ap (λ digest. of_page (bytes_gap gap) digest ∷ []) (digest_bytes t)

  row_items_bytes : (gap : Gap Text) (r : Row Text (List ℕ))
      → row_items (λ t. Some (page_digest format (λ bytes. bytes) t)) (bytes_gap gap) (bytes_row r) ≡ map bytes_item (row_items (λ t. Some (page_digest format string_bytes t)) gap r)
  row_items_bytes gap (high h) = held_items_bytes gap h
  row_items_bytes gap (node h k d r) =
      (λ i. held_items_bytes (part_before gap k) h i ++ of_node (string_bytes k) d ∷ row_items_bytes (part_behind gap k) r i)
      ∙ sym (map-append bytes_item (held_items (λ t. Some (page_digest format string_bytes t)) (part_before gap k) h)
      (of_node k d ∷ row_items (λ t. Some (page_digest format string_bytes t)) (part_behind gap k) r))

after_bytes : (after : Option Text) (k : Text) → is_after bytes_order (option_map (λ key. string_bytes key) after) (string_bytes k) ≡ is_after text_order after k
after_bytes None k = refl
after_bytes (Some a) k = refl

before_bytes : (before : Option Text) (k : Text) → is_before bytes_order (option_map (λ key. string_bytes key) before) (string_bytes k) ≡ is_before text_order before k
before_bytes None k = refl
before_bytes (Some b) k = refl

-- over a gap is the same page
module _ (gap : Gap Text) where
  mutual
    over_bytes : (t : Tree Text (List ℕ)) → page_over bytes_order (bytes_gap gap) (bytes_tree t) ≡ option_map bytes_tree (page_over text_order gap t)
    over_bytes (page l c r) = row_over_bytes (page l c r) r

    row_over_bytes : (t : Tree Text (List ℕ)) (r : Row Text (List ℕ)) → row_over bytes_order (bytes_gap gap) (bytes_tree t) (bytes_row r) ≡ option_map bytes_tree (row_over text_order gap t r)
    row_over_bytes t (high h) = held_over_bytes h
    row_over_bytes t (node h k d r) =
        (λ i.
        if (after_bytes gap.after k i) then (if (before_bytes gap.before k i) then (Some (bytes_tree t)) else (held_over bytes_order (bytes_gap gap) (bytes_held h))) else (row_over bytes_order
        (bytes_gap gap) (bytes_tree t) (bytes_row r)))
        ∙ by (is_after text_order gap.after k) (is_before text_order gap.before k) (held_over_bytes h) (row_over_bytes t r)
      where
        by : (a b : Bool) → held_over bytes_order (bytes_gap gap) (bytes_held h) ≡ option_map bytes_tree (held_over text_order gap h)
            → row_over bytes_order (bytes_gap gap) (bytes_tree t) (bytes_row r) ≡ option_map bytes_tree (row_over text_order gap t r)
            → (if a then (if b then (Some (bytes_tree t)) else (held_over bytes_order (bytes_gap gap) (bytes_held h))) else (row_over bytes_order (bytes_gap gap) (bytes_tree t) (bytes_row r)))
            ≡ option_map bytes_tree (if a then (if b then (Some t) else (held_over text_order gap h)) else (row_over text_order gap t r))
        by true true f g = refl
        by true false f g = f
        by false b f g = g

    held_over_bytes : (h : Held Text (List ℕ)) → held_over bytes_order (bytes_gap gap) (bytes_held h) ≡ option_map bytes_tree (held_over text_order gap h)
    held_over_bytes nothing = refl
    held_over_bytes (below t) = over_bytes t

  over_outline : (format : PageFormat) (t : Tree Text (List ℕ))
      → outline_over format (λ bytes. bytes) bytes_order (bytes_tree t) (bytes_gap gap) ≡ map bytes_item (outline_over format string_bytes text_order t gap)
  over_outline format t = ap (outline_where format (λ bytes. bytes) (bytes_gap gap)) (over_bytes t) ∙ by (page_over text_order gap t)
    where
      by : (o : Option (Tree Text (List ℕ))) → outline_where format (λ bytes. bytes) (bytes_gap gap) (option_map bytes_tree o) ≡ map bytes_item (outline_where format string_bytes gap o)
      by None = refl
      by (Some (page l c r)) = row_items_bytes format gap r

  over_digests : (t : Tree Text (List ℕ)) → digest_over (bytes_gap gap) (bytes_tree t) ≡ option_map (λ page. page_digest V2 string_bytes page) (page_over text_order gap t)
  over_digests t = ap (option_map (λ page. page_digest V2 (λ bytes. bytes) page)) (over_bytes t) ∙ by (page_over text_order gap t)
    where
      by : (o : Option (Tree Text (List ℕ)))
          → option_map (λ page. page_digest V2 (λ bytes. bytes) page) (option_map bytes_tree o) ≡ option_map (λ page. page_digest V2 string_bytes page) o
      by None = refl
      by (Some u) = ap Some (digest_bytes V2 u)

-- the whole tree is the same item
whole_bytes : (t : Tree Text (List ℕ)) → whole_item V2 (λ bytes. bytes) (bytes_tree t) ≡ map bytes_item (whole_item V2 string_bytes t)
whole_bytes (page l c (high h)) = refl
whole_bytes (page l c (node h k d r)) = ap (λ digest. of_page everywhere digest ∷ []) (digest_bytes V2 (page l c (node h k d r)))

pub get_bytes : (m : List (Text × List ℕ)) (key : Text) → get bytes_order (bytes_map m) (string_bytes key) ≡ get text_order m key
get_bytes [] key = refl
get_bytes (p ∷ ps) key = ap (cond (is_eq (text_order p.0 key)) (Some p.1)) (get_bytes ps key)

pub tells_alike : (lev : List ℕ → ℕ) (digest_of : Text → List ℕ) (base : ℕ) (m : List (Text × List ℕ)) (t : Tree Text (List ℕ))
    → ((key : Text) → lev (string_bytes key) ≡ level_of (digest_of key) base) → SamePages text_order t (defined_tree digest_of base m)
    → TellsAlike (tree_of lev (bytes_map m)) t × ((key : Text) → get bytes_order (bytes_map m) (string_bytes key) ≡ get text_order m key)
tells_alike lev digest_of base m t agree same =
    let whole : tree_of lev (bytes_map m) ≡ bytes_tree t =
    tree_bytes lev (λ key. level_of (digest_of key) base) agree m ∙ sym (same_tree t (defined_tree digest_of base m) same) in (
      record {
        root = ap (whole_item V2 (λ bytes. bytes)) whole ∙ whole_bytes t;
        page = λ gap. ap (digest_over (bytes_gap gap)) whole ∙ over_digests gap t;
        outline = λ gap. ap (λ w. outline_over V2 (λ bytes. bytes) bytes_order w (bytes_gap gap)) whole ∙ over_outline gap V2 t;
      },
      get_bytes m,
    )
