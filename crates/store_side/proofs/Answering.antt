-- What a store's file tells a peer, by its rows.
use Rattle.std.proofs.Common.{◌≡◌, ◌≢◌, ℕ, ◌+◌, Bool, true, false, cond, ◌&&◌, nat_eq, List, [], ◌∷◌, ◌++◌, map, Option, Some, None, option_map, string_bytes, refl, sym, ap, ap₂, subst, ◌∙◌, append-nil, is_eq, true≢false}
use Rattle.std.specs.Cmp.{tied_itself}
use Rattle.std.specs.Cmp.Lexicographic.{pointwise, same_text}
use Rattle.std.specs.Global.{Vec}
use Rattle.std.specs.List.{AllByRecursion}
use Rattle.std.specs.Option.{option_eq}
use Rattle.std.specs.String.{string_cmp_total}
use Rattle.std.proofs.lemmas.Bool.{eqb-true, and_parts}
use Rattle.std.proofs.lemmas.List.{map-append}
use Rattle.key_order.specs.Map.{IsMap, SameMap, SameValue, get, rows_at}
use Rattle.key_order.specs.Order.{Below, Same, below}
use Rattle.key_order.specs.Text.{Text, text_order}
use Rattle.key_order.proofs.Maps.{get_at, same_by_get}
use Rattle.key_order.proofs.Orders.{low_low}
use Rattle.merkle_bytes.specs.Counts.{count_bytes}
use Rattle.merkle_bytes.specs.Encodings.{string_encoding}
use Rattle.merkle_digest.specs.SipDigests.{text_digest}
use Rattle.merkle_tree_theory.specs.Gap.{everywhere, is_in_gap, pairs_within}
use Rattle.merkle_tree_theory.specs.Outline.{Item, of_node, of_page, page_items, whole_item}
use Rattle.merkle_tree_theory.specs.TreeOf.{defined_tree, tree_of}
use Rattle.merkle_tree_theory.specs.declared.page_format.PageFormat.TheVariants.{V2}
use Rattle.merkle_wire.specs.Gaps.{owned_gap}
use Rattle.merkle_wire.proofs.PartsTold.{code as row_code}
use Rattle.merkle_wire.specs.Replies.{items_over, root_page_digest, whole_digest}
use Rattle.merkle_wire.specs.Steps.{AddsValueAt}
use Rattle.merkle_wire.specs.ToldAlike.{told_item}
use Rattle.merkle_wire.specs.declared.gaps.OwnedGap.{OwnedGap}
use Rattle.sqlite_trees.specs.Tree.{Trees}
use Rattle.store_file.specs.Ranges.{above_bound, below_bound, is_between, AreLatestBetween, HasVisited}
use Rattle.store_file.specs.Values.{bytes_of_value, kind_mark, value_eq}
use Rattle.store_file.specs.WireRegisters.{register_encoding, said_encoding}
use Rattle.store_file.specs.contracts.register.RegisterPartialEq.TheImpl as register_eq
use Rattle.store_file.specs.declared.register.Register.{Register}
use Rattle.store_file.specs.declared.value.Value.{Value}
use Rattle.store_file.proofs.Ranging.{between_same}
use Rattle.store_tree.specs.Calls.{IsRootDigest}
use Rattle.store_tree.specs.Outlines.{found_items}
use Rattle.store_tree.specs.Pages.{text_gap}
use Rattle.store_tree.specs.Texts.{bytes_gap, bytes_item, bytes_map}
use Rattle.store_tree.specs.declared.outline.Outline.{Outline}
use Rattle.store_tree.proofs.Parts.{map_rows}
use Rattle.store_side.specs.Answered.{AreFirstRows, ArePageRows, AreRowsBetween, HasVisitedRows, IsFileOutline, IsRegisterAt, text_encoding}
use Rattle.store_rows.specs.Digests.{AreLatestRows, AreOneRegister, TextDigests, TextRows, digest_rows, key_level}
use Rattle.store_side.specs.Sides.{file_tree}
use Rattle.store_side.proofs.Pages.{one_text, told_by_bytes}

-- ---- pages

whole_told : (digest : Option (List ℕ)) (ws : List (Item Text (List ℕ))) → page_items everywhere digest ≡ map bytes_item ws → digest ≡ whole_digest ws
whole_told None [] is = refl
whole_told None (w ∷ ws) is = absurd (let k = is in cc)
whole_told (Some d) [] is = absurd (let k = is in cc)
whole_told (Some d) (of_node key e ∷ ws) is = absurd (let k = is in cc)
whole_told (Some d) (of_page gap e ∷ ws) is = let k = is in cc

-- the digest of the root page of the tree of the keys' bytes is that of the tree of the keys
pub root_told : (hash_key : List ℕ) (pairs : TextDigests) (digest : Option (List ℕ)) → IsRootDigest digest (tree_of (key_level hash_key) (bytes_map pairs))
    → digest ≡ root_page_digest string_bytes (file_tree hash_key pairs)
root_told hash_key pairs digest is = whole_told digest (whole_item V2 string_bytes (defined_tree (text_digest hash_key) 16 pairs)) (is ∙ (told_by_bytes hash_key pairs).root)

-- an item as it is told, by the bytes of its keys
abbrev by_bytes : Item (List ℕ) (List ℕ) → Item (List ℕ) (List ℕ)
by_bytes (of_node bytes digest) = of_node (string_encoding bytes) digest
by_bytes (of_page gap digest) = of_page everywhere digest

told_by : (xs : List (Item Text (List ℕ))) → map (told_item text_encoding) xs ≡ map by_bytes (map bytes_item xs)
told_by [] = refl
told_by (of_node key digest ∷ xs) = ap (λ ys. of_node (text_encoding key) digest ∷ ys) (told_by xs)
told_by (of_page gap digest ∷ xs) = ap (λ ys. of_page everywhere digest ∷ ys) (told_by xs)

-- the items of an outline that was found are told as those of the tree of the keys
pub outline_told : (hash_key : List ℕ) (rows : TextRows) (gap : OwnedGap Text) (found : Option Outline) (xs : List (Item Text (List ℕ)))
    → map bytes_item xs ≡ found_items (bytes_gap (owned_gap gap)) found → IsFileOutline hash_key (text_gap gap.after gap.before) rows found
    → map (told_item text_encoding) xs ≡ map (told_item text_encoding) (items_over text_order string_bytes (file_tree hash_key (digest_rows hash_key rows)) gap)
outline_told hash_key rows gap found xs are is =
    let ys = items_over text_order string_bytes (file_tree hash_key (digest_rows hash_key rows)) gap in
    told_by xs ∙ ap (map by_bytes) (are ∙ is ∙ (told_by_bytes hash_key (digest_rows hash_key rows)).outline (owned_gap gap)) ∙ sym (told_by ys)

-- ---- rows

same_said : (a b : Option Value) → option_eq value_eq a b ≡ true → said_encoding a ≡ said_encoding b
same_said None None h = refl
same_said None (Some b) h = absurd (let e = h in cc)
same_said (Some a) None h = absurd (let e = h in cc)
same_said (Some a) (Some b) h =
    let (kind, bytes) = and_parts (nat_eq (kind_mark a) (kind_mark b)) (pointwise nat_eq (bytes_of_value a) (bytes_of_value b)) h in
    ap₂ (λ (mark : ℕ) (text : List ℕ). mark ∷ string_encoding text) (eqb-true (kind_mark a) (kind_mark b) kind) (same_text (bytes_of_value a) (bytes_of_value b) (sym bytes))

abbrev text_eq : Text → Text → Bool
text_eq a b = pointwise nat_eq (string_bytes a) (string_bytes b)

-- equal registers have the same bytes in messages
same_encoding : (a b : Register) → nat_eq a.time b.time && (text_eq a.writer b.writer && option_eq value_eq a.value b.value) ≡ true → register_encoding a ≡ register_encoding b
same_encoding a b h =
    let (t, rest) = and_parts (nat_eq a.time b.time) (text_eq a.writer b.writer && option_eq value_eq a.value b.value) h in
    let (w, v) = and_parts (text_eq a.writer b.writer) (option_eq value_eq a.value b.value) rest in
    let writer : string_bytes a.writer ≡ string_bytes b.writer = same_text (string_bytes a.writer) (string_bytes b.writer) (sym w) in
    ap₂ (λ x y. x ++ y) (ap count_bytes (eqb-true a.time b.time t)) (ap₂ (λ (name said : List ℕ). string_encoding name ++ said) writer (same_said a.value b.value v))

-- a register that was found is told as that which the rows have
pub value_told : (rows : TextRows) (key : Text) (old new : Vec ℕ) (found : Option Register) (r : Register) → found ≡ Some r → IsRegisterAt key rows found
    → new.items ≡ old.items ++ register_encoding r → AddsValueAt text_order register_encoding rows key old new true
value_told rows key old new found r there same adds = by (get text_order rows key) refl (subst (λ f. IsRegisterAt key rows f) there same)
  where
    by : (has : Option Register) → get text_order rows key ≡ has → AreOneRegister (Some r) has → AddsValueAt text_order register_encoding rows key old new true
    by None is same = absurd same
    by (Some s) is same = (s, is, adds ∙ ap (λ told. old.items ++ told) (same_encoding r s same))

-- at each node of a page rows and others have registers that are told alike
abbrev HaveNodesAlike : TextRows → TextRows → List (Text × List ℕ) → Type 0
HaveNodesAlike rows others = AllByRecursion (λ n. option_map register_encoding (get text_order rows n.0) ≡ option_map register_encoding (get text_order others n.0))

-- registers that are equal are told alike
pub nodes_alike : (rows found : TextRows) (nodes : List (Text × List ℕ)) → ArePageRows nodes rows found → HaveNodesAlike found rows nodes
nodes_alike rows found [] are = tt
nodes_alike rows found (n ∷ nodes) are = (by (get text_order found n.0) (get text_order rows n.0) are.0, nodes_alike rows found nodes are.1)
  where
    by : (a b : Option Register) → AreOneRegister a b → option_map register_encoding a ≡ option_map register_encoding b
    by None None same = refl
    by None (Some s) same = absurd same
    by (Some r) None same = absurd same
    by (Some r) (Some s) same = ap Some (same_encoding r s same)

pub nodes_themselves : (rows : TextRows) (nodes : List (Text × List ℕ)) → HaveNodesAlike rows rows nodes
nodes_themselves rows [] = tt
nodes_themselves rows (n ∷ nodes) = (refl, nodes_themselves rows nodes)

-- rows that were found between two bounds are those of a page whose keys are there
pub page_rows : (after before : Option Text) (rows found : TextRows) (nodes : List (Text × List ℕ)) → AreRowsBetween after before rows found
    → AllByRecursion (λ n. is_between after before n.0 ≡ true) nodes → ArePageRows nodes rows found
page_rows after before rows found [] are within = tt
page_rows after before rows found (n ∷ nodes) are within = (are.latest n.0 within.0, page_rows after before rows found nodes are within.1)

-- the latest registers of keys between two bounds are equal to those that the rows have
pub rows_between : (after before : Option Text) (trees : Trees) (rows found : TextRows) → AreLatestRows trees rows → AreLatestBetween after before trees found
    → AreRowsBetween after before rows found
rows_between after before trees rows found are latest = record {
  kept = are.ascending;
  ascending = latest.ascending;
  latest = λ key within. are.latest key (get text_order found key) (latest.latest key within);
  others = latest.others;
}

-- so it is of what a visitor took of them
pub visited_rows : {T : Type 0} (Took : T → T → TextRows → Bool → Type 0) (old new : T) (after before : Option Text) (trees : Trees) (rows : TextRows) (whole : Bool)
    → AreLatestRows trees rows → HasVisited Took old new after before trees whole → HasVisitedRows Took old new after before rows whole
visited_rows Took old new after before trees rows whole are (found, more, took, first, full) = (
  found,
  more,
  took,
  record {
    all = λ w. rows_between after before trees rows found are (first.all w);
    first = λ w. let (some, (next, low, between)) = first.first w in (some, (next, low, rows_between after (Some next) trees rows found are between));
  },
  full,
)

abbrev is_same : Register → Register → Type 0
is_same x y = (register_eq.ghosts).eq x y ≡ true

in_gap : (after before : Option Text) (k : Text) → is_in_gap text_order k (record { after = after; before = before }) ≡ is_between after before k
in_gap None None k = refl
in_gap None (Some b) k = refl
in_gap (Some a) None k = refl
in_gap (Some a) (Some b) k = refl

same_rows : (xs ys : List (Text × Register)) → SameMap text_order is_same xs ys → map (row_code text_encoding register_encoding) xs ≡ map (row_code text_encoding register_encoding) ys
same_rows [] [] same = refl
same_rows [] (y ∷ ys) same = absurd same
same_rows (x ∷ xs) [] same = absurd same
same_rows (x ∷ xs) (y ∷ ys) same = λ i. (string_encoding (one_text x.0 y.0 same.0 i), same_encoding x.1 y.1 same.1 i) ∷ same_rows xs ys same.2 i

none_same : SameValue is_same None None
none_same = tt

-- the rows that were found in a gap are told as those that the rows have there
rows_told : (rows : TextRows) (gap : OwnedGap Text) (found : TextRows) → AreRowsBetween gap.after gap.before rows found
    → let told = λ (those : TextRows). map (row_code text_encoding register_encoding) (pairs_within text_order (owned_gap gap) those) in told found ≡ told rows
rows_told rows gap found are = same_rows (pairs_within text_order (owned_gap gap) found) (pairs_within text_order (owned_gap gap) rows)
    (same_by_get text_order string_cmp_total is_same (pairs_within text_order (owned_gap gap) found) (pairs_within text_order (owned_gap gap) rows)
    (map_rows text_order string_cmp_total test found are.ascending) (map_rows text_order string_cmp_total test rows are.kept) at)
  where
    test : Text → Bool
    test k = is_in_gap text_order k (owned_gap gap)

    test_same : (k j : Text) → Same text_order k j → test k ≡ test j
    test_same k j tied = in_gap gap.after gap.before k ∙ between_same gap.after gap.before k j tied ∙ sym (in_gap gap.after gap.before j)

    at : (k : Text) → SameValue is_same (get text_order (rows_at test found) k) (get text_order (rows_at test rows) k)
    at k = subst (λ f. SameValue is_same f (get text_order (rows_at test rows) k)) (sym (get_at text_order string_cmp_total test test_same found k))
        (subst (λ f. SameValue is_same (cond (test k) (get text_order found k) None) f) (sym (get_at text_order string_cmp_total test test_same rows k)) (by (test k) refl))
      where
        by : (b : Bool) → test k ≡ b → SameValue is_same (cond (test k) (get text_order found k) None) (cond (test k) (get text_order rows k) None)
        by true within = subst (λ b. SameValue is_same (cond b (get text_order found k) None) (cond b (get text_order rows k) None)) (sym within)
            (are.latest k (sym (in_gap gap.after gap.before k) ∙ within))
        by false out = subst (λ b. SameValue is_same (cond b (get text_order found k) None) (cond b (get text_order rows k) None)) (sym out) none_same

-- no row that was found is outside
found_within : (test : Text → Bool) (found : TextRows) → ((k : Text) → test k ≡ false → get text_order found k ≡ None) → rows_at test found ≡ found
found_within test [] others = refl
found_within test (r ∷ rs) others = by (test r.0) refl (found_within test rs (λ k out. behind k (is_eq (text_order r.0 k)) (others k out)))
  where
    behind : (k : Text) (b : Bool) → cond b (Some r.1) (get text_order rs k) ≡ None → get text_order rs k ≡ None
    behind k true gone = absurd (let e = gone in cc)
    behind k false gone = gone

    by : (b : Bool) → test r.0 ≡ b → rows_at test rs ≡ rs → rows_at test (r ∷ rs) ≡ r ∷ rs
    by true within rest = rw within (ap (λ ss. r ∷ ss) rest)
    by false out rest =
        absurd (let never : Some r.1 ≡ None = sym (ap (λ o. cond (is_eq o) (Some r.1) (get text_order rs r.0)) (tied_itself string_cmp_total r.0)) ∙ others r.0 out in cc)

-- of rows that ascend, those before a key are the first of those before a later one
module _ (test near : Text → Bool) (inside : (k : Text) → near k ≡ true → test k ≡ true)
    (once : (j k : Text) → Below text_order j k → test j ≡ true → near j ≡ false → near k ≡ false) where
  none_near : (j : Text) (rs : TextRows) → test j ≡ true → near j ≡ false → AllByRecursion (λ (s : Text × Register). Below text_order j s.0) rs → rows_at near rs ≡ []
  none_near j [] within far up = refl
  none_near j (r ∷ rs) within far up = rw (once j r.0 up.0 within far) (none_near j rs within far up.1)

  near_first : (rs : TextRows) → IsMap text_order rs → (rest : TextRows) × (rows_at test rs ≡ rows_at near rs ++ rest)
  near_first [] up = ([], refl)
  near_first (r ∷ rs) up = by (near r.0) refl (test r.0) refl (near_first rs up.1)
    where
      by : (n : Bool) → near r.0 ≡ n → (t : Bool) → test r.0 ≡ t → (rest : TextRows) × (rows_at test rs ≡ rows_at near rs ++ rest)
          → (rest : TextRows) × (rows_at test (r ∷ rs) ≡ rows_at near (r ∷ rs) ++ rest)
      by true at t is (rest, same) = (rest, rw (at, inside r.0 at) (ap (λ ss. r ∷ ss) same))
      by false far false out (rest, same) = (rest, rw (far, out) same)
      by false far true within (rest, same) = (r ∷ rows_at test rs, rw (far, within, none_near r.0 rs within far up.0) refl)

-- a key below one that is below a bound is below the bound
below_through : (before : Option Text) (next k : Text) → below_bound before next ≡ true → Below text_order k next → below_bound before k ≡ true
below_through None next k low near = refl
below_through (Some b) next k low near = low_low text_order string_cmp_total k next b near low

near_inside : (after before : Option Text) (next k : Text) → below_bound before next ≡ true → is_between after (Some next) k ≡ true → is_between after before k ≡ true
near_inside after before next k low near =
    let (high, under) = and_parts (above_bound after k) (below text_order k next) near in
    ap₂ (λ a b. a && b) high (below_through before next k low under)

far_on : (after before : Option Text) (next j k : Text) → Below text_order j k → is_between after before j ≡ true → is_between after (Some next) j ≡ false → is_between after (Some next) k ≡ false
far_on after before next j k up within far = by (below text_order k next) refl (above_bound after k)
  where
    high : above_bound after j ≡ true
    high = (and_parts (above_bound after j) (below_bound before j) within).0

    by : (b : Bool) → below text_order k next ≡ b → (a : Bool) → a && below text_order k next ≡ false
    by true near a = absurd (true≢false (sym (ap₂ (λ a b. a && b) high (low_low text_order string_cmp_total j k next up near)) ∙ far))
    by false out true = out
    by false out false = refl

-- the rows in a gap are these, as they are told, or begin with them, of which there is one
abbrev BeginWith : TextRows → OwnedGap Text → TextRows → Bool → Type 0
BeginWith all gap rows whole = (others : List (List ℕ × List ℕ))
    × (let told = map (row_code text_encoding register_encoding) in told (pairs_within text_order (owned_gap gap) all) ≡ told rows ++ others)
    × (whole ≡ true → others ≡ []) × (whole ≡ false → rows ≢ [])

-- so it is of rows that were found
pub begin_rows : (rows : TextRows) (gap : OwnedGap Text) (found : TextRows) (whole : Bool) → AreFirstRows gap.after gap.before rows found whole
    → BeginWith rows gap found whole
begin_rows rows gap found whole are = by whole refl
  where
    told : TextRows → List (List ℕ × List ℕ)
    told = map (row_code text_encoding register_encoding)

    here : (g : OwnedGap Text) → AreRowsBetween g.after g.before rows found → told (pairs_within text_order (owned_gap g) rows) ≡ told found
    here g between = sym (rows_told rows g found between) ∙ ap told (found_within (λ k. is_in_gap text_order k (owned_gap g)) found
        (λ k out. between.others k (sym (in_gap g.after g.before k) ∙ out)))

    by : (w : Bool) → whole ≡ w → BeginWith rows gap found whole
    by true is = ([], here gap (are.all is) ∙ sym (append-nil (told found)), (λ _. refl), (λ less. absurd (let k = sym is ∙ less in cc)))
    by false is =
        let (some, (next, low, between)) = are.first is in
        let near : OwnedGap Text = record { after = gap.after; before = Some next } in
        let is_here = λ (g : OwnedGap Text) (k : Text). is_in_gap text_order k (owned_gap g) in
        let as_between = in_gap gap.after in
        let (rest, same) = near_first (is_here gap) (is_here near)
        (λ k inside. as_between gap.before k ∙ near_inside gap.after gap.before next k low (sym (as_between (Some next) k) ∙ inside))
        (λ j k up within far. as_between (Some next) k ∙ far_on gap.after gap.before next j k up (sym (as_between gap.before j) ∙ within) (sym (as_between (Some next) j) ∙ far))
        rows between.kept in (
          told rest,
          ap told same ∙ map-append (row_code text_encoding register_encoding) (pairs_within text_order (owned_gap near) rows) rest ∙ ap (λ front. front ++ told rest) (here near between),
          (λ all. absurd (let k = sym is ∙ all in cc)),
          (λ _. some),
        )
