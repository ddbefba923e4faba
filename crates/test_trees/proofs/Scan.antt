-- Scans of a list of pairs, as the defined tree makes them.
use Rattle.std.proofs.Common.{◌≡◌, ℕ, suc, ◌+◌, ◌-◌, ◌<◌, ◌≤◌, ◌==◌, Bool, true, false, cond, count_by, if◌then◌else◌, List, [], ◌∷◌, ◌++◌, ◌||◌, Option, Some, None, length, take, drop, get_or, ap, sym, ◌∙◌, refl, subst, append_assoc, arith}
use Rattle.std.proofs.lemmas.List.Sums.{sum_by-cons}
use Rattle.std.proofs.lemmas.List.{get_or-drop, take_more, drop_more, drop_all, length-drop}
use Rattle.std.proofs.lemmas.Option.{same_Some}
use Rattle.merkle_digest.specs.SipHash.{siphash128, zero_key}
use Rattle.merkle_tree_theory.specs.Tree.{page, node, high, Held, nothing, below}
use Rattle.merkle_tree_theory.specs.Page.{row_nodes}
use Rattle.merkle_tree_theory.specs.Stream.{page_digest, row_stream, held_stream, head_bytes, none_bytes, key_bytes}
use Rattle.merkle_tree_theory.specs.declared.page_format.PageFormat.{PageFormat}
use Rattle.merkle_tree_theory.specs.TreeOf.{any_at, row_of, gap_of, root_of, tree_of}
use Rattle.test_trees.specs.Defined.{gap_digest, written_gap}

-- the part of a list from start to i
abbrev pub part : {A : Type 0} → List A → ℕ → ℕ → List A
part xs start i = take (i - start) (drop start xs)

-- a part of a list with one more element
pub part_more : {A : Type 0} (xs : List A) (start i : ℕ) (x : A) → start ≤ i → i < length xs → part xs start (i + 1) ≡ part xs start i ++ get_or xs i x ∷ []
part_more xs start i x h r =
    let e : i + 1 - start ≡ (i - start) + 1 = omega (arith, h) in
    let w : i - start < length (drop start xs) = omega (arith, h, r, length-drop start xs) in
    let s : start + (i - start) ≡ i = omega (arith, h) in
    ap (λ n. take n (drop start xs)) e ∙ take_more (drop start xs) (i - start) x w
    ∙ ap (λ y. take (i - start) (drop start xs) ++ y ∷ []) (get_or-drop start xs (i - start) x ∙ ap (λ n. get_or xs n x) s)

-- what is left from i on begins with the element there
rest_is : {A : Type 0} (xs : List A) (i : ℕ) (x : A) → i < length xs → x ≡ get_or xs i x → drop i xs ≡ x ∷ drop (i + 1) xs
rest_is xs i x r is = drop_more xs i x r ∙ ap (λ y. y ∷ drop (i + 1) xs) (sym is)

-- what is written of a gap is what stands for its page
pub written-gap : {K : Type 0} (f : PageFormat) (b : K → List ℕ) (h : Held K (List ℕ)) → written_gap f (gap_digest f b h) ≡ held_stream f b h
written-gap f b nothing = refl
written-gap f b (below t) = refl

module _ {K : Type 0} (lev : K → ℕ) (n : ℕ) where
  -- whether a pair's key is on the level
  abbrev pub is_at : K × List ℕ → Bool
  is_at p = lev p.0 == n

  -- the first pair counts, or the others alone
  counted : (p : K × List ℕ) (ps : List (K × List ℕ)) → count_by is_at (p ∷ ps) ≡ cond (is_at p) 1 0 + count_by is_at ps
  counted p ps = sum_by-cons (λ q. cond (is_at q) 1 0) p ps

  -- no pair of the level
  pub any-none : (ps : List (K × List ℕ)) → count_by is_at ps ≡ 0 → any_at lev n ps ≡ false
  any-none [] e = refl
  any-none (p ∷ ps) e = go (is_at p) (sym (counted p ps) ∙ e) (any-none ps)
    where
      go : (c : Bool) → cond c 1 0 + count_by is_at ps ≡ 0 → (count_by is_at ps ≡ 0 → any_at lev n ps ≡ false) → (c || any_at lev n ps) ≡ false
      go true e rest = absurd (omega arith)
      go false e rest = rest (omega (arith, e))

  -- some pair of the level
  pub any-some : (ps : List (K × List ℕ)) → 1 ≤ count_by is_at ps → any_at lev n ps ≡ true
  any-some [] e = absurd (omega arith)
  any-some (p ∷ ps) e = go (is_at p) (subst (λ m. 1 ≤ m) (counted p ps) e) (any-some ps)
    where
      go : (c : Bool) → 1 ≤ cond c 1 0 + count_by is_at ps → (1 ≤ count_by is_at ps → any_at lev n ps ≡ true) → (c || any_at lev n ps) ≡ true
      go true e rest = refl
      go false e rest = rest (omega (arith, e))

  -- a page has as many nodes as there are pairs of its level
  pub nodes-counted : (gap : List (K × List ℕ) → Held K (List ℕ)) (run ps : List (K × List ℕ)) → length (row_nodes (row_of lev gap n run ps)) ≡ count_by is_at ps
  nodes-counted gap run [] = refl
  nodes-counted gap run (p ∷ ps) = go (is_at p) (nodes-counted gap [] ps) (nodes-counted gap (run ++ p ∷ []) ps) ∙ sym (counted p ps)
    where
      go : (c : Bool) → length (row_nodes (row_of lev gap n [] ps)) ≡ count_by is_at ps → length (row_nodes (row_of lev gap n (run ++ p ∷ []) ps)) ≡ count_by is_at ps
          → length (row_nodes (if c then (node (gap run) p.0 p.1 (row_of lev gap n [] ps)) else (row_of lev gap n (run ++ p ∷ []) ps))) ≡ cond c 1 0 + count_by is_at ps
      go true alone joined = ap suc alone ∙ omega arith
      go false alone joined = joined ∙ omega arith

module _ {K : Type 0} (f : PageFormat) (b : K → List ℕ) (lev : K → ℕ) (n : ℕ) where
  -- the stream of what is left of a page, after a run of pairs of lower levels
  abbrev pub left : List (K × List ℕ) → List (K × List ℕ) → List ℕ
  left run ps = row_stream f b (row_of lev (gap_of lev n) n run ps)

  -- a pair of the page's own level
  left-node : (run ps : List (K × List ℕ)) (p : K × List ℕ) → (lev p.0 == n) ≡ true → left run (p ∷ ps) ≡ held_stream f b (gap_of lev n run) ++ key_bytes f (b p.0) ++ p.1 ++ left [] ps
  left-node run ps p e = ap (λ c. row_stream f b (if c then (node (gap_of lev n run) p.0 p.1 (row_of lev (gap_of lev n) n [] ps)) else (row_of lev (gap_of lev n) n (run ++ p ∷ []) ps))) e

  -- a pair of another level
  left-run : (run ps : List (K × List ℕ)) (p : K × List ℕ) → (lev p.0 == n) ≡ false → left run (p ∷ ps) ≡ left (run ++ p ∷ []) ps
  left-run run ps p e = ap (λ c. row_stream f b (if c then (node (gap_of lev n run) p.0 p.1 (row_of lev (gap_of lev n) n [] ps)) else (row_of lev (gap_of lev n) n (run ++ p ∷ []) ps))) e

  -- the stream stays whole where a pair of the page's own level is written, with the gap before it
  pub node-step : (ps : List (K × List ℕ)) (start i next : ℕ) (p : K × List ℕ) (before : List ℕ) (gap : Option (List ℕ)) (whole : List ℕ) → i < length ps
      → p ≡ get_or ps i p → (lev p.0 == n) ≡ true → next ≡ i + 1
      → gap ≡ gap_digest f b (gap_of lev n (part ps start i)) → before ++ left (part ps start i) (drop i ps) ≡ whole
      → (((before ++ written_gap f gap) ++ key_bytes f (b p.0)) ++ p.1) ++ left (part ps next (i + 1)) (drop (i + 1) ps) ≡ whole
  node-step ps start i next p before gap whole r is e s g w =
      let run = part ps start i in
      let rest = drop (i + 1) ps in
      let none : i + 1 - next ≡ 0 = omega (arith, s) in
      let joined : (((before ++ written_gap f gap) ++ key_bytes f (b p.0)) ++ p.1) ++ left [] rest ≡ before ++ (written_gap f gap ++ key_bytes f (b p.0) ++ p.1 ++ left [] rest) = simp append_assoc in
      ap (λ k. (((before ++ written_gap f gap) ++ key_bytes f (b p.0)) ++ p.1) ++ left (take k (drop next ps)) rest) none
      ∙ joined
      ∙ ap (λ d. before ++ (d ++ key_bytes f (b p.0) ++ p.1 ++ left [] rest)) (ap (written_gap f) g ∙ written-gap f b (gap_of lev n run))
      ∙ ap (λ xs. before ++ xs) (sym (left-node run rest p e))
      ∙ ap (λ xs. before ++ left run xs) (sym (rest_is ps i p r is))
      ∙ w

  -- the stream stays whole where a pair of another level joins the run
  pub run-step : (ps : List (K × List ℕ)) (start i next : ℕ) (p : K × List ℕ) (before whole : List ℕ) → start ≤ i → i < length ps → p ≡ get_or ps i p → (lev p.0 == n) ≡ false → next ≡ start
      → before ++ left (part ps start i) (drop i ps) ≡ whole → before ++ left (part ps next (i + 1)) (drop (i + 1) ps) ≡ whole
  run-step ps start i next p before whole h r is e s w =
      let run = part ps start i in
      let rest = drop (i + 1) ps in
      ap (λ k. before ++ left (part ps k (i + 1)) rest) s
      ∙ ap (λ xs. before ++ left xs rest) (part_more ps start i p h r ∙ ap (λ y. run ++ y ∷ []) (sym is))
      ∙ ap (λ xs. before ++ xs) (sym (left-run run rest p e))
      ∙ ap (λ xs. before ++ left run xs) (sym (rest_is ps i p r is))
      ∙ w

  -- the stream is whole where no pair is left and the last gap is written
  pub last-step : (ps : List (K × List ℕ)) (start i : ℕ) (before : List ℕ) (gap : Option (List ℕ)) (whole : List ℕ) → i ≡ length ps
      → gap ≡ gap_digest f b (gap_of lev n (part ps start (length ps))) → before ++ left (part ps start i) (drop i ps) ≡ whole → before ++ written_gap f gap ≡ whole
  last-step ps start i before gap whole e g w =
      let past : length ps ≤ i = omega (arith, e) in
      ap (λ d. before ++ d) (ap (written_gap f) g ∙ written-gap f b (gap_of lev n (part ps start (length ps))))
      ∙ sym (ap (λ xs. before ++ left (part ps start i) xs) (drop_all i ps past) ∙ ap (λ k. before ++ left (part ps start k) []) e)
      ∙ w

  -- the page of a list with pairs of the greatest level that may be
  pub gap-here : (m : ℕ) (ps : List (K × List ℕ)) → m ≡ suc n → 1 ≤ count_by (is_at lev n) ps
      → gap_digest f b (gap_of lev m ps) ≡ Some (siphash128 zero_key (head_bytes f n (count_by (is_at lev n) ps) ++ left [] ps))
  gap-here m ps e h =
      ap (λ k. gap_digest f b (gap_of lev k ps)) e
      ∙ ap (λ c. gap_digest f b (if c then (below (page n None (row_of lev (gap_of lev n) n [] ps))) else (gap_of lev n ps))) (any-some lev n ps h)
      ∙ ap (λ k. Some (siphash128 zero_key (head_bytes f n k ++ left [] ps))) (nodes-counted lev n (gap_of lev n) [] ps)

  -- the page of a list without such pairs
  pub gap-lower : (m : ℕ) (ps : List (K × List ℕ)) → m ≡ suc n → count_by (is_at lev n) ps ≡ 0 → gap_digest f b (gap_of lev m ps) ≡ gap_digest f b (gap_of lev n ps)
  gap-lower m ps e h =
      ap (λ k. gap_digest f b (gap_of lev k ps)) e
      ∙ ap (λ c. gap_digest f b (if c then (below (page n None (row_of lev (gap_of lev n) n [] ps))) else (gap_of lev n ps))) (any-none lev n ps h)

-- the digest of the root page of a list with a page
root-digest : {K : Type 0} (f : PageFormat) (b : K → List ℕ) (h : Held K (List ℕ)) (d : List ℕ) → gap_digest f b h ≡ Some d → d ≡ page_digest f b (root_of h)
root-digest f b nothing d e = absurd (cc)
root-digest f b (below t) d e = sym (same_Some (page_digest f b t) d e)

-- the root page of no key
root-empty : {K : Type 0} (f : PageFormat) (b : K → List ℕ) (h : Held K (List ℕ)) → gap_digest f b h ≡ None → siphash128 zero_key (head_bytes f 0 0 ++ none_bytes f) ≡ page_digest f b (root_of h)
root-empty f b nothing e = refl
root-empty f b (below t) e = absurd (cc)

module _ {K : Type 0} (f : PageFormat) (b : K → List ℕ) (lev : K → ℕ) (ps : List (K × List ℕ)) where
  -- the tree of a map with a page
  pub tree-digest : (d : List ℕ) → gap_digest f b (gap_of lev 256 ps) ≡ Some d → d ≡ page_digest f b (tree_of lev ps)
  unfolding tree_of
  tree-digest d e = root-digest f b (gap_of lev 256 ps) d e

  -- the tree of a map with none
  pub tree-empty : gap_digest f b (gap_of lev 256 ps) ≡ None → siphash128 zero_key (head_bytes f 0 0 ++ none_bytes f) ≡ page_digest f b (tree_of lev ps)
  unfolding tree_of
  tree-empty e = root-empty f b (gap_of lev 256 ps) e
