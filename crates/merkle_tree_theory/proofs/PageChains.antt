-- Pages of a path that are page_chain together.
use Rattle.std.proofs.Common.{◌≡◌, ℕ, zero, suc, ◌-◌, ◌<◌, ◌≤◌, List, [], ◌∷◌, ◌++◌, length, take, drop, Option, None, refl, ap, sym, ◌∙◌, arith}
use Rattle.std.specs.declared.boxed.Box.{Box}
use Rattle.std.specs.declared.alloc.Global.{Global}
use Rattle.merkle_tree_theory.specs.Tree.{Tree, page, Row, high, node, Held, nothing, below, Node, row}
use Rattle.merkle_tree_theory.specs.Upsert.{as_held, row_digest_beside}
use Rattle.merkle_tree_theory.specs.Chain.{row_length, page_length, high_of, first_of, with_high, with_first, row_take, row_drop, page_with_row, row_of_page, page_chain, HaveNodes}

module _ {K D : Type 0} where
  pub row_length-row : (es : List (Node K D)) (h : Held K D) → row_length (row es h) ≡ length es
  row_length-row [] h = refl
  row_length-row (e ∷ es) h = omega (arith, row_length-row es h)

  pub high_of-row : (es : List (Node K D)) (h : Held K D) → high_of (row es h) ≡ h
  high_of-row [] h = refl
  high_of-row (e ∷ es) h = high_of-row es h

  pub with_high-row : (es : List (Node K D)) (h g : Held K D) → with_high g (row es h) ≡ row es g
  with_high-row [] h g = refl
  with_high-row (e ∷ es) h g = ap (node e.lt e.key e.digest) (with_high-row es h g)

  pub row_take-row : (n : ℕ) (es : List (Node K D)) (h : Held K D) → row_take n (row es h) ≡ row (take n es) nothing
  row_take-row zero [] h = refl
  row_take-row zero (e ∷ es) h = refl
  row_take-row (suc n) [] h = refl
  row_take-row (suc n) (e ∷ es) h = ap (node e.lt e.key e.digest) (row_take-row n es h)

  pub row_drop-row : (n : ℕ) (es : List (Node K D)) (h : Held K D) → row_drop n (row es h) ≡ row (drop n es) h
  row_drop-row zero [] h = refl
  row_drop-row zero (e ∷ es) h = refl
  row_drop-row (suc n) [] h = refl
  row_drop-row (suc n) (e ∷ es) h = row_drop-row n es h

  -- a page that is page_chain and then loses its digest
  pub remade-both : (t : Tree K D) (s : Row K D) → page_with_row 1 (page_with_row 0 t s) (row_of_page (page_with_row 0 t s)) ≡ page_with_row 1 t s
  remade-both (page l c r) s = refl

  remade-same : (m n : ℕ) (t : Tree K D) (s : Row K D) → 0 < m → 0 < n → page_with_row m t s ≡ page_with_row n t s
  remade-same zero n t s p q = absurd (omega arith)
  remade-same (suc m) zero t s p q = absurd (omega arith)
  remade-same (suc m) (suc n) (page l c r) s p q = refl

  module _ (hang : Held K D → Row K D → Row K D) where
    one : (m n : ℕ) (b : Box (Tree K D) Global) (h : Held K D) → m ≡ n → below (page_with_row m b.value (hang h (row_of_page b.value))) ≡ below (page_with_row n b.value (hang h (row_of_page b.value)))
    one m n b h e = ap (λ k. below (page_with_row k b.value (hang h (row_of_page b.value)))) e

    -- the last page is page_chain where its digest stays only if no page after it is stale
    pub hung-last : (n : ℕ) (bs : List (Box (Tree K D) Global)) (b : Box (Tree K D) Global) (h : Held K D)
        → page_chain hang n (bs ++ b ∷ []) h ≡ page_chain hang n bs (below (page_with_row (n - length bs) b.value (hang h (row_of_page b.value))))
    hung-last zero [] b h = one 0 (0 - 0) b h (omega arith)
    hung-last (suc n) [] b h = ap below (remade-same 1 (suc n - 0) b.value (hang h (row_of_page b.value)) (omega arith) (omega arith))
    hung-last zero (x ∷ xs) b h =
        ap (λ g. below (page_with_row 0 x.value (hang g (row_of_page x.value)))) (hung-last zero xs b h ∙ ap (page_chain hang zero xs) (one (0 - length xs) (0 - length (x ∷ xs)) b h (omega arith)))
    hung-last (suc n) (x ∷ xs) b h =
        ap (λ g. below (page_with_row 1 x.value (hang g (row_of_page x.value)))) (hung-last n xs b h ∙ ap (page_chain hang n xs) (one (n - length xs) (suc n - length (x ∷ xs)) b h (omega arith)))

    -- what the loop hangs: a page whose digest goes, and one whose digest stays
    pub hung-stale : (n : ℕ) (bs : List (Box (Tree K D) Global)) (b : Box (Tree K D) Global) (h : Held K D) → length bs < n
        → page_chain hang n bs (below (page_with_row 1 b.value (hang h (row_of_page b.value)))) ≡ page_chain hang n (bs ++ b ∷ []) h
    hung-stale n bs b h r = ap (λ t. page_chain hang n bs (below t)) (remade-same 1 (n - length bs) b.value (hang h (row_of_page b.value)) (omega arith) (omega arith)) ∙ sym (hung-last n bs b h)

    pub hung-kept : (n : ℕ) (bs : List (Box (Tree K D) Global)) (b : Box (Tree K D) Global) (h : Held K D) → n ≤ length bs
        → page_chain hang n bs (below (page_with_row 0 b.value (hang h (row_of_page b.value)))) ≡ page_chain hang n (bs ++ b ∷ []) h
    hung-kept n bs b h r = ap (page_chain hang n bs) (one 0 (n - length bs) b h (omega arith)) ∙ sym (hung-last n bs b h)

    -- more than all pages are no more
    pub hung-all : (m n : ℕ) (bs : List (Box (Tree K D) Global)) (h : Held K D) → length bs ≤ m → length bs ≤ n → page_chain hang m bs h ≡ page_chain hang n bs h
    hung-all m n [] h p q = none m n
      where
        none : (m n : ℕ) → page_chain hang m [] h ≡ page_chain hang n [] h
        none m n = refl
    hung-all zero n (b ∷ bs) h p q = absurd (omega arith)
    hung-all (suc m) zero (b ∷ bs) h p q = absurd (omega arith)
    hung-all (suc m) (suc n) (b ∷ bs) h p q = ap (λ g. below (page_with_row 1 b.value (hang g (row_of_page b.value)))) (hung-all m n bs h (omega arith) (omega arith))

  pub have-last : (bs : List (Box (Tree K D) Global)) (b : Box (Tree K D) Global) → HaveNodes (bs ++ b ∷ []) → HaveNodes bs × (0 < page_length b.value)
  have-last [] b a = (tt, a.0)
  have-last (x ∷ xs) b a = let r = have-last xs b a.1 in ((a.0, r.0), r.1)

  pub have-more : (bs : List (Box (Tree K D) Global)) (b : Box (Tree K D) Global) → HaveNodes bs → 0 < page_length b.value → HaveNodes (bs ++ b ∷ [])
  have-more [] b a r = (r, tt)
  have-more (x ∷ xs) b a r = (a.0, have-more xs b a.1 r)

module _ {K D : Type 0} (hang : Held K D → Row K D → Row K D) (n : ℕ) (bs : List (Box (Tree K D) Global)) (b : Box (Tree K D) Global) (h : Held K D) where
  -- a step of the loop that hangs pages: the page t is page_chain in the form u, and then loses its digest or not
  pub hang_stale : (t u v : Tree K D) → t ≡ b.value → u ≡ page_with_row 0 t (hang h (row_of_page t)) → v ≡ page_with_row 1 u (row_of_page u) → length bs < n
      → page_chain hang n bs (below v) ≡ page_chain hang n (bs ++ b ∷ []) h
  hang_stale t u v e f g r =
      ap (λ x. page_chain hang n bs (below x))
      (g ∙ ap (λ x. page_with_row 1 x (row_of_page x)) (f ∙ ap (λ x. page_with_row 0 x (hang h (row_of_page x))) e) ∙ remade-both b.value (hang h (row_of_page b.value)))
      ∙ hung-stale hang n bs b h r

  pub hang_kept : (t u : Tree K D) → t ≡ b.value → u ≡ page_with_row 0 t (hang h (row_of_page t)) → n ≤ length bs → page_chain hang n bs (below u) ≡ page_chain hang n (bs ++ b ∷ []) h
  hang_kept t u e f r = ap (λ x. page_chain hang n bs (below x)) (f ∙ ap (λ x. page_with_row 0 x (hang h (row_of_page x))) e) ∙ hung-kept hang n bs b h r

-- rows at a key

-- rows with another page at an end, and parts of a row
module _ {K D : Type 0} where
  pub with_high-twice : (g g' : Held K D) (r : Row K D) → with_high g (with_high g' r) ≡ with_high g r
  with_high-twice g g' (high h) = refl
  with_high-twice g g' (node h k d r) = ap (node h k d) (with_high-twice g g' r)

  pub with_first-twice : (g g' : Held K D) (r : Row K D) → with_first g (with_first g' r) ≡ with_first g r
  with_first-twice g g' (high h) = refl
  with_first-twice g g' (node h k d r) = refl

  pub length-first : (g : Held K D) (r : Row K D) → row_length (with_first g r) ≡ row_length r
  length-first g (high h) = refl
  length-first g (node h k d r) = refl

  pub length-drop : (i : ℕ) (r : Row K D) → row_length (row_drop i r) ≡ row_length r - i
  length-drop zero (high h) = omega arith
  length-drop zero (node h k d r) = omega arith
  length-drop (suc i) (high h) = omega arith
  length-drop (suc i) (node h k d r) = omega (arith, length-drop i r)

  pub some-held : (l : ℕ) (c : Option (List ℕ)) (r : Row K D) → 0 < row_length r → as_held l c r ≡ below (page l c r)
  some-held l c (high h) p = absurd (omega arith)
  some-held l c (node h k d r) p = refl

  pub some-kept : (c : Option (List ℕ)) (r : Row K D) → 0 < row_length r → row_digest_beside r c ≡ None
  some-kept c (high h) p = absurd (omega arith)
  some-kept c (node h k d r) p = refl

pub page_length-is : {K D : Type 0} (t : Tree K D) → page_length t ≡ row_length (row_of_page t)
page_length-is (page l c r) = refl

pub remade-first : {K D : Type 0} (t : Tree K D) (i : ℕ)
    → page_with_row 0 (page_with_row 1 t (row_drop i (row_of_page t)))
    (with_first nothing (row_of_page (page_with_row 1 t (row_drop i (row_of_page t))))) ≡ page_with_row 1 t (with_first nothing (row_drop i (row_of_page t)))
remade-first (page l c r) i = refl

pub first-remade : {K D : Type 0} (t : Tree K D) (i : ℕ) → first_of (row_of_page (page_with_row 1 t (row_drop i (row_of_page t)))) ≡ first_of (row_drop i (row_of_page t))
first-remade (page l c r) i = refl

pub length_remade : {K D : Type 0} (t : Tree K D) (i : ℕ) → page_length (page_with_row 1 t (row_drop i (row_of_page t))) ≡ page_length t - i
length_remade (page l c r) i = length-drop i r
