-- The page of a list of pairs, read off the pairs of each level.
use Rattle.std.proofs.Common.{◌≡◌, ◌≢◌, ℕ, zero, suc, ◌<◌, ◌≤◌, Bool, true, false, ◌==◌, ◌||◌, if◌then◌else◌, List, [], ◌∷◌, ◌++◌, None, refl, ap, sym, subst, ◌∙◌, append_assoc, append-nil, arith, ◌⊎◌, inl, inr}
use Rattle.std.proofs.lemmas.Bool.{eqb-true, eqb-false}
use Rattle.std.specs.List.{AllByRecursion}
use Rattle.key_order.specs.Map.{rows_at}
use Rattle.key_order.proofs.Bools.{which}
use Rattle.merkle_tree_theory.specs.Tree.{page, high, node, Held, nothing, below}
use Rattle.merkle_tree_theory.specs.TreeOf.{any_at, row_of, gap_of}

module _ {K D : Type 0} (lev : K → ℕ) where
  abbrev pub Under : ℕ → List (K × D) → Type 0
  Under l = AllByRecursion (λ p. lev p.0 < l)

  -- the pairs of a level
  abbrev pub at_level : ℕ → List (K × D) → List (K × D)
  at_level l = rows_at (λ k. lev k == l)

  pub none_any : (l : ℕ) (ps : List (K × D)) → at_level l ps ≡ [] → any_at lev l ps ≡ false
  none_any l [] e = refl
  none_any l (p ∷ ps) e = by (which (lev p.0 == l)) (none_any l ps)
    where
      by : ((lev p.0 == l) ≡ false) ⊎ ((lev p.0 == l) ≡ true) → (at_level l ps ≡ [] → any_at lev l ps ≡ false) → any_at lev l (p ∷ ps) ≡ false
      by (inl h) f = rw h (f (subst (λ b. (if b then (p ∷ at_level l ps) else (at_level l ps)) ≡ []) h e))
      by (inr h) f = absurd (let never : p ∷ at_level l ps ≡ [] = subst (λ b. (if b then (p ∷ at_level l ps) else (at_level l ps)) ≡ []) h e in cc)

  -- where there is a first pair of the level, those before it are on others
  pub record Splits (l : ℕ) (ps : List (K × D)) (p : K × D) (rest : List (K × D)) : Type 0 where
    pub front : List (K × D)
    pub back : List (K × D)
    pub is : ps ≡ front ++ p ∷ back
    pub on : lev p.0 ≡ l
    pub none : any_at lev l front ≡ false
    pub any : any_at lev l ps ≡ true
    pub rest_is : at_level l back ≡ rest

  pub first_splits : (l : ℕ) (ps : List (K × D)) (p : K × D) (rest : List (K × D)) → at_level l ps ≡ p ∷ rest → Splits l ps p rest
  first_splits l [] p rest e = absurd (let never = e in cc)
  first_splits l (q ∷ ps) p rest e = by (which (lev q.0 == l)) (first_splits l ps p rest)
    where
      by : ((lev q.0 == l) ≡ false) ⊎ ((lev q.0 == l) ≡ true) → (at_level l ps ≡ p ∷ rest → Splits l ps p rest) → Splits l (q ∷ ps) p rest
      by (inl h) f =
          let s = f (subst (λ b. (if b then (q ∷ at_level l ps) else (at_level l ps)) ≡ p ∷ rest) h e) in
          record {
            front = q ∷ s.front;
            back = s.back;
            is = ap (λ xs. q ∷ xs) s.is;
            on = s.on;
            none = subst (λ b. b || any_at lev l s.front ≡ false) (sym h) s.none;
            any =
                subst (λ b. b || any_at lev l ps ≡ true) (sym h) s.any;
            rest_is = s.rest_is;
          }
      by (inr h) f =
          let e' : q ∷ at_level l ps ≡ p ∷ rest = subst (λ b. (if b then (q ∷ at_level l ps) else (at_level l ps)) ≡ p ∷ rest) h e in
          let same : q ≡ p = cc in
          let left : at_level l ps ≡ rest = cc in
          record { front = []; back = ps; is = ap (λ x. x ∷ ps) same; on = ap (λ (x : K × D). lev x.0) (sym same) ∙ eqb-true (lev q.0) l h; none = refl; any = rw h refl; rest_is = left }

  pub row_of-ends : (gap : List (K × D) → Held K D) (l : ℕ) (run ps : List (K × D)) → any_at lev l ps ≡ false → row_of lev gap l run ps ≡ high (gap (run ++ ps))
  row_of-ends gap l run [] e = ap (λ xs. high (gap xs)) (sym (append-nil run))
  row_of-ends gap l run (p ∷ ps) e = by (lev p.0 == l) e (row_of-ends gap l (run ++ p ∷ []) ps)
    where
      by : (b : Bool) → b || any_at lev l ps ≡ false → (any_at lev l ps ≡ false → row_of lev gap l (run ++ p ∷ []) ps ≡ high (gap ((run ++ p ∷ []) ++ ps)))
          → (if b then (node (gap run) p.0 p.1 (row_of lev gap l [] ps)) else (row_of lev gap l (run ++ p ∷ []) ps)) ≡ high (gap (run ++ p ∷ ps))
      by true h f = absurd (cc)
      by false h f = f h ∙ ap (λ xs. high (gap xs)) (append_assoc run (p ∷ []) ps)

  pub row_of-goes : (gap : List (K × D) → Held K D) (l : ℕ) (run xs : List (K × D)) (p : K × D) (ys : List (K × D)) → any_at lev l xs ≡ false → lev p.0 ≡ l
      → row_of lev gap l run (xs ++ p ∷ ys) ≡ node (gap (run ++ xs)) p.0 p.1 (row_of lev gap l [] ys)
  row_of-goes gap l run [] p ys e on = rw (same (lev p.0) l on) (ap (λ rs. node (gap rs) p.0 p.1 (row_of lev gap l [] ys)) (sym (append-nil run)))
    where
      same : (a b : ℕ) → a ≡ b → (a == b) ≡ true
      same a b h = grind arith
  row_of-goes gap l run (x ∷ xs) p ys e on = by (lev x.0 == l) e (row_of-goes gap l (run ++ x ∷ []) xs p ys)
    where
      by : (b : Bool) → b || any_at lev l xs ≡ false
          → (any_at lev l xs ≡ false → lev p.0 ≡ l → row_of lev gap l (run ++ x ∷ []) (xs ++ p ∷ ys) ≡ node (gap ((run ++ x ∷ []) ++ xs)) p.0 p.1 (row_of lev gap l [] ys))
          → (if b then (node (gap run) x.0 x.1 (row_of lev gap l [] (xs ++ p ∷ ys))) else (row_of lev gap l (run ++ x ∷ []) (xs ++ p ∷ ys)))
          ≡ node (gap (run ++ x ∷ xs)) p.0 p.1 (row_of lev gap l [] ys)
      by true h f = absurd (cc)
      by false h f = f h on ∙ ap (λ rs. node (gap rs) p.0 p.1 (row_of lev gap l [] ys)) (append_assoc run (x ∷ []) xs)

  pub gap_of-none : (n : ℕ) (ps : List (K × D)) → ((j : ℕ) → j < n → any_at lev j ps ≡ false) → gap_of lev n ps ≡ nothing
  gap_of-none zero ps none = refl
  gap_of-none (suc n) ps none = rw (none n (omega arith)) (gap_of-none n ps (λ j low. none j (omega (arith, low))))

  pub gap_of-top : (n l : ℕ) (ps : List (K × D)) → l < n → any_at lev l ps ≡ true → ((j : ℕ) → l < j → j < n → any_at lev j ps ≡ false)
      → gap_of lev n ps ≡ below (page l None (row_of lev (gap_of lev l) l [] ps))
  gap_of-top zero l ps low any none = absurd (omega (arith, low))
  gap_of-top (suc n) l ps low any none = by (which (l == n)) (gap_of-top n l ps)
    where
      by : ((l == n) ≡ false) ⊎ ((l == n) ≡ true)
          → (l < n → any_at lev l ps ≡ true → ((j : ℕ) → l < j → j < n → any_at lev j ps ≡ false) → gap_of lev n ps ≡ below (page l None (row_of lev (gap_of lev l) l [] ps)))
          → gap_of lev (suc n) ps ≡ below (page l None (row_of lev (gap_of lev l) l [] ps))
      by (inl h) more =
          let ne : l ≢ n = eqb-false l n h in
          let less : l < n = omega (arith, low) in
          rw (none n less (omega arith)) (more less any (λ j up upto. none j up (omega (arith, upto))))
      by (inr h) more = subst (λ k. gap_of lev (suc k) ps ≡ below (page l None (row_of lev (gap_of lev l) l [] ps))) (eqb-true l n h) (rw any refl)

  under_none : (l j : ℕ) (ps : List (K × D)) → l ≤ j → Under l ps → any_at lev j ps ≡ false
  under_none l j [] h u = refl
  under_none l j (p ∷ ps) h u = rw (apart (lev p.0) (omega (arith, h, u.0))) (under_none l j ps h u.1)
    where
      apart : (a : ℕ) → a < j → (a == j) ≡ false
      apart a low = grind arith

  -- a page of pairs on lower levels is the same from a lower level on
  pub gap_of-under : (n l : ℕ) (ps : List (K × D)) → l ≤ n → Under l ps → gap_of lev n ps ≡ gap_of lev l ps
  gap_of-under zero l ps h u = let zero_is : l ≡ 0 = omega (arith, h) in ap (λ k. gap_of lev k ps) (sym zero_is)
  gap_of-under (suc n) l ps h u = by (which (l == suc n)) (gap_of-under n l ps)
    where
      by : ((l == suc n) ≡ false) ⊎ ((l == suc n) ≡ true) → (l ≤ n → Under l ps → gap_of lev n ps ≡ gap_of lev l ps) → gap_of lev (suc n) ps ≡ gap_of lev l ps
      by (inl e) more =
          let ne : l ≢ suc n = eqb-false l (suc n) e in
          let less : l ≤ n = omega (arith, h) in
          rw (under_none l n ps less u) (more less u)
      by (inr e) more = ap (λ k. gap_of lev k ps) (sym (eqb-true l (suc n) e))

  not_at : (n : ℕ) (ps : List (K × D)) → any_at lev n ps ≡ false → Under (suc n) ps → Under n ps
  not_at n [] e u = tt
  not_at n (p ∷ ps) e u = by (lev p.0 == n) refl e (λ h. not_at n ps h u.1)
    where
      by : (c : Bool) → (lev p.0 == n) ≡ c → c || any_at lev n ps ≡ false → (any_at lev n ps ≡ false → Under n ps) → (lev p.0 < n) × Under n ps
      by true x y a = absurd (cc)
      by false x y a = let ne : lev p.0 ≢ n = eqb-false (lev p.0) n x in (omega (arith, u.0), a y)

  -- pairs that have none on the levels from l to n are below l
  pub none_under : (n l : ℕ) (ps : List (K × D)) → l ≤ n → ((j : ℕ) → l ≤ j → j < n → any_at lev j ps ≡ false) → Under n ps → Under l ps
  none_under zero l ps h none u = let zero_is : l ≡ 0 = omega (arith, h) in subst (λ k. Under k ps) (sym zero_is) u
  none_under (suc n) l ps h none u = by (which (l == suc n)) (none_under n l ps)
    where
      by : ((l == suc n) ≡ false) ⊎ ((l == suc n) ≡ true) → (l ≤ n → ((j : ℕ) → l ≤ j → j < n → any_at lev j ps ≡ false) → Under n ps → Under l ps) → Under l ps
      by (inl e) more =
          let ne : l ≢ suc n = eqb-false l (suc n) e in
          let less : l ≤ n = omega (arith, h) in
          more less (λ j up upto. none j up (omega (arith, upto))) (not_at n ps (none n less (omega arith)) u)
      by (inr e) more = subst (λ k. Under k ps) (sym (eqb-true l (suc n) e)) u
