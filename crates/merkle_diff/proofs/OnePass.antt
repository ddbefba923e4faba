-- Where both lists ascend and no two ranges of either meet, one pass over them leaves the pieces.
use Rattle.std.proofs.Common.{◌≡◌, ℕ, zero, suc, ◌<◌, length, arith, drop, map, Bool, true, false, List, [], ◌∷◌, ◌++◌, refl, sym, ◌∙◌, ap, subst, append_assoc, if◌then◌else◌}
use Rattle.std.proofs.lemmas.Grind.{flat_map-append}
use Rattle.std.proofs.lemmas.List.{append-nil}
use Rattle.std.specs.Cmp.{IsTotalOrder}
use Rattle.std.specs.List.{AllByRecursion, flat_map}
use Rattle.std.specs.declared.cmp.Ordering.{Ordering}
use Rattle.key_order.proofs.Orders.{up_up, up_low, low_up, low_is_up, not_both}
use Rattle.key_order.specs.Interval.{Span, IsOrdered, Meets, IsApart, meets}
use Rattle.key_order.specs.Order.{Upto, Below}
use Rattle.merkle_diff.proofs.Cuts.{each-cut, each-piece}
use Rattle.merkle_diff.proofs.Each.{each-with}
use Rattle.merkle_diff.proofs.OrderTests.{meets_by, to_meets}
use Rattle.merkle_diff.proofs.Touching.{Touches, flat-touches}
use Rattle.merkle_diff.specs.Cut.{piece, cut_one, pieces_left}
use Rattle.merkle_diff.specs.Merge.{IsMerge}
use Rattle.merkle_diff.specs.OnePass.{LeavesAlike}

module _ {K : Type 0} (cmp : K → K → Ordering) where
  -- the pieces of a list are those of its parts
  pub left-append : (xs ys good : List (Span K)) → pieces_left cmp (xs ++ ys) good ≡ pieces_left cmp xs good ++ pieces_left cmp ys good
  left-append xs ys [] = refl
  left-append xs ys (g ∷ good) = ap (λ ss. pieces_left cmp ss good) (flat_map-append (cut_one cmp g) xs ys) ∙ left-append (flat_map (cut_one cmp g) xs) (flat_map (cut_one cmp g) ys) good

  pub left-none : (good : List (Span K)) → pieces_left cmp [] good ≡ []
  left-none [] = refl
  left-none (g ∷ good) = left-none good

module _ {K : Type 0} (cmp : K → K → Ordering) (o : IsTotalOrder cmp) where
  -- a range that does not meet what is cut out is left whole
  whole : (g s : Span K) → ¬ (Meets cmp g s) → cut_one cmp g s ≡ s ∷ []
  whole g s n = go (meets cmp g s) refl
    where
      go : (t : Bool) → meets cmp g s ≡ t → (if t then (piece cmp s.first g.first ++ piece cmp g.last s.last) else (s ∷ [])) ≡ s ∷ []
      go true e = absurd (n (meets_by cmp o g s e))
      go false e = refl

  each-whole : (g : Span K) (ss : List (Span K)) → AllByRecursion (λ s. ¬ (Meets cmp g s)) ss → flat_map (cut_one cmp g) ss ≡ ss
  each-whole g [] n = refl
  each-whole g (s ∷ ss) n = ap (λ xs. xs ++ flat_map (cut_one cmp g) ss) (whole g s n.0) ∙ ap (λ xs. s ∷ xs) (each-whole g ss n.1)

  -- what lies after a good range is not cut by it
  pub cut-behind : (g : Span K) (ss good : List (Span K)) → AllByRecursion (λ s. Below cmp g.last s.first) ss → pieces_left cmp ss (g ∷ good) ≡ pieces_left cmp ss good
  cut-behind g ss good b = ap (λ xs. pieces_left cmp xs good) (each-whole g ss (each-with (λ s. Below cmp g.last s.first) (λ s. ¬ (Meets cmp g s)) ss (λ s c m. not_both cmp o s.first g.last m.1 c) b))

  -- what lies before all good ranges is not cut
  cut-before : (e : K) (ss good : List (Span K)) → AllByRecursion (λ s. Upto cmp s.last e) ss → AllByRecursion (λ g. Below cmp e g.first) good → pieces_left cmp ss good ≡ ss
  cut-before e ss [] u b = refl
  cut-before e ss (g ∷ good) u b =
      ap (λ xs. pieces_left cmp xs good)
      (each-whole g ss (each-with (λ s. Upto cmp s.last e) (λ s. ¬ (Meets cmp g s)) ss (λ s l m. not_both cmp o g.first s.last m.0 (up_low cmp o s.last e g.first l b.0)) u))
      ∙ cut-before e ss good u b.1

  module _ (g s : Span K) (good : List (Span K)) (ordered : IsOrdered cmp g) (after : AllByRecursion (λ t. Below cmp g.last t.first) good) where
    -- a good range that ends within a range leaves a piece before it, and the range goes on after it
    pub cut-within : Upto cmp s.first g.last → Below cmp g.last s.last
        → pieces_left cmp (s ∷ []) (g ∷ good) ≡ piece cmp s.first g.first ++ pieces_left cmp (record { first = g.last; last = s.last } ∷ []) good
    cut-within u b =
        ap (λ xs. pieces_left cmp (xs ++ []) good) cut
        ∙ (ap (λ xs. pieces_left cmp xs good) (append-nil (piece cmp s.first g.first ++ (record { first = g.last; last = s.last } ∷ [])))
        ∙ (left-append cmp (piece cmp s.first g.first) (record { first = g.last; last = s.last } ∷ []) good
        ∙ ap (λ xs. xs ++ pieces_left cmp (record { first = g.last; last = s.last } ∷ []) good) before))
      where
        m : meets cmp g s ≡ true
        m = to_meets cmp o g s (up_up cmp o g.first g.last s.last ordered (low_is_up cmp o g.last s.last b), u)

        cut : cut_one cmp g s ≡ piece cmp s.first g.first ++ (record { first = g.last; last = s.last } ∷ [])
        cut = rw (m, b) refl

        before : pieces_left cmp (piece cmp s.first g.first) good ≡ piece cmp s.first g.first
        before = cut-before g.last (piece cmp s.first g.first) good (each-piece cmp o (λ t. Upto cmp t.last g.last) s.first g.first (λ c. ordered)) after

    -- a good range that ends at or after the end of a range is the last that can meet it
    pub cut-over : Upto cmp s.last g.last → pieces_left cmp (s ∷ []) (g ∷ good) ≡ cut_one cmp g s
    cut-over u =
        ap (λ xs. pieces_left cmp xs good) (append-nil (cut_one cmp g s))
        ∙ cut-before g.last (cut_one cmp g s) good (each-cut cmp o (λ t. Upto cmp t.last g.last) g s u (λ m b. ordered) (λ m b. u)) after

  -- ---- from a place of the list on

  pub apart-drop : {A : Type 0} (v : A → Span K) (n : ℕ) (xs : List A) → IsApart cmp (map v xs) → IsApart cmp (map v (drop n xs))
  apart-drop v zero xs a = a
  apart-drop v (suc n) [] a = tt
  apart-drop v (suc n) (x ∷ xs) a = apart-drop v n xs a.1

  -- ---- a step of the pass, from the good ranges gs to those after g

  module _ (s g : Span K) (gs rest : List (Span K)) (begins : gs ≡ g ∷ rest) where
    -- g ends before the range: the range goes on whole
    pub step-behind : (pieces all : List (Span K)) → Below cmp g.last s.first → pieces ++ pieces_left cmp (s ∷ []) gs ≡ all → pieces ++ pieces_left cmp (s ∷ []) rest ≡ all
    step-behind pieces all b h = ap (λ xs. pieces ++ xs) (sym (ap (pieces_left cmp (s ∷ [])) begins ∙ cut-behind g (s ∷ []) rest (b, tt))) ∙ h

    -- g ends within the range: a piece comes before it, and the range goes on after it
    pub step-within : (pieces more all : List (Span K)) (left : Span K) → IsOrdered cmp g → IsApart cmp gs → Upto cmp s.first g.last → Below cmp g.last s.last
        → more ≡ pieces ++ piece cmp s.first g.first → left ≡ record { first = g.last; last = s.last }
        → pieces ++ pieces_left cmp (s ∷ []) gs ≡ all → more ++ pieces_left cmp (left ∷ []) rest ≡ all
    step-within pieces more all left d a u b e l h =
        let after : AllByRecursion (λ t. Below cmp g.last t.first) rest = (subst (IsApart cmp) begins a).0 in
        ap (λ xs. xs ++ pieces_left cmp (left ∷ []) rest) e
        ∙ (ap (λ x. (pieces ++ piece cmp s.first g.first) ++ pieces_left cmp (x ∷ []) rest) l
        ∙ (append_assoc pieces (piece cmp s.first g.first) (pieces_left cmp (record { first = g.last; last = s.last } ∷ []) rest)
        ∙ (ap (λ xs. pieces ++ xs) (sym (ap (pieces_left cmp (s ∷ [])) begins ∙ cut-within g s rest d after u b)) ∙ h)))

    -- g ends at the end of the range or after it: nothing of the range goes on
    pub step-over : (pieces more all : List (Span K)) → IsOrdered cmp g → IsApart cmp gs → Upto cmp s.last g.last → more ≡ pieces ++ cut_one cmp g s
        → pieces ++ pieces_left cmp (s ∷ []) gs ≡ all → more ≡ all
    step-over pieces more all d a u e h =
        let after : AllByRecursion (λ t. Below cmp g.last t.first) rest = (subst (IsApart cmp) begins a).0 in
        e ∙ (ap (λ xs. pieces ++ xs) (sym (ap (pieces_left cmp (s ∷ [])) begins ∙ cut-over g s rest d after u)) ∙ h)

    -- where g ends before the end of the range, it cuts nothing after the range
    pub step-later : (good : List (Span K)) → Below cmp g.last s.last → LeavesAlike cmp s.last good gs → LeavesAlike cmp s.last good rest
    step-later good b f later n =
        sym (ap (pieces_left cmp later) begins ∙ cut-behind g later rest
        (each-with (λ t. Below cmp s.last t.first) (λ t. Below cmp g.last t.first) later (λ t l. low_up cmp o g.last s.last t.first b (low_is_up cmp o s.last t.first l)) n))
        ∙ f later n

  -- the next bad range
  pub step-range : (s : Span K) (bad later good rest pieces more all : List (Span K)) → bad ≡ s ∷ later → IsApart cmp bad → LeavesAlike cmp s.last good rest
      → more ≡ pieces ++ pieces_left cmp (s ∷ []) good → pieces ++ pieces_left cmp bad good ≡ all → more ++ pieces_left cmp later rest ≡ all
  step-range s bad later good rest pieces more all b a f e h =
      ap (λ xs. more ++ xs) (f later (subst (IsApart cmp) b a).0)
      ∙ (ap (λ xs. xs ++ pieces_left cmp later good) e
      ∙ (append_assoc pieces (pieces_left cmp (s ∷ []) good) (pieces_left cmp later good)
      ∙ (ap (λ xs. pieces ++ xs) (sym (ap (λ xs. pieces_left cmp xs good) b ∙ left-append cmp (s ∷ []) later good)) ∙ h)))

  -- the pieces of ranges that touch at most touch at most
  pub left-touches : (bad good : List (Span K)) → AllByRecursion (IsOrdered cmp) good → Touches cmp bad → Touches cmp (pieces_left cmp bad good)
  left-touches bad [] d a = a
  left-touches bad (g ∷ good) d a = left-touches (flat_map (cut_one cmp g) bad) good d.1 (flat-touches cmp o g bad d.0 a)

-- a list whose merge has a range has a range
pub merge-some : {K : Type 0} (cmp : K → K → Ordering) (ss ms : List (Span K)) → IsMerge cmp ss ms → 0 < length ms → 0 < length ss
merge-some cmp [] [] m h = h
merge-some cmp [] (t ∷ ms) m h = absurd m.starts.sound.0
merge-some cmp (s ∷ ss) ms m h = omega arith
