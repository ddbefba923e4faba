-- Rows in two lists, and a row that is joined between them.
use Rattle.std.proofs.Common.{◌≡◌, ℕ, zero, suc, ◌+◌, ◌<◌, Bool, true, false, List, [], ◌∷◌, ◌++◌, length, reverse, take, get_or, set as list_set, refl, ap, sym, subst, ◌∙◌, arith, length-append}
use Rattle.std.proofs.lemmas.List.{reverse-append}
use Rattle.std.specs.List.{AllByRecursion, AllWithin, insert}
use Rattle.std.specs.Ordering.{is_eq, is_lt, ordering_reverse}
use Rattle.std.specs.Cmp.{IsTotalOrder}
use Rattle.std.specs.declared.cmp.Ordering.{Ordering}
use Rattle.std.specs.declared.cmp.Ordering.TheVariants.{Less, Equal, Greater}
use Rattle.key_order.specs.Order.{Below, Upto, Same}
use Rattle.key_order.specs.Map.{IsMap}
use Rattle.key_order.proofs.Bools.{is_less, is_equal}
use Rattle.key_order.proofs.Orders.{low_low, low_up, same_up}
use Rattle.key_order.proofs.ListParts.{map-rest}
use Rattle.merkle_diff.proofs.Each.{each-with}
use Rattle.std.specs.Cmp.{IsEquivalence}
use Rattle.key_order.specs.Join.{IsJoin, IsJoining}
use Rattle.merkle_replica.specs.Answers.{IsPartlyDone}
use Rattle.merkle_replica.proofs.PullRows.{join_none}
use Rattle.key_order.specs.Places.{IsPlaceOf, IsGapFor}
use Rattle.merkle_replica.specs.Puts.{IsRising}
use Rattle.merkle_replica.specs.Parted.{whole, FirstNotBelow, first_is}

greater : (r : Ordering) → (r ≡ Less → ⊥) → is_eq r ≡ false → r ≡ Greater
greater Less n h = absurd (n refl)
greater Equal n h = cc
greater Greater n h = refl

module _ {X : Type 0} where
  -- a list up to its last element
  pub last-parts : (xs : List X) (n : ℕ) (d z : X) → suc n ≡ length xs → (init : List X) × (xs ≡ init ++ get_or xs n d ∷ []) × (list_set xs n z ≡ init ++ z ∷ [])
  last-parts [] n d z e = absurd (omega (arith, e))
  last-parts (x ∷ []) zero d z e = ([], refl, refl)
  last-parts (x ∷ []) (suc n) d z e = absurd (omega (arith, e))
  last-parts (x ∷ y ∷ ys) zero d z e = absurd (omega (arith, e))
  last-parts (x ∷ y ∷ ys) (suc n) d z e = let r = last-parts (y ∷ ys) n d z (omega (arith, e)) in (x ∷ r.0, ap (λ t. x ∷ t) r.1, ap (λ t. x ∷ t) r.2)

  insert-here : (xs ys : List X) (y : X) → insert (xs ++ ys) (length xs) y ≡ xs ++ y ∷ ys
  insert-here [] [] y = refl
  insert-here [] (z ∷ ys) y = refl
  insert-here (x ∷ xs) ys y = ap (λ t. x ∷ t) (insert-here xs ys y)

  pub set-between : (xs ys : List X) (y z : X) → list_set (xs ++ y ∷ ys) (length xs) z ≡ xs ++ z ∷ ys
  set-between [] ys y z = refl
  set-between (x ∷ xs) ys y z = ap (λ t. x ∷ t) (set-between xs ys y z)

  pub get-between : (xs ys : List X) (y d : X) → get_or (xs ++ y ∷ ys) (length xs) d ≡ y
  get-between [] ys y d = refl
  get-between (x ∷ xs) ys y d = get-between xs ys y d

  within-front : (P : X → Type 0) (xs ys : List X) → AllByRecursion P xs → AllWithin P (xs ++ ys) 0 (length xs)
  within-front P [] ys a j d from to = absurd (omega arith)
  within-front P (x ∷ xs) ys a zero d from to = a.0
  within-front P (x ∷ xs) ys a (suc j) d from to = within-front P xs ys a.1 j d (omega arith) (omega arith)

  within-all : (P : X → Type 0) (ys : List X) → AllByRecursion P ys → (j : ℕ) (d : X) → j < length ys → P (get_or ys j d)
  within-all P [] a j d to = absurd (omega arith)
  within-all P (y ∷ ys) a zero d to = a.0
  within-all P (y ∷ ys) a (suc j) d to = within-all P ys a.1 j d (omega arith)

  within-back : (P : X → Type 0) (xs ys : List X) → AllByRecursion P ys → AllWithin P (xs ++ ys) (length xs) (length (xs ++ ys))
  within-back P [] ys a j d from to = within-all P ys a j d to
  within-back P (x ∷ xs) ys a zero d from to = absurd (omega arith)
  within-back P (x ∷ xs) ys a (suc j) d from to = within-back P xs ys a j d (omega arith) (omega arith)

module _ {K V : Type 0} (cmp : K → K → Ordering) (o : IsTotalOrder cmp) where
  -- whether the last row in the second list has the key
  pub next-is : (key : K) (back : List (K × V)) (n : ℕ) (r : K × V) → suc n ≡ length back → r ≡ get_or back n r → first_is cmp key (reverse back) ≡ is_eq (cmp r.0 key)
  next-is key back n r e read =
      let p = last-parts back n r r e in
      ap (λ t. first_is cmp key (reverse t)) p.1 ∙ ap (first_is cmp key) (reverse-append p.0 (get_or back n r ∷ [])) ∙ ap (λ (q : K × V). is_eq (cmp q.0 key)) (sym read)

  -- the row at the place has the key: another value there
  pub at-next : (front back : List (K × V)) (n : ℕ) (key : K) (r d : K × V) (v : V) → suc n ≡ length back → r ≡ get_or back n r → first_is cmp key (reverse back) ≡ true
      → IsPlaceOf cmp key (whole front back) (length front) × (r ≡ get_or (whole front back) (length front) r)
      × (whole front (list_set back n (r.0, v)) ≡ list_set (whole front back) (length front) (r.0, v))
  at-next front back n key r d v e read is =
      let p = last-parts back n r (r.0, v) e in
      let same : cmp r.0 key ≡ Equal = is_equal (cmp r.0 key) (sym (next-is key back n r e read) ∙ is) in
      let b : back ≡ p.0 ++ r ∷ [] = p.1 ∙ ap (λ x. p.0 ++ x ∷ []) (sym read) in
      let w : whole front back ≡ front ++ r ∷ reverse p.0 = ap (λ t. front ++ reverse t) b ∙ ap (λ t. front ++ t) (reverse-append p.0 (r ∷ [])) in
      let u : whole front (list_set back n (r.0, v)) ≡ front ++ (r.0, v) ∷ reverse p.0 = ap (λ t. front ++ reverse t) p.2 ∙ ap (λ t. front ++ t) (reverse-append p.0 ((r.0, v) ∷ [])) in
      let at : (x : K × V) → get_or (whole front back) (length front) x ≡ r = λ x. ap (λ t. get_or t (length front) x) w ∙ get-between front (reverse p.0) r x in
      let l : length (whole front back) ≡ length front + suc (length (reverse p.0)) = ap length w ∙ length-append front (r ∷ reverse p.0) in (
        record { in_range = omega (arith, l); here = λ x. ap (λ (q : K × V). cmp q.0 key) (at x) ∙ same },
        sym (at r),
        u ∙ sym (set-between front (reverse p.0) r (r.0, v)) ∙ ap (λ t. list_set t (length front) (r.0, v)) (sym w),
      )

  highs : (key : K) (rows : List (K × V)) → IsMap cmp rows → FirstNotBelow cmp key rows → first_is cmp key rows ≡ false → AllByRecursion (λ s. cmp s.0 key ≡ Greater) rows
  highs key [] m n f = tt
  highs key (r ∷ rs) m n f =
      let g : cmp r.0 key ≡ Greater = greater (cmp r.0 key) n f in
      let less : cmp key r.0 ≡ Less = o.antisymm key r.0 ∙ ap ordering_reverse g in (
        g,
        each-with (λ s. Below cmp r.0 s.0) (λ s. cmp s.0 key ≡ Greater) rs
            (λ s b. o.antisymm s.0 key ∙ ap ordering_reverse (is_less (cmp key s.0) (low_low cmp o key r.0 s.0 (ap is_lt less) b))) m.0,
      )

  -- no row has the key: a new one at the place
  pub at-gap : (front back : List (K × V)) (key : K) (v : V) → AllByRecursion (λ s. Below cmp s.0 key) front → IsMap cmp (whole front back)
      → FirstNotBelow cmp key (reverse back) → first_is cmp key (reverse back) ≡ false
      → IsGapFor cmp key (whole front back) (length front) × (whole front (back ++ (key, v) ∷ []) ≡ insert (whole front back) (length front) (key, v))
  at-gap front back key v low m n f =
      let l : length (whole front back) ≡ length front + length (reverse back) = length-append front (reverse back) in (
        record {
          in_range = omega (arith, l);
          lower = within-front (λ s. cmp s.0 key ≡ Less) front (reverse back) (each-with (λ s. Below cmp s.0 key) (λ s. cmp s.0 key ≡ Less) front (λ s b. is_less (cmp s.0 key) b) low);
          higher = within-back (λ s. cmp s.0 key ≡ Greater) front (reverse back) (highs key (reverse back) (map-rest cmp front (reverse back) m) n f);
        },
        ap (λ t. front ++ t) (reverse-append back ((key, v) ∷ [])) ∙ sym (insert-here front (reverse back) (key, v)),
      )

  pub low-further : (k l : K) (rows : List (K × V)) → Upto cmp k l → AllByRecursion (λ s. Below cmp s.0 k) rows → AllByRecursion (λ s. Below cmp s.0 l) rows
  low-further k l rows e = each-with (λ s. Below cmp s.0 k) (λ s. Below cmp s.0 l) rows (λ s u. low_up cmp o s.0 k l u e)

  pub low-same : (k l : K) (rows : List (K × V)) → Same cmp k l → AllByRecursion (λ s. Below cmp s.0 k) rows → AllByRecursion (λ s. Below cmp s.0 l) rows
  low-same k l rows e = low-further k l rows (same_up cmp o k l e)

  -- rows below a key are below all that don't fall after it
  pub low-all : (k : K) (front rows : List (K × V)) → AllByRecursion (λ s. Below cmp s.0 k) front → AllByRecursion (λ r. Upto cmp k r.0) rows
      → AllByRecursion (λ r. AllByRecursion (λ s. Below cmp s.0 r.0) front) rows
  low-all k front rows low = each-with (λ r. Upto cmp k r.0) (λ r. AllByRecursion (λ s. Below cmp s.0 r.0) front) rows (λ r u. low-further k r.0 front u low)

  -- rows below the first of rising rows are below all of these
  pub low_first : (theirs : List (K × V)) (r : K × V) (front : List (K × V)) → r ≡ get_or theirs 0 r → IsRising cmp theirs
      → AllByRecursion (λ s. Below cmp s.0 r.0) front → AllByRecursion (λ t. AllByRecursion (λ s. Below cmp s.0 t.0) front) theirs
  low_first [] r front e up low = tt
  low_first (t ∷ theirs) r front e up low =
      let here : AllByRecursion (λ s. Below cmp s.0 t.0) front = subst (λ (q : K × V). AllByRecursion (λ s. Below cmp s.0 q.0) front) e low in
      (here, low-all t.0 front theirs here up.0)

  pub next-some : (key : K) (back : List (K × V)) → first_is cmp key (reverse back) ≡ true → 0 < length back
  next-some key [] e = absurd (cc)
  next-some key (r ∷ rs) e = omega arith

  -- no row is joined yet
  pub stopped-none : (eq : V → V → Bool) (e : IsEquivalence eq) (join : V → V → V) (j : IsJoining eq join) (wanted old now : List (K × V)) (joined : ℕ)
      → joined ≡ length wanted → 0 < joined → now ≡ old → IsMap cmp old → IsPartlyDone cmp eq join wanted old 0 joined now
  stopped-none eq e join j wanted old now joined n s p m = record {
    counted = n;
    not_all = s;
    joins = subst (λ t. IsJoin cmp eq join old t now) (sym (none wanted)) (subst (IsJoin cmp eq join old []) (sym p) (join_none cmp o eq e join j old m));
    unchanged = λ z. p;
  }
    where
      none : (xs : List (K × V)) → take 0 xs ≡ []
      none [] = refl
      none (x ∷ xs) = refl
