-- A map with its last key set, or one after it.
use Rattle.std.proofs.Common.{◌≡◌, ◌≢◌, Bool, true, false, cond, List, [], ◌∷◌, ◌++◌, Option, Some, None, length, refl, sym, ap, subst, ◌∙◌, append-nil, arith}
use Rattle.std.specs.Cmp.{IsTotalOrder}
use Rattle.std.specs.List.{AllByRecursion}
use Rattle.std.specs.Ordering.{is_eq}
use Rattle.std.specs.String.{string_cmp_total}
use Rattle.std.specs.declared.cmp.Ordering.{Ordering}
use Rattle.key_order.specs.Map.{IsMap, get, set}
use Rattle.key_order.specs.Order.{Below, Same}
use Rattle.key_order.specs.Text.{Text as Key, text_order}
use Rattle.key_order.proofs.Bools.{is_greater}
use Rattle.key_order.proofs.ListParts.{each-append, map-before, map-first}
use Rattle.key_order.proofs.Orders.{turned', low_low, low_up, same_up}
use Rattle.key_order.proofs.Sets.{ascending_set, get_set}
use Rattle.sqlite_trees.proofs.ListLemmas.{all_weaker}
use Rattle.store_file.specs.declared.register.Register.{Register}
use Rattle.store_file.specs.Ranges.{HasPassed, HasSet}

abbrev Entry : Type 0
Entry = Key × Register

abbrev AllBelow : Key → List Entry → Type 0
AllBelow k = AllByRecursion (λ (s : Entry). Below text_order s.0 k)

-- a key above all others is set at the end
module _ {K X : Type 0} (cmp : K → K → Ordering) (o : IsTotalOrder cmp) where
  set_end : (m : List (K × X)) (k : K) (x : X) → AllByRecursion (λ (s : K × X). Below cmp s.0 k) m → set cmp m k x ≡ m ++ (k, x) ∷ []
  set_end [] k x low = refl
  set_end (s ∷ m) k x low =
      let high = is_greater (cmp k s.0) (turned' cmp o s.0 k ∙ low.0) in
      rw high (ap (λ rest. s ∷ rest) (set_end m k x low.1))

-- where all keys are below that of an entry, it is added at the end
added_last : (m new : List Entry) (e : Entry) → (IsMap text_order m → AllBelow e.0 m) → new ≡ m ++ e ∷ [] → HasSet m e new
added_last m new e low is = record {
  ascending = λ up. subst (IsMap text_order) (sym (same up)) (ascending_set text_order string_cmp_total m e.0 e.1 up);
  set = λ up key. ap (λ l. get text_order l key) (same up) ∙ get_set text_order string_cmp_total m e.0 e.1 key (Some e.1) refl;
}
  where
    same : IsMap text_order m → new ≡ set text_order m e.0 e.1
    same up = is ∙ sym (set_end text_order string_cmp_total m e.0 e.1 (low up))

all_below : (front : List Entry) (last e : Entry) → Below text_order last.0 e.0 → IsMap text_order (front ++ last ∷ []) → AllBelow e.0 (front ++ last ∷ [])
all_below front last e low up =
    each-append (λ (s : Entry). Below text_order s.0 e.0) front (last ∷ [])
    (all_weaker (λ (s : Entry). Below text_order s.0 last.0) (λ s. Below text_order s.0 e.0) (λ s below. low_low text_order string_cmp_total s.0 last.0 e.0 below low) front
    (map-before text_order front last [] up)) (low, tt)

-- where there is no entry yet, it is the only one
pub put_only : (m front new : List Entry) (e : Entry) → length m ≡ 0 → m ≡ front ++ [] → new ≡ front ++ e ∷ [] → HasSet m e new
put_only m front new e none was is = added_last m new e (λ up. by m none) (is ∙ ap (λ l. l ++ e ∷ []) (sym (was ∙ append-nil front)))
  where
    by : (l : List Entry) → length l ≡ 0 → AllBelow e.0 l
    by [] empty = tt
    by (s ∷ l) empty = absurd (omega (arith, empty))

-- where the last key is below that of an entry, the entry is put after it
pub put_after : (front m mid new : List Entry) (last e : Entry) → Below text_order last.0 e.0 → m ≡ front ++ last ∷ [] → mid ≡ front ++ last ∷ [] → new ≡ mid ++ e ∷ [] → HasSet m e new
put_after front m mid new last e low was back is =
    added_last m new e (λ up. subst (AllBelow e.0) (sym was) (all_below front last e low (subst (IsMap text_order) was up))) (is ∙ ap (λ l. l ++ e ∷ []) (back ∙ sym was))

-- where the last key is that of an entry, the entry is put in its place
pub put_over : (front m new : List Entry) (last e : Entry) → Same text_order last.0 e.0 → m ≡ front ++ last ∷ [] → new ≡ front ++ e ∷ [] → HasSet m e new
put_over front m new last e tied was is = record {
  ascending = λ up. (added up).ascending (map-first text_order front (last ∷ []) (subst (IsMap text_order) was up));
  set = λ up key. (added up).set (map-first text_order front (last ∷ []) (subst (IsMap text_order) was up)) key ∙ sym (at up key);
}
  where
    under : IsMap text_order m → AllBelow last.0 front
    under up = map-before text_order front last [] (subst (IsMap text_order) was up)

    added : IsMap text_order m → HasSet front e new
    added up = added_last front new e
        (λ ascending. all_weaker (λ (s : Entry). Below text_order s.0 last.0) (λ s. Below text_order s.0 e.0)
        (λ s below. low_up text_order string_cmp_total s.0 last.0 e.0 below (same_up text_order string_cmp_total last.0 e.0 tied)) front (under up)) is

    twice : (b : Bool) (x y z : Option Register) → cond b x (cond b y z) ≡ cond b x z
    twice true x y z = refl
    twice false x y z = refl

    at : (up : IsMap text_order m) (key : Key) → cond (is_eq (text_order e.0 key)) (Some e.1) (get text_order m key) ≡ cond (is_eq (text_order e.0 key)) (Some e.1) (get text_order front key)
    at up key =
        let first = map-first text_order front (last ∷ []) (subst (IsMap text_order) was up) in
        let before : HasSet front last m = added_last front m last (λ ascending. under up) was in
        ap (λ found. cond (is_eq (text_order e.0 key)) (Some e.1) found)
        (before.set first key ∙ ap (λ o. cond (is_eq o) (Some last.1) (get text_order front key)) (string_cmp_total.congr last.0 e.0 key tied))
        ∙ twice (is_eq (text_order e.0 key)) (Some e.1) (Some last.1) (get text_order front key)

module _ {T : Type 0} (Took : T → T → List Entry → Bool → Type 0) (first new : T) where
  -- where an entry comes of a key after the last one, that is taken
  pub passed_on : (rows : List Entry) (row e : Entry) (more : Bool) → Below text_order row.0 e.0 → Took first new (rows ++ row ∷ []) more → HasPassed Took first new (Some row) e more rows
  passed_on rows row e more low took = record {
    given = rows ++ row ∷ [];
    took = took;
    set = put_after rows (rows ++ row ∷ []) (rows ++ row ∷ []) ((rows ++ row ∷ []) ++ e ∷ []) row e low refl refl refl;
    full = λ _. (some rows, refl);
  }
    where
      some : (xs : List Entry) → xs ++ row ∷ [] ≢ []
      some [] none = (let k = none in cc)
      some (x ∷ xs) none = (let k = none in cc)

  -- where it is of the last one's key, nothing is
  pub passed_over : (rows : List Entry) (row e : Entry) → Same text_order row.0 e.0 → Took first new rows true → HasPassed Took first new (Some row) e true rows
  passed_over rows row e tied took = record {
    given = rows;
    took = took;
    set = put_over rows (rows ++ row ∷ []) (rows ++ e ∷ []) row e tied refl refl;
    full = λ less. absurd (let k = less in cc);
  }

  -- where there is no last one, it is the first
  pub passed_first : (rows : List Entry) (e : Entry) → rows ≡ [] → Took first new rows true → HasPassed Took first new None e true rows
  passed_first rows e none took = record {
    given = rows;
    took = took;
    set = put_only (rows ++ []) rows (rows ++ e ∷ []) e (ap length (append-nil rows) ∙ ap length none) refl refl;
    full = λ less. absurd (let k = less in cc);
  }
