-- Whose rows come to whom through a hub: all come to all.
use Rattle.std.proofs.Common.{◌≡◌, ℕ, zero, suc, ◌<◌, ◌≤◌, List, [], ◌∷◌, ◌++◌, length, map, take, get_or, refl, ap, sym, subst, ◌∙◌, arith, inl, inr}
use Rattle.std.proofs.Math.Numerals.{add-one}
use Rattle.std.proofs.lemmas.Bool.{cases_eq, cases_lt, eq-eqb, ne_eqb}
use Rattle.std.proofs.lemmas.List.{map-append, take_more, take_all}
use Rattle.std.specs.List.{AllByRecursion}
use Rattle.key_order.specs.Order.{AnyByRecursion}
use Rattle.merkle_diff.proofs.Each.{any-left, any-right, any-map, each-with, every-in}
use Rattle.merkle_replica.specs.Contents.{Side}
use Rattle.merkle_replica.specs.Gossip.{numbered, changed, come_to, heard, gathering, spreading, through_hub, IsJoinOf, rows_of_sides}
use Rattle.merkle_replica.specs.Laws.{Laws}
use Rattle.merkle_wire.proofs.RoundCovers.{any-map as any-mapped}

-- the numbers up to one
abbrev upto : ℕ → List ℕ
upto zero = 0 ∷ []
upto (suc n) = upto n ++ suc n ∷ []

come_to-append : (who : ℕ → List ℕ) (steps more : List (ℕ × ℕ)) → come_to who (steps ++ more) ≡ come_to (come_to who steps) more
come_to-append who [] more = refl
come_to-append who (s ∷ steps) more = come_to-append (changed who s.0 (who s.0 ++ who s.1)) steps more

module _ {X : Type 0} (f : ℕ → X) (i : ℕ) (x : X) where
  changed-here : changed f i x i ≡ x
  changed-here = rw (eq-eqb i i refl) refl

  changed-elsewhere : (n : ℕ) → (n ≡ i → ⊥) → changed f i x n ≡ f n
  changed-elsewhere n differs = rw (ne_eqb n i differs) refl

-- those of all come to the hub
gathered : (n : ℕ) → (heard (gathering n) 0 ≡ upto n) × ((k : ℕ) → heard (gathering n) (suc k) ≡ suc k ∷ [])
gathered zero = (refl, λ k. refl)
gathered (suc n) =
    let (all, own) = gathered n in
    let before = heard (gathering n) in
    let step = come_to-append (λ n. n ∷ []) (gathering n) ((0, suc n) ∷ []) in (
      (λ i. step i 0) ∙ changed-here before 0 (before 0 ++ before (suc n)) ∙ (λ i. all i ++ own n i),
      λ k. (λ i. step i (suc k)) ∙ changed-elsewhere before 0 (before 0 ++ before (suc n)) (suc k) (λ e. omega (arith, e)) ∙ own k,
    )

module _ (who : ℕ → List ℕ) (alone : (k : ℕ) → who (suc k) ≡ suc k ∷ []) where
  -- and then to each of the others
  record IsSpreadTo (n : ℕ) : Type 0 where
    hub : come_to who (spreading n) 0 ≡ who 0
    done : (k : ℕ) → k < n → come_to who (spreading n) (suc k) ≡ suc k ∷ who 0
    left : (k : ℕ) → n ≤ k → come_to who (spreading n) (suc k) ≡ suc k ∷ []

  spread : (n : ℕ) → IsSpreadTo n
  spread zero = record { hub = refl; done = λ k low. absurd (omega (arith, low)); left = λ k high. alone k }
  spread (suc n) =
      let before = spread n in
      let old = come_to who (spreading n) in
      let more = old (suc n) ++ old 0 in
      let step = come_to-append who (spreading n) ((suc n, 0) ∷ []) in
      let other : (k : ℕ) → (k ≡ suc n → ⊥) → come_to who (spreading (suc n)) k ≡ old k = λ k differs. (λ i. step i k) ∙ changed-elsewhere old (suc n) more k differs in
      let here : come_to who (spreading (suc n)) (suc n) ≡ suc n ∷ who 0
      = (λ i. step i (suc n)) ∙ changed-here old (suc n) more ∙ (λ i. before.left n (omega arith) i ++ before.hub i) in
      record {
        hub = other 0 (λ e. omega (arith, e)) ∙ before.hub;
        done = λ k low. elim (cases_eq k n) [
          | inl same ↦ subst (λ m. come_to who (spreading (suc n)) (suc m) ≡ suc m ∷ who 0) (sym same) here
          | inr differs ↦ other (suc k) (λ e. differs (omega (arith, e))) ∙ before.done k (le_now k low differs)
        ];
        left = λ k high. other (suc k) (λ e. omega (arith, high, e)) ∙ before.left k (omega (arith, high));
      }
    where
      le_now : (k : ℕ) → k < suc n → (k ≡ n → ⊥) → k < n
      le_now k low differs = elim (cases_lt k n) [ inl less ↦ less | inr high ↦ absurd (differs (omega (arith, low, high))) ]

-- a number up to another is that or up to the one before
below_all : (n k : ℕ) → k ≤ suc n → (k ≡ suc n → ⊥) → k ≤ n
below_all n k low differs = elim (cases_lt n k) [ inl high ↦ absurd (differs (omega (arith, low, high))) | inr few ↦ few ]

-- so each has those of all, and its own
heard_all : (n : ℕ) → heard (through_hub n) 0 ≡ upto n
heard_all n =
    let (all, own) = gathered n in
    (λ i. come_to-append (λ n. n ∷ []) (gathering n) (spreading n) i 0) ∙ (spread (heard (gathering n)) own n).hub ∙ all

heard_more : (n k : ℕ) → k < n → heard (through_hub n) (suc k) ≡ suc k ∷ upto n
heard_more n k low =
    let (all, own) = gathered n in
    (λ i. come_to-append (λ n. n ∷ []) (gathering n) (spreading n) i (suc k)) ∙ (spread (heard (gathering n)) own n).done k low ∙ ap (λ t. suc k ∷ t) all

-- a number is one of those up to another
is_upto : (n k : ℕ) → k ≤ n → AnyByRecursion (λ m. m ≡ k) (upto n)
is_upto zero k low = inl (omega (arith, low))
is_upto (suc n) k low = elim (cases_eq k (suc n)) [
  | inl same ↦ any-right (λ m. m ≡ k) (upto n) (suc n ∷ []) (inl (sym same))
  | inr differs ↦ any-left (λ m. m ≡ k) (upto n) (suc n ∷ []) (is_upto n k (below_all n k low differs))
]

-- what all numbers up to one stand for
map-upto : {X Y : Type 0} (f : X → Y) (beyond x : X) (xs : List X) (n : ℕ) → n ≤ length xs → map (λ m. f (numbered beyond (x ∷ xs) m)) (upto n) ≡ map f (x ∷ take n xs)
map-upto f beyond x xs zero low = refl
map-upto {X} {Y} f beyond x xs (suc n) low =
    let own : ℕ → Y = λ m. f (numbered beyond (x ∷ xs) m) in
    map-append own (upto n) (suc n ∷ []) ∙ ap (λ ys. ys ++ own (suc n) ∷ []) (map-upto f beyond x xs n (omega (arith, low)))
    ∙ sym (map-append f (x ∷ take n xs) (get_or xs n beyond ∷ [])) ∙ ap (λ ys. map f (x ∷ ys)) (sym (take_more xs n beyond (omega (arith, low))) ∙ ap (λ m. take m xs) (add-one n))

-- what holds under each number holds of each of a list, and so the other way
each_numbered : {X : Type 0} (P : X → Type 0) (beyond : X) (xs : List X) → ((k : ℕ) → k < length xs → P (numbered beyond xs k)) → AllByRecursion P xs
each_numbered P beyond [] h = tt
each_numbered P beyond (x ∷ xs) h = (h 0 (omega arith), each_numbered P beyond xs (λ k low. h (suc k) (omega (arith, low))))

pub numbered_each : {X : Type 0} (P : X → Type 0) (beyond : X) (xs : List X) → P beyond → AllByRecursion P xs → (n : ℕ) → P (numbered beyond xs n)
numbered_each P beyond [] p each n = p
numbered_each P beyond (x ∷ xs) p each zero = each.0
numbered_each P beyond (x ∷ xs) p each (suc n) = numbered_each P beyond xs p each.1 n

module _ {K V H : Type 0} (laws : Laws K V H) where
  abbrev Holds : List (List (K × V)) → List (K × V) → Type 0
  Holds = IsJoinOf laws.cmp laws.eq laws.join

  -- where the order in which maps are joined doesn't matter, each of those through a hub holds the join of all
  pub all_hold : ((ms ns : List (List (K × V))) (rows : List (K × V)) → AllByRecursion (λ m. AnyByRecursion (λ n. n ≡ m) ns) ms
      → AllByRecursion (λ n. AnyByRecursion (λ m. m ≡ n) ms) ns → Holds ms rows → Holds ns rows)
      → (hub : Side K V H) (others after : List (Side K V H)) (count : ℕ) → count ≡ length others → length after ≡ suc count
      → ((n : ℕ) → Holds (map (λ m. (numbered hub (hub ∷ others) m).rows) (heard (through_hub count) n)) (numbered hub after n).rows)
      → AllByRecursion (λ s. Holds (rows_of_sides (hub ∷ others)) s.rows) after
  all_hold same hub others after count all long joins = each_numbered (λ s. Holds (rows_of_sides (hub ∷ others)) s.rows) hub after at
    where
      own : ℕ → List (K × V)
      own m = (numbered hub (hub ∷ others) m).rows

      whole : map own (upto count) ≡ rows_of_sides (hub ∷ others)
      whole = map-upto (λ s. s.rows) hub hub others count (omega (arith, all)) ∙ ap (λ ys. rows_of_sides (hub ∷ ys)) (take_all count others (omega (arith, all)))

      more : (k : ℕ) → k ≤ count → (rows : List (K × V)) → Holds (own k ∷ map own (upto count)) rows → Holds (map own (upto count)) rows
      more k low rows =
          let every = every-in (map own (upto count)) in
          let one = any-mapped (λ m. m ≡ own k) own (upto count) (any-map (λ m. m ≡ k) (λ m. own m ≡ own k) (upto count) (λ m e. ap own e) (is_upto count k low)) in
          same (own k ∷ map own (upto count)) (map own (upto count)) rows (one, every)
          (each-with (λ n. AnyByRecursion (λ m. m ≡ n) (map own (upto count))) (λ n. AnyByRecursion (λ m. m ≡ n) (own k ∷ map own (upto count))) (map own (upto count)) (λ n h. inr h) every)

      at : (k : ℕ) → k < length after → Holds (rows_of_sides (hub ∷ others)) (numbered hub after k).rows
      at zero low = subst (λ ms. Holds ms (numbered hub after 0).rows) (ap (map own) (heard_all count) ∙ whole) (joins 0)
      at (suc k) low =
          let rows = (numbered hub after (suc k)).rows in
          subst (λ ms. Holds ms rows) whole
          (more (suc k) (omega (arith, low, long)) rows (subst (λ ms. Holds ms rows) (ap (map own) (heard_more count k (omega (arith, low, long)))) (joins (suc k))))
