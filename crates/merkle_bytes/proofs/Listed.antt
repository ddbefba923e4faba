-- Entries one after the other: one more is written or read, and they are read in one way.
use Rattle.std.proofs.Common.{◌≡◌, ◌≢◌, ℕ, ◌+◌, ◌<◌, ◌≤◌, ◌^◌, List, [], ◌∷◌, ◌++◌, length, take, get_or, map, sym, ap, ap₂, subst, ◌∙◌, refl, arith}
use Rattle.std.specs.List.{AllByRecursion, flat_map, AllZip}
use Rattle.std.proofs.lemmas.List.{append_assoc, append-nil, length-append, take_more}
use Rattle.key_order.proofs.ListParts.{each-append}
use Rattle.merkle_bytes.specs.Counts.{count_bytes, count_told}
use Rattle.merkle_bytes.specs.Encodings.{list_bytes}
use Rattle.merkle_bytes.specs.Runs.{entries_bytes, state_behind, run_bytes}

module _ {X S : Type 0} (bytes : S → X → List ℕ) (next : S → X → S) where
  -- one entry more at the end
  pub one_more : (s : S) (xs : List X) (x : X) → entries_bytes bytes next s (xs ++ x ∷ []) ≡ entries_bytes bytes next s xs ++ bytes (state_behind bytes next s xs) x
  one_more s [] x = append-nil (bytes s x)
  one_more s (y ∷ ys) x =
      ap (λ t. bytes s y ++ t) (one_more (next s y) ys x)
      ∙ sym (append_assoc (bytes s y) (entries_bytes bytes next (next s y) ys) (bytes (state_behind bytes next (next s y) ys) x))

  pub state_more : (s : S) (xs : List X) (x : X) → state_behind bytes next s (xs ++ x ∷ []) ≡ next (state_behind bytes next s xs) x
  state_more s [] x = refl
  state_more s (y ∷ ys) x = state_more (next s y) ys x

  -- an entry more is written
  pub written_next : (s now then : S) (xs ys : List X) (x : X) (front old new : List ℕ) → ys ≡ xs ++ x ∷ [] → old ≡ front ++ entries_bytes bytes next s xs
      → now ≡ state_behind bytes next s xs → new ≡ old ++ bytes now x → then ≡ next now x → (new ≡ front ++ entries_bytes bytes next s ys) × (then ≡ state_behind bytes next s ys)
  written_next s now then xs ys x front old new is was state put went = (
    put ∙ ap₂ (λ t n. t ++ bytes n x) was state ∙ append_assoc front (entries_bytes bytes next s xs) (bytes (state_behind bytes next s xs) x)
        ∙ ap (λ t. front ++ t) (sym (one_more s xs x) ∙ ap (entries_bytes bytes next s) (sym is)),
    went ∙ ap (λ n. next n x) state ∙ sym (state_more s xs x) ∙ ap (state_behind bytes next s) (sym is),
  )

  -- so is that at a place of a list
  pub written_more : (s now then : S) (xs : List X) (i : ℕ) (x : X) (front old new : List ℕ) → i < length xs → x ≡ get_or xs i x → old ≡ front ++ entries_bytes bytes next s (take i xs)
      → now ≡ state_behind bytes next s (take i xs) → new ≡ old ++ bytes now x → then ≡ next now x
      → (new ≡ front ++ entries_bytes bytes next s (take (i + 1) xs)) × (then ≡ state_behind bytes next s (take (i + 1) xs))
  written_more s now then xs i x front old new low is =
      written_next s now then (take i xs) (take (i + 1) xs) x front old new (take_more xs i x low ∙ ap (λ y. take i xs ++ y ∷ []) (sym is))

-- entries that are made of others
pub entries-map : {X Y S : Type 0} (bytes : S → X → List ℕ) (next : S → X → S) (f : Y → X) (s : S) (ys : List Y)
    → entries_bytes (λ s y. bytes s (f y)) (λ s y. next s (f y)) s ys ≡ entries_bytes bytes next s (map f ys)
entries-map bytes next f s [] = refl
entries-map bytes next f s (y ∷ ys) = ap (λ t. bytes s (f y) ++ t) (entries-map bytes next f (next s (f y)) ys)

-- where the state doesn't matter, entries are those of a list
pub plain : {X S : Type 0} (encoding : X → List ℕ) (next : S → X → S) (s : S) (xs : List X) → entries_bytes (λ _ x. encoding x) next s xs ≡ flat_map encoding xs
plain encoding next s [] = refl
plain encoding next s (x ∷ xs) = ap (λ t. encoding x ++ t) (plain encoding next (next s x) xs)

module _ {X S : Type 0} (P : X → Type 0) (bytes : S → X → List ℕ) (next : S → X → S) where
  -- after some entries of a list that the whole begins with, what is left begins with the others
  abbrev pub BeginsWithRest : S → List ℕ → ℕ → ℕ → S → List ℕ → Type 0
  BeginsWithRest start whole count done state left = (all : List X) (more : List ℕ) → AllByRecursion P all → whole ≡ run_bytes bytes next start all ++ more
      → (others : List X) × AllByRecursion P others × (length others + done ≡ count) × (left ≡ entries_bytes bytes next state others ++ more)

  -- of a list of this many entries these were read, and the rest is still to be
  pub record IsReading (start : S) (whole : List ℕ) (count done : ℕ) (entries : List X) (state : S) (left : List ℕ) : Type 0 where
    pub read : whole ≡ (count_bytes count ++ entries_bytes bytes next start entries) ++ left
    pub behind : state ≡ state_behind bytes next start entries
    pub counted : length entries ≡ done
    pub values : AllByRecursion P entries
    pub rest : BeginsWithRest start whole count done state left

  -- a list has at least as many bytes as entries
  pub no_more : ((s : S) (x : X) → 1 ≤ length (bytes s x)) → (s : S) (xs : List X) → length xs ≤ length (entries_bytes bytes next s xs)
  no_more some s [] = omega arith
  no_more some s (x ∷ xs) = omega (arith, some s x, no_more some (next s x) xs, length-append (bytes s x) (entries_bytes bytes next (next s x) xs))

  -- so a count of entries is below 2 ^ 64, and where no count stands no list does
  pub no_list : ((s : S) (x : X) → 1 ≤ length (bytes s x)) → (s : S) (whole : List ℕ) → length whole < 2 ^ 64
      → ((count : ℕ) (rest : List ℕ) → count < 2 ^ 64 → whole ≢ count_bytes count ++ rest) → (xs : List X) (rest : List ℕ) → whole ≢ run_bytes bytes next s xs ++ rest
  no_list some s whole fits none xs rest e =
      let entries = entries_bytes bytes next s xs in
      let flat = e ∙ append_assoc (count_bytes (length xs)) entries rest in
      none (length xs) (entries ++ rest)
      (omega (arith, fits, no_more some s xs, ap length flat, length-append (count_bytes (length xs)) (entries ++ rest), length-append entries rest)) flat

  -- none is read before the first
  pub none_read : (start state : S) (whole left : List ℕ) (count : ℕ) (entries : List X) → entries ≡ [] → state ≡ start → whole ≡ count_bytes count ++ left
      → IsReading start whole count 0 entries state left
  none_read start state whole left count entries none same e = record {
    read = e ∙ ap (λ t. t ++ left) (sym (append-nil (count_bytes count)) ∙ ap (λ xs. count_bytes count ++ entries_bytes bytes next start xs) (sym none));
    behind = same ∙ ap (state_behind bytes next start) (sym none);
    counted = ap length none;
    values = subst (AllByRecursion P) (sym none) tt;
    rest = λ all more each spelled.
        let flat = spelled ∙ append_assoc (count_bytes (length all)) (entries_bytes bytes next start all) more in
        let heads = count_told count (length all) left (entries_bytes bytes next start all ++ more) (sym e ∙ flat) in
        (all, each, omega (arith, heads.0), heads.1 ∙ ap (λ s. entries_bytes bytes next s all ++ more) (sym same));
  }

  module _ (E : X → X → Type 0) (told : (s : S) (x y : X) (r t : List ℕ) → bytes s x ++ r ≡ bytes s y ++ t → E x y × (next s x ≡ next s y) × (r ≡ t)) where
    -- one entry more is read
    pub one_read : (start state then : S) (whole left behind : List ℕ) (count done : ℕ) (entries new : List X) (x : X) → IsReading start whole count done entries state left
        → done < count → P x → new ≡ entries ++ x ∷ [] → then ≡ next state x → left ≡ bytes state x ++ behind → IsReading start whole count (done + 1) new then behind
    one_read start state then whole left behind count done entries new x kept low p more went now = record {
      read = kept.read ∙ ap (λ t. (count_bytes count ++ entries_bytes bytes next start entries) ++ t) now
          ∙ sym (append_assoc (count_bytes count ++ entries_bytes bytes next start entries) (bytes state x) behind)
          ∙ ap (λ t. t ++ behind) (append_assoc (count_bytes count) (entries_bytes bytes next start entries) (bytes state x)
          ∙ ap (λ t. count_bytes count ++ t)
          (ap (λ s. entries_bytes bytes next start entries ++ bytes s x) kept.behind ∙ sym (one_more bytes next start entries x)
          ∙ ap (entries_bytes bytes next start) (sym more)));
      behind = went ∙ ap (λ s. next s x) kept.behind ∙ sym (state_more bytes next start entries x) ∙ ap (state_behind bytes next start) (sym more);
      counted = omega (arith, ap length more, length-append entries (x ∷ []), kept.counted);
      values = subst (AllByRecursion P) (sym more) (each-append P entries (x ∷ []) kept.values (p, tt));
      rest = λ all rest each spelled. let b = kept.rest all rest each spelled in after rest b.0 b.1 b.2 b.3;
    }
      where
        after : (end : List ℕ) (xs : List X) → AllByRecursion P xs → length xs + done ≡ count → left ≡ entries_bytes bytes next state xs ++ end
            → (others : List X) × AllByRecursion P others × (length others + (done + 1) ≡ count) × (behind ≡ entries_bytes bytes next then others ++ end)
        after end [] ps n e = absurd (omega (arith, n, low))
        after end (y ∷ ys) ps n e =
            let both = told state x y behind (entries_bytes bytes next (next state y) ys ++ end) (sym now ∙ e ∙ append_assoc (bytes state y) (entries_bytes bytes next (next state y) ys) end) in
            (ys, ps.1, omega (arith, n), both.2 ∙ ap (λ s. entries_bytes bytes next s ys ++ end) (sym (went ∙ both.1)))

  -- before all are read, an entry is next
  pub next_left : (start state : S) (whole left : List ℕ) (count done : ℕ) (entries : List X) → IsReading start whole count done entries state left → done < count
      → (all : List X) (more : List ℕ) → AllByRecursion P all → whole ≡ run_bytes bytes next start all ++ more → (x : X) × (rest : List ℕ) × P x × (left ≡ bytes state x ++ rest)
  next_left start state whole left count done entries kept low all more each spelled = let b = kept.rest all more each spelled in first b.0 b.1 b.2 b.3
    where
      first : (xs : List X) → AllByRecursion P xs → length xs + done ≡ count → left ≡ entries_bytes bytes next state xs ++ more → (x : X) × (rest : List ℕ) × P x × (left ≡ bytes state x ++ rest)
      first [] ps n e = absurd (omega (arith, n, low))
      first (x ∷ xs) ps n e = (x, entries_bytes bytes next (next state x) xs ++ more, ps.0, e ∙ append_assoc (bytes state x) (entries_bytes bytes next (next state x) xs) more)

  -- once all are read, the list is read
  pub all_read : (start state : S) (whole left : List ℕ) (count done : ℕ) (entries : List X) → IsReading start whole count done entries state left → done ≡ count
      → whole ≡ run_bytes bytes next start entries ++ left
  all_read start state whole left count done entries kept last = kept.read ∙ ap (λ n. (count_bytes n ++ entries_bytes bytes next start entries) ++ left) (sym last ∙ sym kept.counted)

module _ {X S : Type 0} (bytes : S → X → List ℕ) (next : S → X → S)
    (E : X → X → Type 0) (told : (s : S) (x y : X) (r t : List ℕ) → bytes s x ++ r ≡ bytes s y ++ t → E x y × (next s x ≡ next s y) × (r ≡ t)) where
  -- as many entries at the front tell each other, and what is after them
  pub entries_told : (s : S) (xs ys : List X) (r t : List ℕ) → length xs ≡ length ys
      → entries_bytes bytes next s xs ++ r ≡ entries_bytes bytes next s ys ++ t → AllZip E xs ys × (state_behind bytes next s xs ≡ state_behind bytes next s ys) × (r ≡ t)
  entries_told s [] [] r t n e = (tt, refl, e)
  entries_told s [] (y ∷ ys) r t n e = absurd (omega (arith, n))
  entries_told s (x ∷ xs) [] r t n e = absurd (omega (arith, n))
  entries_told s (x ∷ xs) (y ∷ ys) r t n e =
      let behind_x = entries_bytes bytes next (next s x) xs in
      let behind_y = entries_bytes bytes next (next s y) ys in
      let first = told s x y (behind_x ++ r) (behind_y ++ t) (sym (append_assoc (bytes s x) behind_x r) ∙ e ∙ append_assoc (bytes s y) behind_y t) in
      let rest = entries_told (next s x) xs ys r t (omega (arith, n)) (first.2 ∙ ap (λ u. entries_bytes bytes next u ys ++ t) (sym first.1)) in
      ((first.0, rest.0), rest.1 ∙ ap (λ u. state_behind bytes next u ys) first.1, rest.2)

  -- a list at the front tells its entries, and what is after it
  pub run_told : (s : S) (xs ys : List X) (r t : List ℕ) → run_bytes bytes next s xs ++ r ≡ run_bytes bytes next s ys ++ t
      → AllZip E xs ys × (state_behind bytes next s xs ≡ state_behind bytes next s ys) × (r ≡ t)
  run_told s xs ys r t e =
      let in_xs = entries_bytes bytes next s xs in
      let in_ys = entries_bytes bytes next s ys in
      let heads = count_told (length xs) (length ys) (in_xs ++ r) (in_ys ++ t) (sym (append_assoc (count_bytes (length xs)) in_xs r) ∙ e ∙ append_assoc (count_bytes (length ys)) in_ys t) in
      entries_told s xs ys r t heads.0 heads.1

-- a list as entries without a state
abbrev pub stays : {X : Type 0} → Unit {0} → X → Unit {0}
stays s x = s

module _ {X : Type 0} (encoding : X → List ℕ) where
  abbrev pub alone : Unit {0} → X → List ℕ
  alone s x = encoding x

  pub as_list : (xs : List X) → run_bytes alone stays tt xs ≡ list_bytes encoding xs
  as_list xs = ap (λ t. count_bytes (length xs) ++ t) (plain encoding stays tt xs)
