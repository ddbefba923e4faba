-- Rows in a gap that are told one after the other are a part of them.
use Rattle.std.proofs.Common.{◌≡◌, ◌≢◌, ◌⊎◌, inl, inr, ℕ, zero, suc, ◌+◌, ◌<◌, ◌≤◌, leb, nat_lt, Bool, true, false, cond, List, [], ◌∷◌, ◌++◌, length, map, take, drop, refl, sym, ap, ap₂, subst, ◌∙◌, append-nil, arith}
use Rattle.std.specs.Global.{Vec}
use Rattle.std.specs.declared.cmp.Ordering.{Ordering}
use Rattle.std.proofs.Math.Seq.{take-append_seam}
use Rattle.std.proofs.lemmas.Bool.{ltb-false, ltb-true}
use Rattle.std.proofs.lemmas.Bool.Decides.{leb_tells}
use Rattle.std.proofs.lemmas.List.{length-append, length-map, take-map, take-append-drop, take-append-le}
use Rattle.merkle_bytes.specs.Counts.{count_bytes}
use Rattle.merkle_bytes.specs.Keys.{key_behind}
use Rattle.merkle_bytes.specs.Runs.{bound_key, entries_bytes, row_behind, row_key, state_behind}
use Rattle.merkle_bytes.proofs.Listed.{written_next}
use Rattle.merkle_tree_theory.specs.Gap.{pairs_within}
use Rattle.merkle_wire.specs.Gaps.{owned_gap}
use Rattle.merkle_wire.specs.Parts.{EndsPart, HasTold, PartSoFar}
use Rattle.merkle_wire.specs.Replies.{rows_bytes}

module _ {K V : Type 0} (encoding : K → List ℕ) (values : V → List ℕ) where
  abbrev bytes_of : List ℕ → List (K × V) → List ℕ
  bytes_of = rows_bytes encoding values

  abbrev Told : PartSoFar → PartSoFar → List (K × V) → Bool → Type 0
  Told = HasTold encoding values

  -- after itself none is told
  pub none_told : (part : PartSoFar) → Told part part [] true
  none_told part = record {
    room = refl;
    count = omega arith;
    last = refl;
    bytes = sym (append-nil part.bytes);
    fits = λ i some low. absurd (omega (arith, low));
    goes_on = inl (refl, refl);
  }

  -- one is told
  pub one_told : (old : PartSoFar) (row : K × V) (count len : ℕ) (last bytes : List ℕ) → count ≡ old.count + 1 → last ≡ encoding row.0
      → bytes ≡ old.bytes ++ row_behind encoding values old.last row → len ≡ length bytes
      → Told old (record { room = old.room; count = count; last = last; bytes = bytes }) (row ∷ []) (nat_lt len old.room)
  one_told old row count len last bytes counted went put long = record {
    room = refl;
    count = omega (arith, counted);
    last = went;
    bytes = put ∙ ap (λ b. old.bytes ++ b) (sym (append-nil (row_behind encoding values old.last row)));
    fits = λ i some low. absurd (omega (arith, low, some));
    goes_on = inr (ap (λ n. nat_lt n old.room) long);
  }

  -- one more is told
  module _ (first old new : PartSoFar) (rows : List (K × V)) (row : K × V) (more : Bool) (was : Told first old rows true) (one : Told old new (row ∷ []) more) where
    wrote : (new.bytes ≡ first.bytes ++ bytes_of first.last (rows ++ row ∷ [])) × (new.last ≡ state_behind (row_behind encoding values) (row_key encoding) first.last (rows ++ row ∷ []))
    wrote = written_next (row_behind encoding values) (row_key encoding) first.last old.last new.last rows (rows ++ row ∷ []) row first.bytes old.bytes new.bytes refl
        was.bytes was.last (one.bytes ∙ ap (λ b. old.bytes ++ b) (append-nil (row_behind encoding values old.last row))) one.last

    abbrev HasRoomBehind : List (K × V) → Type 0
    HasRoomBehind told = length (first.bytes ++ bytes_of first.last told) < first.room

    room_behind : ((rows ≡ []) × (true ≡ true)) ⊎ (true ≡ nat_lt (length old.bytes) old.room) → length rows ≢ 0 → HasRoomBehind rows
    room_behind (inl none) some = absurd (some (ap length none.0))
    room_behind (inr low) some =
        omega (arith, ltb-true (length old.bytes) old.room (sym low), ap length was.bytes, was.room)

    room_before : (i : ℕ) → i ≢ 0 → i ≤ length rows → ((leb (i + 1) (length rows) ≡ true) × (i + 1 ≤ length rows)) ⊎ ((leb (i + 1) (length rows) ≡ false) × (length rows < i + 1))
        → HasRoomBehind (take i (rows ++ row ∷ []))
    room_before i some upto (inl low) =
        subst HasRoomBehind (sym (take-append-le i rows (row ∷ []) (omega (arith, low.1)))) (was.fits i some (omega (arith, low.1)))
    room_before i some upto (inr high) =
        let all : i ≡ length rows = omega (arith, upto, high.1) in
        subst HasRoomBehind (sym (ap (λ n. take n (rows ++ row ∷ [])) all ∙ take-append_seam rows (row ∷ []))) (room_behind was.goes_on (λ none. some (all ∙ none)))

    goes_on : (((row ∷ []) ≡ []) × (more ≡ true)) ⊎ (more ≡ nat_lt (length new.bytes) new.room) → (((rows ++ row ∷ []) ≡ []) × (more ≡ true)) ⊎ (more ≡ nat_lt (length new.bytes) new.room)
    goes_on (inl none) = absurd (let e = none.0 in cc)
    goes_on (inr is) = inr is

    pub told_more : Told first new (rows ++ row ∷ []) more
    told_more = record {
      room = one.room ∙ was.room;
      count = omega (arith, one.count, was.count, length-append rows (row ∷ []));
      last = wrote.1;
      bytes = wrote.0;
      fits = λ i some low. room_before i some (omega (arith, low, length-append rows (row ∷ []))) (leb_tells (i + 1) (length rows));
      goes_on = goes_on one.goes_on;
    }

  -- ---- a part of whatever rows begin so

  -- a row as it is told: the bytes of its key and those of its value
  abbrev pub code : K × V → List ℕ × List ℕ
  code row = (encoding row.0, values row.1)

  abbrev coded : List ℕ → List (List ℕ × List ℕ) → List ℕ
  coded = entries_bytes (λ last c. key_behind last c.0 ++ c.1) (λ last c. c.0)

  rows_coded : (last : List ℕ) (rs : List (K × V)) → bytes_of last rs ≡ coded last (map code rs)
  rows_coded last [] = refl
  rows_coded last (r ∷ rs) = ap (λ more. (key_behind last (encoding r.0) ++ values r.1) ++ more) (rows_coded (encoding r.0) rs)

  pub rows_alike : (last : List ℕ) (rs ss : List (K × V)) → map code rs ≡ map code ss → bytes_of last rs ≡ bytes_of last ss
  rows_alike last rs ss e = rows_coded last rs ∙ ap (coded last) e ∙ sym (rows_coded last ss)

  pub count_alike : (rs ss : List (K × V)) → map code rs ≡ map code ss → length rs ≡ length ss
  count_alike rs ss e = sym (length-map rs code) ∙ ap length e ∙ length-map ss code

  none_behind : {X : Type 0} (xs : List X) (n : ℕ) → length xs ≡ n → drop n xs ≡ []
  none_behind [] zero e = refl
  none_behind [] (suc n) e = absurd (omega (arith, e))
  none_behind (x ∷ xs) zero e = absurd (omega (arith, e))
  none_behind (x ∷ xs) (suc n) e = none_behind xs n (omega (arith, e))

  nothing_told : (rs : List (K × V)) → map code rs ≡ [] → rs ≡ []
  nothing_told [] e = refl
  nothing_told (r ∷ rs) e = absurd (let f = e in cc)

  pub part_told : (cmp : K → K → Ordering) (part : PartSoFar) (whole : Bool) (old new : Vec ℕ) → new.items ≡ old.items ++ ((count_bytes part.count ++ part.bytes) ++ cond whole 1 0 ∷ [])
      → EndsPart cmp encoding values part whole old new
  part_told cmp part whole old new is most gap rows all others more told same none some =
      let ys = pairs_within cmp (owned_gap gap) all in
      let n = length rows in
      let last = bound_key encoding [] gap.after in
      let codes : map code rows ≡ map code (take n ys) =
      sym (take-append_seam (map code rows) others) ∙ ap₂ (λ m codes. take m codes) (length-map rows code) (sym same) ∙ take-map code n ys in
      let first_codes : (i : ℕ) → map code (take i rows) ≡ map code (take i (take n ys)) = λ i. sym (take-map code i rows) ∙ ap (take i) codes ∙ take-map code i (take n ys) in
      let bytes : part.bytes ≡ bytes_of last (take n ys) = told.bytes ∙ rows_alike last rows (take n ys) codes in
      let taken : length rows ≡ length (take n ys) = count_alike rows (take n ys) codes in
      let count : part.count ≡ length (take n ys) = omega (arith, told.count, taken) in (
        record { rows = take n ys; whole = whole },
        (
          drop n ys,
          sym (take-append-drop n ys),
          (λ w. none_behind ys n (sym (length-map ys code) ∙ ap length (same ∙ ap (λ others. map code rows ++ others) (none w) ∙ append-nil (map code rows)) ∙ length-map rows code)),
          (λ left gone. (some left).0 (nothing_told rows (codes ∙ ap (map code) gone))),
        ),
        is ∙ ap₂ (λ len rows. old.items ++ ((count_bytes len ++ rows) ++ cond whole 1 0 ∷ [])) count bytes,
        (
          (λ i some low. subst (λ told. length old.items + length told < most) (rows_alike last (take i rows) (take i (take n ys)) (first_codes i))
              (omega (arith, told.fits i some (omega (arith, taken, low))))),
          ends whole refl (λ less. full told.goes_on (some less).0 (some less).1 (ap length bytes)),
        ),
      )
    where
      ends : {X : Type 0} (w : Bool) → whole ≡ w → (whole ≡ false → X) → (whole ≡ true) ⊎ X
      ends true is full = inl is
      ends false is full = inr (full is)

      full : {len : ℕ} → ((rows ≡ []) × (more ≡ true)) ⊎ (more ≡ nat_lt (length part.bytes) part.room) → rows ≢ [] → more ≡ false → length part.bytes ≡ len → most ≤ length old.items + len
      full (inl none) some less long = absurd (some none.0)
      full (inr room) some less long = omega (arith, ltb-false (length part.bytes) part.room (sym room ∙ less), told.room, long)
