-- Bytes are cut, one byte after the other, and their chunks are all of them.
use Rattle.std.proofs.Common.{◌≡◌, ℕ, ◌+◌, ◌-◌, ◌<◌, ◌≤◌, List, [], ◌∷◌, ◌++◌, length, drop, slice_range, true, false, if◌then◌else◌, inl, inr, refl, sym, ap, ap₂, subst, get_or, ◌∙◌, arith, map}
use Rattle.std.specs.List.{AllByRecursion, concat}
use Rattle.std.proofs.lemmas.List.{append_assoc, append-nil, drop-drop, drop_all, drop_more, take-append-drop}
use Rattle.std.proofs.lemmas.Bool.{cases_Bool, cases_eq, eq-eqb, ne_eqb}
use Rattle.key_order.proofs.ListParts.{each-append}
use Rattle.merkle_delta.specs.Chunks.{chunks_of, ends_chunk, ranges_from, window_with}

-- the chunks at these places
abbrev pub chunks_at : List ℕ → List (ℕ × ℕ) → List (List ℕ)
chunks_at bytes = map (λ range. slice_range bytes range.0 range.1)

-- a chunk ends after the next byte
pub ranges_ends : (window start at byte : ℕ) (more : List ℕ) → ends_chunk (window_with window byte) (at + 1 - start) ≡ true
    → ranges_from window start at (byte ∷ more) ≡ (start, at + 1) ∷ ranges_from (window_with window byte) (at + 1) (at + 1) more
unfolding ranges_from
ranges_ends window start at byte more is =
    let now = window_with window byte in
    ap (λ b. if b then ((start, at + 1) ∷ ranges_from now (at + 1) (at + 1) more) else (ranges_from now start (at + 1) more)) is

-- or goes on
pub ranges_go_on : (window start at byte : ℕ) (more : List ℕ) → ends_chunk (window_with window byte) (at + 1 - start) ≡ false
    → ranges_from window start at (byte ∷ more) ≡ ranges_from (window_with window byte) start (at + 1) more
unfolding ranges_from
ranges_go_on window start at byte more is =
    let now = window_with window byte in
    ap (λ b. if b then ((start, at + 1) ∷ ranges_from now (at + 1) (at + 1) more) else (ranges_from now start (at + 1) more)) is

-- with the bytes the last chunk ends, where one has begun
pub ranges_last : (window start at : ℕ) → start < at → ranges_from window start at [] ≡ (start, at) ∷ []
unfolding ranges_from
ranges_last window start at low = ap (λ b. if b then [] else ((start, at) ∷ [])) (ne_eqb start at (λ e. omega (arith, low, e)))

pub ranges_none : (window at : ℕ) → ranges_from window at at [] ≡ []
unfolding ranges_from
ranges_none window at = ap (λ b. if b then [] else ((at, at) ∷ [])) (eq-eqb at at refl)

module _ (bytes : List ℕ) where
  -- up to a place the chunks that have ended are those at these ranges, and one has begun at `start`
  pub record AreCut (ranges : List (ℕ × ℕ)) (window start at : ℕ) : Type 0 where
    pub low : start ≤ at
    pub inside : AllByRecursion (λ range. (range.0 ≤ range.1) × (range.1 ≤ length bytes)) ranges
    pub rest : ranges ++ ranges_from window start at (drop at bytes) ≡ ranges_from 0 0 0 bytes

  -- one byte more: with it a chunk ends
  pub cut_ends : (ranges ranges' : List (ℕ × ℕ)) (window now start at start' byte : ℕ) → AreCut ranges window start at → at < length bytes → byte ≡ get_or bytes at byte
      → now ≡ window_with window byte → ends_chunk now (at + 1 - start) ≡ true → ranges' ≡ ranges ++ (start, at + 1) ∷ [] → start' ≡ at + 1 → AreCut ranges' now start' (at + 1)
  cut_ends ranges ranges' window now start at start' byte cut low read slid ends more begun = record {
    low = omega (arith, begun);
    inside = subst (AllByRecursion (λ range. (range.0 ≤ range.1) × (range.1 ≤ length bytes))) (sym more)
        (each-append _ ranges ((start, at + 1) ∷ []) cut.inside ((omega (arith, cut.low), omega (arith, low)), tt));
    rest = ap₂ (λ rs s. rs ++ ranges_from now s (at + 1) (drop (at + 1) bytes)) more begun
        ∙ append_assoc ranges ((start, at + 1) ∷ []) (ranges_from now (at + 1) (at + 1) (drop (at + 1) bytes))
        ∙ ap (λ rs. ranges ++ rs)
        (ap (λ w. (start, at + 1) ∷ ranges_from w (at + 1) (at + 1) (drop (at + 1) bytes)) slid
        ∙ sym (ranges_ends window start at byte (drop (at + 1) bytes) (subst (λ w. ends_chunk w (at + 1 - start) ≡ true) slid ends))
        ∙ ap (ranges_from window start at) (sym (drop_more bytes at byte low ∙ ap (λ b. b ∷ drop (at + 1) bytes) (sym read))))
        ∙ cut.rest;
  }

  -- or it doesn't
  pub cut_goes_on : (ranges ranges' : List (ℕ × ℕ)) (window now start at start' byte : ℕ) → AreCut ranges window start at → at < length bytes → byte ≡ get_or bytes at byte
      → now ≡ window_with window byte → ends_chunk now (at + 1 - start) ≡ false → ranges' ≡ ranges → start' ≡ start → AreCut ranges' now start' (at + 1)
  cut_goes_on ranges ranges' window now start at start' byte cut low read slid on same begun = record {
    low = omega (arith, cut.low, begun);
    inside = subst (AllByRecursion (λ range. (range.0 ≤ range.1) × (range.1 ≤ length bytes))) (sym same) cut.inside;
    rest = ap₂ (λ rs s. rs ++ ranges_from now s (at + 1) (drop (at + 1) bytes)) same begun
        ∙ ap (λ rs. ranges ++ rs)
        (ap (λ w. ranges_from w start (at + 1) (drop (at + 1) bytes)) slid
        ∙ sym (ranges_go_on window start at byte (drop (at + 1) bytes) (subst (λ w. ends_chunk w (at + 1 - start) ≡ false) slid on))
        ∙ ap (ranges_from window start at) (sym (drop_more bytes at byte low ∙ ap (λ b. b ∷ drop (at + 1) bytes) (sym read))))
        ∙ cut.rest;
  }

  -- the bytes are cut at these ranges, which lie within them
  abbrev pub IsCut : List (ℕ × ℕ) → Type 0
  IsCut ranges = (ranges ≡ ranges_from 0 0 0 bytes) × AllByRecursion (λ range. (range.0 ≤ range.1) × (range.1 ≤ length bytes)) ranges

  -- with all bytes the last chunk ends, where one has begun
  pub cut_last : (ranges ranges' : List (ℕ × ℕ)) (window start at : ℕ) → AreCut ranges window start at → at ≡ length bytes → start < at → ranges' ≡ ranges ++ (start, at) ∷ []
      → IsCut ranges'
  cut_last ranges ranges' window start at cut all begun more = (
    more ∙ ap (λ rs. ranges ++ rs) (sym (ap (ranges_from window start at) (drop_all at bytes (omega (arith, all))) ∙ ranges_last window start at begun)) ∙ cut.rest,
    subst (AllByRecursion (λ range. (range.0 ≤ range.1) × (range.1 ≤ length bytes))) (sym more)
        (each-append _ ranges ((start, at) ∷ []) cut.inside ((omega (arith, begun), omega (arith, all)), tt)),
  )

  pub cut_all : (ranges ranges' : List (ℕ × ℕ)) (window start at : ℕ) → AreCut ranges window start at → at ≡ length bytes → at ≤ start → ranges' ≡ ranges
      → IsCut ranges'
  cut_all ranges ranges' window start at cut all none same =
      let end : start ≡ at = omega (arith, none, cut.low) in (
        same ∙ sym (append-nil ranges)
            ∙ ap (λ rs. ranges ++ rs) (sym
            (ap (λ s. ranges_from window s at (drop at bytes)) end ∙ ap (ranges_from window at at) (drop_all at bytes (omega (arith, all)))
            ∙ ranges_none window at)) ∙ cut.rest,
        subst (AllByRecursion (λ range. (range.0 ≤ range.1) × (range.1 ≤ length bytes))) (sym same) cut.inside,
      )

  -- after a stretch are the others
  stretch : (start end : ℕ) → start ≤ end → slice_range bytes start end ++ drop end bytes ≡ drop start bytes
  stretch start end low =
      ap (λ t. slice_range bytes start end ++ t) (ap (λ n. drop n bytes) (omega (arith, low)) ∙ sym (drop-drop (end - start) start bytes))
      ∙ take-append-drop (end - start) (drop start bytes)

  -- the chunks from a place on are the bytes from there on
  pub chunks_from : (window start at : ℕ) (more : List ℕ) → start ≤ at → drop at bytes ≡ more → concat (chunks_at bytes (ranges_from window start at more)) ≡ drop start bytes
  chunks_from window start at [] low e = elim (cases_eq start at) [
    | inl same ↦ ap (λ s. concat (chunks_at bytes (ranges_from window s at []))) same ∙ ap (λ rs. concat (chunks_at bytes rs)) (ranges_none window at) ∙ sym (ap (λ s. drop s bytes) same ∙ e)
    | inr other ↦ (
        ap (λ rs. concat (chunks_at bytes rs)) (ranges_last window start at (omega (arith, low, other)))
        ∙ ap (λ t. slice_range bytes start at ++ t) (sym e) ∙ stretch start at low)
  ]
  chunks_from window start at (byte ∷ more) low e =
      let now = window_with window byte in
      let behind : drop (at + 1) bytes ≡ more = sym (drop-drop 1 at bytes) ∙ ap (drop 1) e in
      elim (cases_Bool (ends_chunk now (at + 1 - start))) [
        | inl ends ↦ (
            ap (λ rs. concat (chunks_at bytes rs)) (ranges_ends window start at byte more ends)
            ∙ ap (λ t. slice_range bytes start (at + 1) ++ t) (chunks_from now (at + 1) (at + 1) more (omega arith) behind)
            ∙ stretch start (at + 1) (omega (arith, low)))
        | inr on ↦ (
            ap (λ rs. concat (chunks_at bytes rs)) (ranges_go_on window start at byte more on)
            ∙ chunks_from now start (at + 1) more (omega (arith, low)) behind)
      ]

  -- the chunks of bytes are all of them
  pub chunks_whole : concat (chunks_of bytes) ≡ bytes
  chunks_whole = chunks_from 0 0 0 bytes (omega arith) refl
