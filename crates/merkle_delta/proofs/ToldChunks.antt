-- Chunks are told: those whose checksums another side has as runs of its chunks, the others by their bytes.
use Rattle.std.proofs.Common.{◌≡◌, ℕ, zero, suc, ◌+◌, ◌-◌, ◌<◌, ◌≤◌, List, [], ◌∷◌, ◌++◌, length, get_or, map, take, drop, inl, inr, refl, sym, ap, ap₂, subst, ◌∙◌, arith}
use Rattle.std.specs.List.{AllByRecursion, concat, flat_map}
use Rattle.std.proofs.lemmas.List.{drop-drop, drop-map, get_or-drop, length-drop, length-map, map-append, take_more, take_all, take-map, take-take, drop-take, take-append-drop, flat_map_more}
use Rattle.merkle_delta.specs.Chunks.{checksum}
use Rattle.merkle_delta.specs.Deltas.{Step, step_bytes, bytes_from_steps, AreStepsOver, AreToldApart, HaveChecksums, AddsSteps}
use Rattle.merkle_delta.proofs.Stepping.{left_behind, concat-more, concat-append, over-more, patched-more, left-more}

module _ {X : Type 0} (P : X → Type 0) where
  each-drop : (n : ℕ) (xs : List X) → AllByRecursion P xs → AllByRecursion P (drop n xs)
  each-drop zero xs each = each
  each-drop (suc n) [] each = tt
  each-drop (suc n) (x ∷ xs) each = each-drop n xs each.1

  each-take : (n : ℕ) (xs : List X) → AllByRecursion P xs → AllByRecursion P (take n xs)
  each-take zero xs each = tt
  each-take (suc n) [] each = tt
  each-take (suc n) (x ∷ xs) each = (each.0, each-take n xs each.1)

  -- of a stretch of a list holds what holds of all
  each-within : (n m : ℕ) (xs : List X) → AllByRecursion P xs → AllByRecursion P (take m (drop n xs))
  each-within n m xs each = each-take m (drop n xs) (each-drop n xs each)

each-map : {X : Type 0} (P Q : X → Type 0) → ((x : X) → P x → Q x) → (xs : List X) → AllByRecursion P xs → AllByRecursion Q xs
each-map P Q more [] each = tt
each-map P Q more (x ∷ xs) each = (more x each.0, each-map P Q more xs each.1)

-- the first entries are some, and those after them
take_add : {X : Type 0} (n m : ℕ) (xs : List X) → take (n + m) xs ≡ take n xs ++ take m (drop n xs)
take_add n m xs = sym (take-append-drop n (take (n + m) xs)) ∙ ap₂ (λ a b. a ++ b) (take-take n (n + m) xs (omega arith)) (drop-take n m xs)

-- chunks with the same checksums that these tell apart are the same
same_chunks : (own chunks : List (List ℕ)) → map checksum own ≡ map checksum chunks → AreToldApart own chunks → own ≡ chunks
same_chunks [] [] e told = refl
same_chunks [] (c ∷ cs) e told = absurd (omega (arith, ap length e))
same_chunks (o ∷ os) [] e told = absurd (omega (arith, ap length e))
same_chunks (o ∷ os) (c ∷ cs) e told =
    let first : checksum o ≡ checksum c = cc in
    let rest : map checksum os ≡ map checksum cs = cc in
    ap₂ (λ x xs. x ∷ xs) (told.0.0 first) (same_chunks os cs rest (each-map _ _ (λ x each. each.1) cs told.1))

module _ (checksums : List ℕ) (chunks : List (List ℕ)) where
  -- no checksums are those of no chunks
  pub none_same : (from done : ℕ) → from ≤ length checksums → done ≤ length chunks → HaveChecksums checksums chunks from done 0
  none_same from done low few = (omega (arith, low), omega (arith, few), refl)

  pub one_more_same : (from done len : ℕ) → HaveChecksums checksums chunks from done len
      → (from + len < length checksums) × (done + len < length chunks) × (get_or checksums (from + len) 0 ≡ checksum (get_or chunks (done + len) []))
      → HaveChecksums checksums chunks from done (len + 1)
  one_more_same from done len same next = (
    omega (arith, next.0),
    omega (arith, next.1),
    take_more (drop from checksums) len 0 (omega (arith, next.0, length-drop from checksums))
        ∙ ap₂ (λ xs x. xs ++ x ∷ []) same.2 (get_or-drop from checksums len 0 ∙ next.2 ∙ ap checksum (sym (get_or-drop done chunks len [])))
        ∙ sym (map-append checksum (take len (drop done chunks)) (get_or (drop done chunks) len [] ∷ []))
        ∙ ap (map checksum) (sym (take_more (drop done chunks) len [] (omega (arith, next.1, length-drop done chunks)))),
  )

  -- the first chunks are told, over some of the others
  pub record AreTold (begun : List ℕ) (at done : ℕ) (now : List ℕ) : Type 0 where
    pub inside : (at ≤ length checksums) × (done ≤ length chunks)
    pub steps : List Step
    pub is : now ≡ begun ++ flat_map step_bytes steps
    pub gives : (own : List (List ℕ)) → map checksum own ≡ checksums → AreToldApart own chunks
        → AreStepsOver own steps × (concat (take done chunks) ≡ bytes_from_steps own steps) × (left_behind own steps ≡ drop at own)

  -- one chunk more by its bytes
  pub bytes_told : (begun now new : List ℕ) (at done : ℕ) → AreTold begun at done now → done < length chunks → new ≡ now ++ step_bytes (inr (get_or chunks done []))
      → AreTold begun at (done + 1) new
  bytes_told begun now new at done told low put =
      let chunk = get_or chunks done [] in
      let step : Step = inr chunk in record {
        inside = (told.inside.0, omega (arith, low));
        steps = told.steps ++ step ∷ [];
        is = put ∙ ap (λ t. t ++ step_bytes step) told.is ∙ flat_map_more step_bytes begun told.steps step;
        gives = λ own same apart. let so = told.gives own same apart in (
          over-more own told.steps step so.0 tt,
          ap concat (take_more chunks done [] low) ∙ concat-more (take done chunks) chunk ∙ ap (λ t. t ++ chunk) so.1 ∙ sym (patched-more own told.steps step),
          left-more own told.steps step ∙ so.2,
        );
      }

  -- some chunks more that the other side has
  pub run_told : (begun now new : List ℕ) (at done from len : ℕ) → AreTold begun at done now → at ≤ from → 1 ≤ len → HaveChecksums checksums chunks from done len
      → new ≡ now ++ step_bytes (inl (from - at, len)) → AreTold begun (from + len) (done + len) new
  run_told begun now new at done from len told behind some run put =
      let step : Step = inl (from - at, len) in record {
        inside = (run.0, run.1);
        steps = told.steps ++ step ∷ [];
        is = put ∙ ap (λ t. t ++ step_bytes step) told.is ∙ flat_map_more step_bytes begun told.steps step;
        gives = λ own same apart.
            let so = told.gives own same apart in
            let long : length own ≡ length checksums = sym (length-map own checksum) ∙ ap length same in
            let place : drop (from - at) (drop at own) ≡ drop from own = drop-drop (from - at) at own ∙ ap (λ n. drop n own) (omega (arith, behind)) in
            let there : drop ((from - at) + len) (drop at own) ≡ drop (from + len) own = drop-drop ((from - at) + len) at own ∙ ap (λ n. drop n own) (omega (arith, behind)) in
            let taken : take len (drop from own) ≡ take len (drop done chunks) = run_same own same apart from done len run in (
              over-more own told.steps step so.0
                  (subst (λ xs. (1 ≤ len) × ((from - at) + len ≤ length xs)) (sym so.2) (some, omega (arith, behind, run.0, long, length-drop at own))),
              ap concat (take_add done len chunks) ∙ concat-append (take done chunks) (take len (drop done chunks))
                  ∙ ap₂ (λ x y. x ++ y) so.1 (ap concat (sym taken ∙ ap (take len) (sym place ∙ ap (drop (from - at)) (sym so.2))))
                  ∙ sym (patched-more own told.steps step),
              left-more own told.steps step ∙ ap (drop ((from - at) + len)) so.2 ∙ there,
            );
      }
    where
      -- the run is the same chunks on both sides
      run_same : (own : List (List ℕ)) → map checksum own ≡ checksums → AreToldApart own chunks → (from done len : ℕ) → HaveChecksums checksums chunks from done len
          → take len (drop from own) ≡ take len (drop done chunks)
      run_same own same apart from done len run =
          same_chunks (take len (drop from own)) (take len (drop done chunks))
          (sym (take-map checksum len (drop from own)) ∙ ap (take len) (sym (drop-map checksum from own) ∙ ap (drop from) same) ∙ run.2)
          (each-map _ _ (λ c each. each-within (λ o. checksum o ≡ checksum c → o ≡ c) from len own each) (take len (drop done chunks)) (each-within _ done len chunks apart))

  -- all are told
  pub all_told : (begun now : List ℕ) (at done : ℕ) → AreTold begun at done now → length chunks ≤ done → AddsSteps checksums chunks begun now
  all_told begun now at done told all = (
    told.steps,
    told.is,
    λ own same apart. let so = told.gives own same apart in (so.0, ap concat (sym (take_all done chunks all)) ∙ so.1),
  )
