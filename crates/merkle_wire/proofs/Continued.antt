-- What is told of what was asked for, entry by entry.
use Rattle.std.proofs.Common.{◌≡◌, ◌≢◌, ℕ, ◌+◌, ◌<◌, ◌≤◌, ◌⊎◌, inl, inr, List, [], ◌∷◌, ◌++◌, length, drop, get_or, map, refl, ap, sym, subst, ◌∙◌, arith}
use Rattle.std.specs.List.{AllByRecursion, flat_map}
use Rattle.std.proofs.lemmas.List.{append_assoc, append-nil, drop_all, drop_more}
use Rattle.merkle_wire.specs.Replies.{IsFull, TellsWhatFits}

-- something is told of the first of what was asked for, of one at least, each where P holds of both
abbrev pub TellsFirst : {X Y : Type 0} → (X → Y → Type 0) → List X → List (X × Y) → Type 0
TellsFirst {X} P asked told = (left : List X) × (asked ≡ map (λ t. t.0) told ++ left) × (asked ≢ [] → told ≢ []) × AllByRecursion (λ t. P t.0 t.1) told

module _ {X Y : Type 0} (P : X → Y → Type 0) (bytes : X × Y → List ℕ) (Fits : List ℕ → X × Y → Type 0) (most : ℕ) where
  -- a reply that begins so tells of what was asked for what fits, and P holds of each entry
  pub record IsTelling (asked : List X) (begun reply : List ℕ) : Type 0 where
    pub fits : TellsWhatFits bytes Fits most asked begun reply
    pub holds : AllByRecursion (λ t. P t.0 t.1) fits.0

  -- nothing more is told where there is nothing more, or where the reply is full
  told_upto : (asked : List X) (begun : List ℕ) → (asked ≡ []) ⊎ IsFull most begun → IsTelling asked begun begun
  told_upto asked begun ends = record {
    fits = ([], asked, refl, sym (append-nil begun), tt, ends);
    holds = tt;
  }

  told_more : (x : X) (y : Y) (xs : List X) (begun reply : List ℕ) → P x y → (¬ IsFull most begun) × Fits begun (x, y) → IsTelling xs (begun ++ bytes (x, y)) reply → IsTelling (x ∷ xs) begun reply
  told_more x y xs begun reply p fit t = record {
    fits = (
      (x, y) ∷ t.fits.0,
      t.fits.1,
      ap (λ z. x ∷ z) t.fits.2,
      t.fits.3 ∙ append_assoc begun (bytes (x, y)) (flat_map bytes t.fits.0),
      (fit, t.fits.4),
      t.fits.5,
    );
    holds = (p, t.holds);
  }

  -- what is told of the entries from this one on continues what there is now
  abbrev pub IsContinued : List X → List ℕ → ℕ → List ℕ → Type 0
  IsContinued asked begun i now = (reply : List ℕ) → IsTelling (drop i asked) now reply → IsTelling asked begun reply

  pub continued_more : (asked : List X) (begun now new : List ℕ) (i : ℕ) (x : X) (y : Y) → i < length asked → x ≡ get_or asked i x → IsContinued asked begun i now → P x y
      → (¬ IsFull most now) × Fits now (x, y) → new ≡ now ++ bytes (x, y)
      → IsContinued asked begun (i + 1) new
  continued_more asked begun now new i x y low is on p fit put reply t =
      on reply (subst (λ xs. IsTelling xs now reply) (sym (drop_more asked i x low ∙ ap (λ z. z ∷ drop (i + 1) asked) (sym is)))
      (told_more x y (drop (i + 1) asked) now reply p fit (subst (λ b. IsTelling (drop (i + 1) asked) b reply) put t)))

  pub continued_full : (asked : List X) (begun now : List ℕ) (i : ℕ) → IsContinued asked begun i now → IsFull most now → IsTelling asked begun now
  continued_full asked begun now i on full = on now (told_upto (drop i asked) now (inr full))

  pub continued_all : (asked : List X) (begun now : List ℕ) (i : ℕ) → IsContinued asked begun i now → length asked ≤ i → IsTelling asked begun now
  continued_all asked begun now i on all = on now (told_upto (drop i asked) now (inl (drop_all i asked all)))

  -- after a front of two bytes that answers, since at least one entry is told
  pub telling_answers : (asked : List X) (begun reply : List ℕ) → length begun ≡ 2 → IsTelling asked begun reply → (told : List (X × Y))
      × TellsFirst P asked told × (reply ≡ begun ++ flat_map bytes told)
  telling_answers asked begun reply two t = (t.fits.0, (t.fits.1, t.fits.2, some, t.holds), t.fits.3)
    where
      some : asked ≢ [] → t.fits.0 ≢ []
      some asks none = by t.fits.5
        where
          by : (t.fits.1 ≡ []) ⊎ IsFull most reply → ⊥
          by (inl nothing) = asks (t.fits.2 ∙ ap (λ ts. map (λ t. t.0) ts ++ t.fits.1) none ∙ nothing)
          by (inr full) = absurd (omega (arith, full, two, ap length (t.fits.3 ∙ ap (λ ts. begun ++ flat_map bytes ts) none ∙ append-nil begun)))
