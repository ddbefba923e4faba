-- What came for the first of what was asked for, entry by entry.
use Rattle.std.proofs.Common.{◌≡◌, ◌≢◌, ℕ, ◌≤◌, List, [], ◌∷◌, ◌++◌, length, map, refl, ap, sym, ◌∙◌, append_assoc, append-nil}
use Rattle.std.specs.List.{AllByRecursion, flat_map}
use Rattle.std.proofs.lemmas.List.{map-append}
use Rattle.std.proofs.lemmas.Grind.{flat_map-append}
use Rattle.key_order.proofs.ListParts.{each-append}
use Rattle.merkle_wire.specs.Coming.{EntriesCome}
use Rattle.merkle_wire.specs.Fit.{Says}
use Rattle.merkle_wire.specs.Messages.{front}
use Rattle.merkle_wire.specs.declared.message.Kind.{Kind}
use Rattle.merkle_wire.proofs.Fronts.{front_told}
use Rattle.merkle_wire.proofs.LeftToAsk.{none_before}
use Rattle.merkle_wire.proofs.Others.{none_left, none_next, says_nothing}

module _ {X Y : Type 0} (kind : Kind) (bytes : X × Y → List ℕ) (P : X → Y → Type 0) (reply : List ℕ) where
  -- of those of what was asked for that were looked at these entries came, and once no byte is left, nothing came for the others
  pub record AreRead (asked others : List X) (left : List ℕ) (told : List (X × Y)) : Type 0 where
    pub of : asked ≡ map (λ t. t.0) told ++ others
    pub once : others ≢ [] → left ≡ []
    pub each : AllByRecursion (λ t. P t.0 t.1) told
    pub is : reply ≡ front kind ++ (flat_map bytes told ++ left)

  module _ (asked others : List X) (left : List ℕ) (told : List (X × Y)) (r : AreRead asked others left told) where
    -- nothing came for one more
    pub none_more : (x : X) → left ≡ [] → AreRead (asked ++ x ∷ []) (others ++ x ∷ []) left told
    none_more x none = record {
      of = ap (λ t. t ++ x ∷ []) r.of ∙ append_assoc (map (λ t. t.0) told) others (x ∷ []);
      once = λ _. none;
      each = r.each;
      is = r.is;
    }

    -- while bytes are left, there are no others
    pub no_others : left ≢ [] → others ≡ []
    no_others = none_before others left r.once

    of_told : left ≢ [] → map (λ t. t.0) told ≡ asked
    of_told some = sym (append-nil (map (λ t. t.0) told)) ∙ ap (λ l. map (λ t. t.0) told ++ l) (sym (no_others some)) ∙ sym r.of

    -- one more entry came
    pub read_more : (x : X) (y : Y) (new : List ℕ) → left ≢ [] → P x y → left ≡ bytes (x, y) ++ new → AreRead (asked ++ x ∷ []) others new (told ++ (x, y) ∷ [])
    read_more x y new some p put =
        let none = no_others some in
        let more = map-append (λ (t : X × Y). t.0) told ((x, y) ∷ []) in
        record {
          of = ap (λ t. t ++ x ∷ []) (sym (of_told some)) ∙ sym more ∙ sym (append-nil (map (λ t. t.0) (told ++ (x, y) ∷ []))) ∙ ap (λ l. map (λ t. t.0) (told ++ (x, y) ∷ []) ++ l) (sym none);
          once = λ any. absurd (any none);
          each = each-append (λ (t : X × Y). P t.0 t.1) told ((x, y) ∷ []) r.each (p, tt);
          is = r.is ∙ ap (λ t. front kind ++ t)
              (ap (λ t. flat_map bytes told ++ t) (put ∙ ap (λ b. b ++ new) (sym (append-nil (bytes (x, y))))) ∙ sym (append_assoc (flat_map bytes told) (bytes (x, y) ++ []) new)
              ∙ ap (λ t. t ++ new) (sym (flat_map-append bytes told ((x, y) ∷ []))));
        }

    -- all that was asked for was looked at, and all bytes were read
    pub all_came : (whole : List X) (begun : List ℕ) (Q : List (X × Y) → Type 0) → asked ≡ whole → reply ≡ front kind ++ begun → begun ≢ [] → left ≡ [] → Q told
        → EntriesCome kind bytes P Q whole reply others
    all_came whole begun Q done read some none so =
        let all = r.is ∙ ap (λ t. front kind ++ (flat_map bytes told ++ t)) none ∙ ap (λ t. front kind ++ t) (append-nil (flat_map bytes told)) in
        (told, all, (λ e. some ((front_told kind kind begun (flat_map bytes told) (sym read ∙ all)).1 ∙ ap (flat_map bytes) e)), sym done ∙ r.of, r.each, so)

    module _ (R : X → Y → Type 0) (some : (t : X × Y) → 1 ≤ length (bytes t)) (ends : (x : X) (y z : Y) (r s : List ℕ) → P x y → R x z → bytes (x, y) ++ r ≡ bytes (x, z) ++ s → r ≡ s)
        (whole : List X) (more : left ≢ []) where
      -- a reply says nothing where the next entry isn't there
      pub says_no_next : (x : X) (behind : List X) → asked ++ x ∷ behind ≡ whole → ((y : Y) (rest : List ℕ) → R x y → left ≢ bytes (x, y) ++ rest) → ¬ Says kind bytes R whole reply
      says_no_next x behind all none =
          says_nothing R kind whole reply bytes (flat_map bytes told ++ left) r.is
          (none_next bytes (λ t. P t.0 t.1) (λ t. R t.0 t.1) some ends told whole (flat_map bytes told ++ left) left r.each refl more
          x behind (ap (λ t. t ++ x ∷ behind) (of_told more) ∙ all) none)

      -- nor where bytes are left after all
      pub says_more : asked ≡ whole → ¬ Says kind bytes R whole reply
      says_more done =
          says_nothing R kind whole reply bytes (flat_map bytes told ++ left) r.is
          (none_left bytes (λ t. P t.0 t.1) (λ t. R t.0 t.1) some ends told whole (flat_map bytes told ++ left) left r.each refl more (of_told more ∙ done))
