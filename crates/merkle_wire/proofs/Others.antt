-- What else bytes could say of which the first entries were read: nothing, where the next entry isn't there, or where more is after the last.
use Rattle.std.specs.Prelude.{⊤}
use Rattle.std.proofs.Common.{◌≡◌, ◌≢◌, ℕ, ◌≤◌, List, [], ◌∷◌, ◌++◌, append_assoc, append-nil, length, map, refl, sym, ap, subst, ◌∙◌, arith}
use Rattle.std.proofs.lemmas.List.{length-append}
use Rattle.std.specs.List.{AllByRecursion, flat_map}
use Rattle.merkle_wire.specs.Fit.{Says}
use Rattle.merkle_wire.specs.Messages.{front}
use Rattle.merkle_wire.specs.declared.message.Kind.{Kind}
use Rattle.merkle_wire.proofs.Fronts.{front_told}

module _ {X Y : Type 0} (bytes : X × Y → List ℕ) (P Q : X × Y → Type 0) (some : (t : X × Y) → 1 ≤ length (bytes t))
    (ends : (x : X) (y z : Y) (r s : List ℕ) → P (x, y) → Q (x, z) → bytes (x, y) ++ r ≡ bytes (x, z) ++ s → r ≡ s) where
  -- entries after those that were read, to the end of the bytes
  record Others (left others : List X) (rest : List ℕ) : Type 0 where
    pub told : List (X × Y)
    pub begins : left ≡ map (λ t. t.0) told ++ others
    pub each : AllByRecursion Q told
    pub is : rest ≡ flat_map bytes told

  others_behind : (ts us : List (X × Y)) (left others : List X) (rest : List ℕ) → map (λ t. t.0) ts ++ left ≡ map (λ t. t.0) us ++ others → AllByRecursion P ts → AllByRecursion Q us
      → flat_map bytes ts ++ rest ≡ flat_map bytes us → Others left others rest
  others_behind [] us left others rest e p q f = record { told = us; begins = e; each = q; is = f }
  others_behind (t ∷ ts) [] left others rest e p q f = absurd (omega (arith, ap length f, some t, length-append (bytes t) (flat_map bytes ts), length-append (bytes t ++ flat_map bytes ts) rest))
  others_behind (t ∷ ts) (u ∷ us) left others rest e p q f =
      let first : t.0 ≡ u.0 = cc in
      let behind : map (λ t. t.0) ts ++ left ≡ map (λ t. t.0) us ++ others = cc in
      let after = ends t.0 t.1 u.1 (flat_map bytes ts ++ rest) (flat_map bytes us) p.0 (subst (λ x. Q (x, u.1)) (sym first) q.0)
      (sym (append_assoc (bytes t) (flat_map bytes ts) rest) ∙ f ∙ ap (λ x. bytes (x, u.1) ++ flat_map bytes us) (sym first)) in
      others_behind ts us left others rest behind p.1 q.1 after

  module _ (ts : List (X × Y)) (asked : List X) (begun rest : List ℕ) (p : AllByRecursion P ts) (read : begun ≡ flat_map bytes ts ++ rest) (more : rest ≢ []) where
    -- nothing is said where the next entry isn't there
    pub none_next : (x : X) (left : List X) → map (λ t. t.0) ts ++ x ∷ left ≡ asked → ((y : Y) (behind : List ℕ) → Q (x, y) → rest ≢ bytes (x, y) ++ behind)
        → (us : List (X × Y)) (others : List X) → asked ≡ map (λ t. t.0) us ++ others → AllByRecursion Q us → begun ≢ flat_map bytes us
    none_next x left all none us others begins each e = let o = others_behind ts us (x ∷ left) others rest (all ∙ begins) p each (sym read ∙ e) in go o.told o.begins o.each o.is
      where
        go : (vs : List (X × Y)) → x ∷ left ≡ map (λ t. t.0) vs ++ others → AllByRecursion Q vs → rest ≡ flat_map bytes vs → ⊥
        go [] b q f = more f
        go (v ∷ vs) b q f =
            let first : x ≡ v.0 = cc in
            none v.1 (flat_map bytes vs) (subst (λ z. Q (z, v.1)) (sym first) q.0) (f ∙ ap (λ z. bytes (z, v.1) ++ flat_map bytes vs) (sym first))

    -- nor where all were read
    pub none_left : map (λ t. t.0) ts ≡ asked → (us : List (X × Y)) (others : List X) → asked ≡ map (λ t. t.0) us ++ others → AllByRecursion Q us → begun ≢ flat_map bytes us
    none_left all us others begins each e = let o = others_behind ts us [] others rest (append-nil (map (λ t. t.0) ts) ∙ all ∙ begins) p each (sym read ∙ e) in go o.told o.begins o.is
      where
        go : (vs : List (X × Y)) → [] ≡ map (λ t. t.0) vs ++ others → rest ≡ flat_map bytes vs → ⊥
        go [] b f = more f
        go (v ∷ vs) b f = absurd (cc)

-- of each entry holds what holds of all
pub all_told : {X : Type 0} (xs : List X) → AllByRecursion (λ x. ⊤) xs
all_told [] = tt
all_told (x ∷ xs) = (tt, all_told xs)

module _ {X Y : Type 0} (P : X → Y → Type 0) (kind : Kind) (asked : List X) (reply : List ℕ) where
  -- what stands after the front of a reply is what it says
  pub says_nothing : (bytes : X × Y → List ℕ) (left : List ℕ) → reply ≡ front kind ++ left
      → ((us : List (X × Y)) (others : List X) → asked ≡ map (λ t. t.0) us ++ others → AllByRecursion (λ t. P t.0 t.1) us → left ≢ flat_map bytes us) → ¬ Says kind bytes P asked reply
  says_nothing bytes left read none (others, (told, is, some, begins, each, all)) = none told others begins each (front_told kind kind left (flat_map bytes told) (sym read ∙ is)).1

  -- a reply without an entry says nothing
  pub says_no_entry : (bytes : X × Y → List ℕ) → ((t : X × Y) → 1 ≤ length (bytes t)) → ((rest : List ℕ) → rest ≢ [] → reply ≢ front kind ++ rest) → ¬ Says kind bytes P asked reply
  says_no_entry bytes some none (others, (told, is, any, begins, each, all)) = none (flat_map bytes told) (not_all told any) is
    where
      not_all : (us : List (X × Y)) → us ≢ [] → flat_map bytes us ≢ []
      not_all [] is f = is refl
      not_all (u ∷ us) is f = absurd (omega (arith, ap length f, some u, length-append (bytes u) (flat_map bytes us)))
