-- Bytes tell a reply, up to equal keys and equal values.
use Rattle.std.specs.Prelude.{⊤, cond, false}
use Rattle.std.proofs.Common.{◌≡◌, ℕ, suc, ◌<◌, ◌≤◌, Bool, true, List, [], ◌∷◌, ◌++◌, append_assoc, length, map, Option, Some, None, refl, sym, ap, ◌∙◌, arith}
use Rattle.std.proofs.lemmas.List.{length-append}
use Rattle.std.specs.List.{AllByRecursion, flat_map, AllZip}
use Rattle.std.specs.declared.cmp.Ordering.{Ordering}
use Rattle.key_order.specs.Map.{SameMap}
use Rattle.key_order.specs.Order.{Same}
use Rattle.key_order.proofs.SameKeys.{SameKeys}
use Rattle.key_order.proofs.ListParts.{join_tells}
use Rattle.merkle_bytes.specs.Keys.{key_behind}
use Rattle.merkle_bytes.specs.Options.{option_bytes}
use Rattle.merkle_bytes.specs.RunTelling.{behind_told}
use Rattle.merkle_bytes.specs.Runs.{bound_key, run_bytes, row_behind, row_key}
use Rattle.merkle_bytes.proofs.Listed.{run_told}
use Rattle.merkle_wire.specs.Coming.{IsPageDigest}
use Rattle.merkle_wire.specs.Outlines.{Outline, rows_told, digests_told, page_told, keys_among, keys_told, pages_bytes, outline_bytes}
use Rattle.merkle_wire.specs.Replies.{Part, part_bytes, outline_over_bytes, part_in_bytes, value_at_bytes}
use Rattle.merkle_wire.specs.declared.gaps.OwnedGap.{OwnedGap}
use Rattle.merkle_wire.specs.declared.wanted.Wanted.{Wanted}

-- what was told of the first of one list is what was told of the first of another
module _ {X Y : Type 0} (bytes : X × Y → List ℕ) (E : X → X → Type 0) (P Q : X × Y → Type 0) (F : X × Y → X × Y → Type 0) (some : (t : X × Y) → 1 ≤ length (bytes t))
    (told : (t u : X × Y) (r s : List ℕ) → E t.0 u.0 → P t → Q u → bytes t ++ r ≡ bytes u ++ s → F t u × (r ≡ s)) where
  pub told_alike : (ts us : List (X × Y)) (l m : List X) → AllZip E (map (λ t. t.0) ts ++ l) (map (λ t. t.0) us ++ m) → AllByRecursion P ts → AllByRecursion Q us
      → flat_map bytes ts ≡ flat_map bytes us
      → AllZip (λ t u. E t.0 u.0 × F t u) ts us
  told_alike [] [] l m s p q e = tt
  told_alike [] (u ∷ us) l m s p q e = absurd (omega (arith, ap length e, some u, length-append (bytes u) (flat_map bytes us)))
  told_alike (t ∷ ts) [] l m s p q e = absurd (omega (arith, ap length e, some t, length-append (bytes t) (flat_map bytes ts)))
  told_alike (t ∷ ts) (u ∷ us) l m s p q e =
      let (first, rest) = told t u (flat_map bytes ts) (flat_map bytes us) s.0 p.0 q.0 e in
      ((s.0, first), told_alike ts us l m s.1 p.1 q.1 rest)

-- how many bytes digests have, and that a page has a digest or none before each node and after the last
abbrev pub Fits : {K V : Type 0} → ℕ → Outline K V → Type 0
Fits n (rows_told rows) = ⊤
Fits n (digests_told nodes) = AllByRecursion (λ d. length d.1 ≡ n) nodes
Fits n (page_told digest keys pages) = (length digest ≡ 16) × (length pages ≡ suc (length keys)) × AllByRecursion IsPageDigest pages

-- bytes tell the digest of a page that they begin with
pub page_tells : (p q : Option (List ℕ)) (r s : List ℕ) → IsPageDigest p → IsPageDigest q → option_bytes (λ d. d) p ++ r ≡ option_bytes (λ d. d) q ++ s → (p ≡ q) × (r ≡ s)
page_tells None None r s a b e = let flat : 0 ∷ r ≡ 0 ∷ s = e in (refl, cc)
page_tells None (Some d) r s a b e = absurd (let flat : 0 ∷ r ≡ 1 ∷ (d ++ s) = e in cc)
page_tells (Some c) None r s a b e = absurd (let flat : 1 ∷ (c ++ r) ≡ 0 ∷ s = e in cc)
page_tells (Some c) (Some d) r s a b e =
    let flat : 1 ∷ (c ++ r) ≡ 1 ∷ (d ++ s) = e in
    let both = join_tells c d r s (a ∙ sym b) (let f : c ++ r ≡ d ++ s = cc in f) in
    (ap (λ x. Some x) both.0, both.1)

pages_tell : (ps qs : List (Option (List ℕ))) (r s : List ℕ) → length ps ≡ length qs → AllByRecursion IsPageDigest ps → AllByRecursion IsPageDigest qs
    → pages_bytes ps ++ r ≡ pages_bytes qs ++ s → (ps ≡ qs) × (r ≡ s)
pages_tell [] [] r s n a b e = (refl, e)
pages_tell [] (q ∷ qs) r s n a b e = absurd (omega (arith, n))
pages_tell (p ∷ ps) [] r s n a b e = absurd (omega (arith, n))
pages_tell (p ∷ ps) (q ∷ qs) r s n a b e =
    let (first, more) = page_tells p q (pages_bytes ps ++ r) (pages_bytes qs ++ s) a.0 b.0
    (sym (append_assoc (option_bytes (λ d. d) p) (pages_bytes ps) r) ∙ e ∙ append_assoc (option_bytes (λ d. d) q) (pages_bytes qs) s) in
    let (rest, f) = pages_tell ps qs r s (omega (arith, n)) a.1 b.1 more in
    (λ i. first i ∷ rest i, f)

-- after digests of pages there is another where others have more
pub pages_begin : (ps qs : List (Option (List ℕ))) (r s : List ℕ) → AllByRecursion IsPageDigest ps → AllByRecursion IsPageDigest qs → length ps < length qs → pages_bytes ps ++ r ≡ pages_bytes qs ++ s
    → (page : Option (List ℕ)) × (behind : List ℕ) × IsPageDigest page × (r ≡ option_bytes (λ d. d) page ++ behind)
pages_begin ps [] r s a b n e = absurd (omega (arith, n))
pages_begin [] (q ∷ qs) r s a b n e = (q, pages_bytes qs ++ s, b.0, e ∙ append_assoc (option_bytes (λ d. d) q) (pages_bytes qs) s)
pages_begin (p ∷ ps) (q ∷ qs) r s a b n e =
    pages_begin ps qs r s a.1 b.1 (omega (arith, n))
    (page_tells p q (pages_bytes ps ++ r) (pages_bytes qs ++ s) a.0 b.0
    (sym (append_assoc (option_bytes (λ d. d) p) (pages_bytes ps) r) ∙ e ∙ append_assoc (option_bytes (λ d. d) q) (pages_bytes qs) s)).1

-- after digests of n bytes there are as many where others have more
pub digests_begin : (n : ℕ) (cs ds : List (List ℕ)) (r s : List ℕ) → AllByRecursion (λ d. length d ≡ n) cs → AllByRecursion (λ d. length d ≡ n) ds → length cs < length ds
    → flat_map (λ d. d) cs ++ r ≡ flat_map (λ d. d) ds ++ s → n ≤ length r
digests_begin n cs [] r s a b l e = absurd (omega (arith, l))
digests_begin n [] (d ∷ ds) r s a b l e = omega (arith, b.0, ap length e, length-append (d ++ flat_map (λ d. d) ds) s, length-append d (flat_map (λ d. d) ds))
digests_begin n (c ∷ cs) (d ∷ ds) r s a b l e =
    digests_begin n cs ds r s a.1 b.1 (omega (arith, l))
    (join_tells c d (flat_map (λ d. d) cs ++ r) (flat_map (λ d. d) ds ++ s) (a.0 ∙ sym b.0) (sym (append_assoc c (flat_map (λ d. d) cs) r) ∙ e ∙ append_assoc d (flat_map (λ d. d) ds) s)).1

module _ {K V : Type 0} (cmp : K → K → Ordering) (eq : V → V → Bool) where
  -- equal rows
  abbrev pub SameRow : K × V → K × V → Type 0
  SameRow a b = Same cmp a.0 b.0 × (eq a.1 b.1 ≡ true)

  -- what was told of a page, up to equal keys and equal values
  abbrev pub SameOutline : Outline K V → Outline K V → Type 0
  SameOutline (rows_told js) (rows_told bs) = AllZip SameRow js bs
  SameOutline (digests_told js) (digests_told bs) = SameMap cmp (λ d e. d ≡ e) js bs
  SameOutline (page_told c js ps) (page_told d bs qs) = (c ≡ d) × SameKeys cmp js bs × (ps ≡ qs)
  SameOutline x y = ⊥

  -- the first parts of rows, up to equal keys and equal values
  abbrev pub SamePart : Part K V → Part K V → Type 0
  SamePart a b = AllZip SameRow a.rows b.rows × (a.whole ≡ b.whole)

  -- values, each where there is one
  abbrev pub SameFound : Option V → Option V → Type 0
  SameFound None None = ⊤
  SameFound None (Some b) = ⊥
  SameFound (Some a) None = ⊥
  SameFound (Some a) (Some b) = eq a b ≡ true

module _ {K : Type 0} (cmp : K → K → Ordering) where
  same_keys : (js bs : List K) → AllZip (Same cmp) js bs → SameKeys cmp js bs
  same_keys [] [] s = tt
  same_keys [] (b ∷ bs) s = absurd s
  same_keys (a ∷ js) [] s = absurd s
  same_keys (a ∷ js) (b ∷ bs) s = (s.0, same_keys js bs s.1)

  pub same_length : (js bs : List K) → AllZip (Same cmp) js bs → length js ≡ length bs
  same_length [] [] s = refl
  same_length [] (b ∷ bs) s = absurd s
  same_length (a ∷ js) [] s = absurd s
  same_length (a ∷ js) (b ∷ bs) s = ap suc (same_length js bs s.1)

  module _ (encoding : K → List ℕ) (tells : (x y : K) → encoding x ≡ encoding y → Same cmp x y) where
    key_tells : (last : List ℕ) (a b : K) (r s : List ℕ) → key_behind last (encoding a) ++ r ≡ key_behind last (encoding b) ++ s → Same cmp a b × (encoding a ≡ encoding b) × (r ≡ s)
    key_tells last a b r s e = let both = behind_told last (encoding a) (encoding b) r s e in (tells a b both.0, both.0, both.1)

    pub keys_tell : (last : List ℕ) (js bs : List K) (r s : List ℕ) → keys_told encoding last js ++ r ≡ keys_told encoding last bs ++ s → AllZip (Same cmp) js bs × (r ≡ s)
    keys_tell last js bs r s e = let told = run_told (λ l k. key_behind l (encoding k)) (λ l k. encoding k) (Same cmp) key_tells last js bs r s e in (told.0, told.2)

module _ {K V : Type 0} (cmp : K → K → Ordering) (eq : V → V → Bool) (encoding : K → List ℕ) (values : V → List ℕ)
    (tells : (x y : K) → encoding x ≡ encoding y → Same cmp x y) (tell_value : (x y : V) (r s : List ℕ) → values x ++ r ≡ values y ++ s → (eq x y ≡ true) × (r ≡ s)) where
  row_tells : (last : List ℕ) (a b : K × V) (r s : List ℕ) → row_behind encoding values last a ++ r ≡ row_behind encoding values last b ++ s → (SameRow cmp eq) a b
      × (encoding a.0 ≡ encoding b.0) × (r ≡ s)
  row_tells last a b r s e =
      let keys = behind_told last (encoding a.0) (encoding b.0) (values a.1 ++ r) (values b.1 ++ s)
      (sym (append_assoc (key_behind last (encoding a.0)) (values a.1) r) ∙ e ∙ append_assoc (key_behind last (encoding b.0)) (values b.1) s) in
      let rest = tell_value a.1 b.1 r s keys.1 in
      ((tells a.0 b.0 keys.0, rest.0), keys.0, rest.1)

  pub rows_tell : (last : List ℕ) (js bs : List (K × V)) (r s : List ℕ) → run_bytes (row_behind encoding values) (row_key encoding) last js ++ r ≡ run_bytes
      (row_behind encoding values) (row_key encoding) last bs ++ s
      → AllZip (SameRow cmp eq) js bs × (r ≡ s)
  rows_tell last js bs r s e = let told = run_told (row_behind encoding values) (row_key encoding) (SameRow cmp eq) row_tells last js bs r s e in (told.0, told.2)

  -- nodes with equal keys and digests of n bytes
  digests_tell : (n : ℕ) (js bs : List (K × List ℕ)) (r s : List ℕ) → AllZip (Same cmp) (keys_among js) (keys_among bs) → AllByRecursion (λ d. length d.1 ≡ n) js
      → AllByRecursion (λ d. length d.1 ≡ n) bs
      → flat_map (λ p. p.1) js ++ r ≡ flat_map (λ p. p.1) bs ++ s → SameMap cmp (λ d e. d ≡ e) js bs × (r ≡ s)
  digests_tell n [] [] r s k a b e = (tt, e)
  digests_tell n [] (y ∷ bs) r s k a b e = absurd k
  digests_tell n (x ∷ js) [] r s k a b e = absurd k
  digests_tell n (x ∷ js) (y ∷ bs) r s k a b e =
      let (first, more) = join_tells x.1 y.1 (flat_map (λ p. p.1) js ++ r) (flat_map (λ p. p.1) bs ++ s) (a.0 ∙ sym b.0)
      (sym (append_assoc x.1 (flat_map (λ p. p.1) js) r) ∙ e ∙ append_assoc y.1 (flat_map (λ p. p.1) bs) s) in
      let (rest, f) = digests_tell n js bs r s k.1 a.1 b.1 more in
      ((k.0, first, rest), f)

  first_byte : (a b : ℕ) (r s : List ℕ) → a ∷ r ≡ b ∷ s → (a ≡ b) × (r ≡ s)
  first_byte a b r s e = (cc, cc)

  pub outline_tells : (n : ℕ) (last : List ℕ) (x y : Outline K V) (r s : List ℕ) → Fits n x → Fits n y
      → outline_bytes encoding values last x ++ r ≡ outline_bytes encoding values last y ++ s → (SameOutline cmp eq) x y × (r ≡ s)
  outline_tells n last (rows_told js) (rows_told bs) r s f g e =
      let run = run_bytes (row_behind encoding values) (row_key encoding) last in
      rows_tell last js bs r s (first_byte 0 0 (run js ++ r) (run bs ++ s) e).1
  outline_tells n last (digests_told js) (digests_told bs) r s f g e =
      let digests : List (K × List ℕ) → List ℕ = flat_map (λ p. p.1) in
      let keys = keys_told encoding last in
      let flat = (first_byte 1 1 ((keys (keys_among js) ++ digests js) ++ r) ((keys (keys_among bs) ++ digests bs) ++ s) e).1 in
      let (same, rest) = keys_tell cmp encoding tells last (keys_among js) (keys_among bs) (digests js ++ r) (digests bs ++ s)
      (sym (append_assoc (keys (keys_among js)) (digests js) r) ∙ flat ∙ append_assoc (keys (keys_among bs)) (digests bs) s) in
      digests_tell n js bs r s same f g rest
  outline_tells n last (page_told c js ps) (page_told d bs qs) r s f g e =
      let keys = keys_told encoding last in
      let flat = (first_byte 2 2 ((c ++ (keys js ++ pages_bytes ps)) ++ r) ((d ++ (keys bs ++ pages_bytes qs)) ++ s) e).1 in
      let (first, more) = join_tells c d ((keys js ++ pages_bytes ps) ++ r) ((keys bs ++ pages_bytes qs) ++ s) (f.0 ∙ sym g.0)
      (sym (append_assoc c (keys js ++ pages_bytes ps) r) ∙ flat ∙ append_assoc d (keys bs ++ pages_bytes qs) s) in
      let (same, rest) = keys_tell cmp encoding tells last js bs (pages_bytes ps ++ r) (pages_bytes qs ++ s)
      (sym (append_assoc (keys js) (pages_bytes ps) r) ∙ more ∙ append_assoc (keys bs) (pages_bytes qs) s) in
      let (pages, end) = pages_tell ps qs r s (f.1 ∙ ap suc (same_length cmp js bs same) ∙ sym g.1) f.2 g.2 rest in
      ((first, same_keys cmp js bs same, pages), end)
  outline_tells n last (rows_told js) (digests_told bs) r s f g e = absurd (omega (arith, (first_byte 0 1 _ _ e).0))
  outline_tells n last (rows_told js) (page_told d bs qs) r s f g e = absurd (omega (arith, (first_byte 0 2 _ _ e).0))
  outline_tells n last (digests_told js) (rows_told bs) r s f g e = absurd (omega (arith, (first_byte 1 0 _ _ e).0))
  outline_tells n last (digests_told js) (page_told d bs qs) r s f g e = absurd (omega (arith, (first_byte 1 2 _ _ e).0))
  outline_tells n last (page_told c js ps) (rows_told bs) r s f g e = absurd (omega (arith, (first_byte 2 0 _ _ e).0))
  outline_tells n last (page_told c js ps) (digests_told bs) r s f g e = absurd (omega (arith, (first_byte 2 1 _ _ e).0))

  pub outline_some : (last : List ℕ) (x : Outline K V) → 1 ≤ length (outline_bytes encoding values last x)
  outline_some last (rows_told js) = omega arith
  outline_some last (digests_told js) = omega arith
  outline_some last (page_told c js ps) = omega arith

  abbrev flag_byte : Bool → ℕ
  flag_byte b = cond b 1 0

  pub part_tells : (last : List ℕ) (a b : Part K V) (r s : List ℕ) → part_bytes encoding values last a ++ r ≡ part_bytes encoding values last b ++ s → (SamePart cmp eq) a b × (r ≡ s)
  part_tells last a b r s e =
      let run = run_bytes (row_behind encoding values) (row_key encoding) last in
      let (rows, rest) = rows_tell last a.rows b.rows (cond a.whole 1 0 ∷ r) (cond b.whole 1 0 ∷ s)
      (sym (append_assoc (run a.rows) (cond a.whole 1 0 ∷ []) r) ∙ e ∙ append_assoc (run b.rows) (cond b.whole 1 0 ∷ []) s) in
      let (flags, end) = first_byte (cond a.whole 1 0) (cond b.whole 1 0) r s rest in
      ((rows, flag a.whole b.whole flags), end)
    where
      flag : (x y : Bool) → flag_byte x ≡ flag_byte y → x ≡ y
      flag true true f = refl
      flag true false f = absurd (omega (arith, f))
      flag false true f = absurd (omega (arith, f))
      flag false false f = refl

  pub part_some : (last : List ℕ) (a : Part K V) → 1 ≤ length (part_bytes encoding values last a)
  part_some last a = omega (arith, length-append (run_bytes (row_behind encoding values) (row_key encoding) last a.rows) (cond a.whole 1 0 ∷ []))

  pub value_tells : (a b : Option V) (r s : List ℕ) → option_bytes values a ++ r ≡ option_bytes values b ++ s → (SameFound cmp eq) a b × (r ≡ s)
  value_tells None None r s e = (tt, (first_byte 0 0 r s e).1)
  value_tells None (Some b) r s e = absurd (omega (arith, (first_byte 0 1 r (values b ++ s) e).0))
  value_tells (Some a) None r s e = absurd (omega (arith, (first_byte 1 0 (values a ++ r) s e).0))
  value_tells (Some a) (Some b) r s e = tell_value a b r s (first_byte 1 1 (values a ++ r) (values b ++ s) e).1

  pub value_some : (a : Option V) → 1 ≤ length (option_bytes values a)
  value_some None = omega arith
  value_some (Some a) = omega arith

  -- replies to questions about the same gaps or keys
  module _ (E : OwnedGap K → OwnedGap K → Type 0) (after : (g h : OwnedGap K) → E g h → bound_key encoding [] g.after ≡ bound_key encoding [] h.after) where
    pub outlines_tell : (n : ℕ) (ts us : List (OwnedGap K × Outline K V)) (l m : List (OwnedGap K)) → AllZip E (map (λ t. t.0) ts ++ l) (map (λ t. t.0) us ++ m)
        → AllByRecursion (λ t. Fits n t.1) ts → AllByRecursion (λ t. Fits n t.1) us → flat_map (outline_over_bytes encoding values) ts ≡ flat_map (outline_over_bytes encoding values) us
        → AllZip (λ t u. E t.0 u.0 × (SameOutline cmp eq) t.1 u.1) ts us
    outlines_tell n = told_alike (λ t. outline_bytes encoding values (bound_key encoding [] t.0.after) t.1) E (λ t. Fits n t.1) (λ t. Fits n t.1) (λ t u. (SameOutline cmp eq) t.1 u.1)
        (λ t. outline_some (bound_key encoding [] t.0.after) t.1)
        (λ t u r s same f g e. outline_tells n (bound_key encoding [] t.0.after) t.1 u.1 r s f g (e ∙ ap (λ l. outline_bytes encoding values l u.1 ++ s) (sym (after t.0 u.0 same))))

    pub parts_tell : (ts us : List (OwnedGap K × Part K V)) (l m : List (OwnedGap K)) → AllZip E (map (λ t. t.0) ts ++ l) (map (λ t. t.0) us ++ m)
        → AllByRecursion (λ t. ⊤) ts → AllByRecursion (λ t. ⊤) us → flat_map (part_in_bytes encoding values) ts ≡ flat_map (part_in_bytes encoding values) us
        → AllZip (λ t u. E t.0 u.0 × (SamePart cmp eq) t.1 u.1) ts us
    parts_tell = told_alike (λ t. part_bytes encoding values (bound_key encoding [] t.0.after) t.1) E (λ t. ⊤) (λ t. ⊤) (λ t u. (SamePart cmp eq) t.1 u.1)
        (λ t. part_some (bound_key encoding [] t.0.after) t.1)
        (λ t u r s same f g e. part_tells (bound_key encoding [] t.0.after) t.1 u.1 r s (e ∙ ap (λ l. part_bytes encoding values l u.1 ++ s) (sym (after t.0 u.0 same))))

  pub values_tell : (E : Wanted K → Wanted K → Type 0) (ts us : List (Wanted K × Option V)) (l m : List (Wanted K)) → AllZip E (map (λ t. t.0) ts ++ l) (map (λ t. t.0) us ++ m)
      → AllByRecursion (λ t. ⊤) ts → AllByRecursion (λ t. ⊤) us → flat_map (value_at_bytes values) ts ≡ flat_map (value_at_bytes values) us
      → AllZip (λ t u. E t.0 u.0 × (SameFound cmp eq) t.1 u.1) ts us
  values_tell E = told_alike (λ t. option_bytes values t.1) E (λ t. ⊤) (λ t. ⊤) (λ t u. (SameFound cmp eq) t.1 u.1) (λ t. value_some t.1) (λ t u r s same f g e. value_tells t.1 u.1 r s e)
