-- The entries of a list, and what stands in front of them.
use Rattle.std.proofs.Common.{◌≡◌, refl, Bool, true, false, not, ◌&&◌, ℕ, ◌-◌, ◌+◌, ◌<◌, ◌≤◌, ◌^◌, List, [], ◌∷◌, ◌++◌, length, get_or, subst, drop, sym, ap, ◌∙◌, arith}
use Rattle.std.specs.List.{AllByRecursion, flat_map}
use Rattle.std.proofs.lemmas.List.{append_assoc, length-append, drop_at}
use Rattle.key_order.proofs.ListParts.{join_tells}
use Rattle.c_trees.specs.Spots.{AreEntries, IsList, IsParts, IsTwo, EntryParts, gap_len, list_mark, two_part_entry, two_bytes}
use Rattle.c_values.specs.Lists.{marked_list, number_bytes, sized_bytes}
use Rattle.c_trees.proofs.Lists.{list_length, same_body}
use Rattle.c_trees.proofs.Ranges.{one_digest, some_digest}
use Rattle.c_values.proofs.Strings.{one_row, row_length, some_row}

-- the two parts of an entry are read in one way
pub one_two : (plain : Bool) (x y : List ℕ × List ℕ) (r s : List ℕ) → IsTwo plain x → IsTwo plain y → length (two_bytes plain x ++ r) < 2 ^ 64
    → two_bytes plain x ++ r ≡ two_bytes plain y ++ s → (x ≡ y) × (r ≡ s)
one_two true x y r s p q = one_digest x y r s (p refl) (q refl)
one_two false x y r s p q = one_row x y r s

some_two : (plain : Bool) (x : List ℕ × List ℕ) → 1 ≤ length (two_bytes plain x)
some_two true x = some_digest x
some_two false x = some_row x

pub two_length : (plain : Bool) (x : List ℕ × List ℕ) (rest : List ℕ) → length (two_bytes plain x ++ rest) ≡ 8 + length x.0 + gap_len plain + length x.1 + length rest
two_length true x rest =
    omega (arith, length-append (sized_bytes x.0 ++ x.1) rest, length-append (sized_bytes x.0) x.1, length-append (number_bytes (length x.0)) x.0)
two_length false x rest = omega (arith, row_length x rest)

-- an entry as its two parts, and its digest with what is after
pub parts_flat : (plain : Bool) (e : EntryParts) (rest : List ℕ) → two_part_entry plain e ++ rest ≡ two_bytes plain e.0 ++ (e.1 ++ rest)
parts_flat plain e rest = append_assoc (two_bytes plain e.0) e.1 rest

-- an entry tells where it ends, and has some bytes
pub parts_end : (plain hashed : Bool) (e f : EntryParts) (r s : List ℕ) → IsParts plain hashed e → IsParts plain hashed f → length (two_part_entry plain e ++ r) < 2 ^ 64
    → two_part_entry plain e ++ r ≡ two_part_entry plain f ++ s → r ≡ s
parts_end plain hashed e f r s p q fits is =
    let at = parts_flat plain e r in
    let both = one_two plain e.0 f.0 (e.1 ++ r) (f.1 ++ s) p.0 q.0 (omega (arith, ap length at)) (sym at ∙ is ∙ parts_flat plain f s) in
    (join_tells e.1 f.1 r s (p.1 ∙ sym q.1) both.1).1

some_parts : (plain : Bool) (e : EntryParts) → 1 ≤ length (two_part_entry plain e)
some_parts plain e = omega (arith, some_two plain e.0, length-append (two_bytes plain e.0) e.1)

mark_length : (rows digests : Bool) → length (list_mark rows digests) ≡ 4
mark_length true true = refl
mark_length true false = refl
mark_length false true = refl
mark_length false false = refl

one_mark : (rows b c : Bool) → list_mark rows b ≡ list_mark rows c → b ≡ c
one_mark rows true true e = refl
one_mark true true false e = absurd (omega (arith, ap (λ bytes. get_or bytes 3 0) e))
one_mark true false true e = absurd (omega (arith, ap (λ bytes. get_or bytes 3 0) e))
one_mark false true false e = absurd (omega (arith, ap (λ bytes. get_or bytes 3 0) e))
one_mark false false true e = absurd (omega (arith, ap (λ bytes. get_or bytes 3 0) e))
one_mark rows false false e = refl

module _ (rows : Bool) (list : List ℕ) (b : Bool) (m : ℕ) (body : List ℕ) (e : list ≡ list_mark rows b ++ (number_bytes m ++ body)) where
  -- the entries are after the mark and the number, which are 12 bytes
  pub body_at : length list - length body ≡ 12
  body_at = omega (arith, ap length e, list_length (list_mark rows b) m body, mark_length rows b)

  pub body_behind : drop (length list - length body) list ≡ body
  body_behind =
      let front = list_mark rows b ++ number_bytes m in
      let whole = e ∙ sym (append_assoc (list_mark rows b) (number_bytes m) body) in
      let size : length front ≡ length list - length body = omega (arith, ap length whole, length-append front body) in
      ap (drop (length list - length body)) whole ∙ drop_at front body (length list - length body) size

  -- the mark tells which kind of list it is
  pub one_kind : (c : Bool) (n : ℕ) (other : List ℕ) → list ≡ list_mark rows c ++ (number_bytes n ++ other) → b ≡ c
  one_kind c n other f = one_mark rows b c
      (join_tells (list_mark rows b) (list_mark rows c) (number_bytes m ++ body) (number_bytes n ++ other) (mark_length rows b ∙ sym (mark_length rows c)) (sym e ∙ f)).0

  -- what is in front of the entries is read in one way
  pub one_front : m < 2 ^ 64 → length list < 2 ^ 64 → IsList rows list → AreEntries (rows && b) (not rows && b) m body
  one_front fits short are =
      let kind = one_kind are.0 are.1 are.2 are.3 in let es = are.4 in
      let spelled : list ≡ marked_list (list_mark rows b) (two_part_entry (rows && b)) es.0 =
      are.3 ∙ (λ i. list_mark rows (sym kind i) ++ (number_bytes (sym es.1 i) ++ (es.3 ∙ ap (λ k. flat_map (two_part_entry (rows && k)) es.0) (sym kind)) i)) in
      let both = same_body (two_part_entry (rows && b)) (some_parts (rows && b)) (list_mark rows b) m body list es.0 fits short e spelled in
      (es.0, sym both.0, subst (λ k. AllByRecursion (IsParts (rows && k) (not rows && k)) es.0) (sym kind) es.2, both.1)

-- entries that have bytes have a first one
pub first_parts : (plain hashed : Bool) (count : ℕ) (bytes : List ℕ) → AreEntries plain hashed count bytes → ¬ (length bytes ≡ 0)
    → (e : EntryParts) × (rest : List ℕ) × IsParts plain hashed e × (bytes ≡ two_part_entry plain e ++ rest)
first_parts plain hashed count bytes are some = first are.0 are.2 are.3
  where
    first : (es : List EntryParts) → AllByRecursion (IsParts plain hashed) es → bytes ≡ flat_map (two_part_entry plain) es → (e : EntryParts) × (rest : List ℕ)
        × IsParts plain hashed e × (bytes ≡ two_part_entry plain e ++ rest)
    first [] a e = absurd (some (ap length e))
    first (x ∷ xs) a e = (x, flat_map (two_part_entry plain) xs, a.0, e)
