-- Of entries that ascend, the last of each key.
use Rattle.std.proofs.Common.{◌≡◌, ℕ, ◌+◌, Bool, true, false, List, [], ◌∷◌, ◌++◌, get_or, reverse, Some, None, refl, sym, ap, subst, ◌∙◌, string_bytes, arith}
use Rattle.std.specs.Prelude.{nat_eq}
use Rattle.std.specs.Cmp.Lexicographic.{same_text, pointwise}
use Rattle.std.specs.List.{dedup, dedup_from}
use Rattle.std.specs.List.Sorted.{IsSorted}
use Rattle.std.specs.Ordering.{is_gt}
use Rattle.std.specs.declared.cmp.Ordering.TheVariants.{Less}
use Rattle.std.specs.String.{string_cmp_total}
use Rattle.std.proofs.lemmas.List.{reverse-append, reverse-reverse}
use Rattle.std.proofs.lemmas.List.Sorted.{IsPermutation-refl}
use Rattle.std.proofs.lemmas.List.Sums.{fold-append}
use Rattle.std.proofs.lemmas.Map.Text.{is_eq-slice_cmp}
use Rattle.key_order.specs.Text.{Text as Key, text_order}
use Rattle.key_order.proofs.Orders.{turned}
use Rattle.sqlite_trees.specs.Tree.{IsAscending}
use Rattle.sqlite_trees.proofs.ListLemmas.{ascending-get_or}
use Rattle.store_file.specs.declared.register.Register.{Register}
use Rattle.store_file.specs.Entries.{entry_order}
use Rattle.store_file.specs.Reading.{Groups, with_entry, groups_in, last_of}
use Rattle.store_file.specs.Registers.{register_order}
use Rattle.store_file.specs.Rows.{AreLatest, have_one_key}
use Rattle.store_file.specs.contracts.register.RegisterOrd.TheImpl.Laws.{total-law}
use Rattle.store_file.proofs.OrderOfEntries.{entry_order_total}
use Rattle.store_file.proofs.RowLemmas.{rows_ascend, rows_taken, rows_latest}

abbrev Entry : Type 0
Entry = Key × Register

-- one entry more is taken in last
pub grouped_more : (entries : List Entry) (entry : Entry) → groups_in (entries ++ entry ∷ []) ≡ with_entry (groups_in entries).0 (groups_in entries).1 entry
grouped_more entries entry = fold-append (λ (s : Groups) e. with_entry s.0 s.1 e) ([], None) entries (entry ∷ [])

-- rows of one key are told apart from others alike
alike : (a b : Entry) → have_one_key b a ≡ true → (x : Entry) → have_one_key x a ≡ have_one_key x b
alike a b same x = ap (λ (bytes : List ℕ). pointwise nat_eq (string_bytes x.0) bytes) (sym (same_text (string_bytes b.0) (string_bytes a.0) (sym same)))

tail_same : (x : Entry) (xs ys : List Entry) → x ∷ xs ≡ x ∷ ys → xs ≡ ys
tail_same x xs ys e = cc

-- what is after a row depends on its key alone
from_alike : (a b : Entry) → have_one_key b a ≡ true → (xs tail : List Entry) → dedup_from have_one_key b xs ≡ b ∷ tail → dedup_from have_one_key a xs ≡ a ∷ tail
from_alike a b same [] tail e = ap (λ l. a ∷ l) (tail_same b [] tail e)
from_alike a b same (x ∷ xs) tail e = step (have_one_key x a) (have_one_key x b) refl (sym (alike a b same x)) (from_alike a b same xs tail)
  where
    step : (p q : Bool) → have_one_key x a ≡ p → have_one_key x b ≡ p → (dedup_from have_one_key b xs ≡ b ∷ tail → dedup_from have_one_key a xs ≡ a ∷ tail)
        → dedup_from have_one_key a (x ∷ xs) ≡ a ∷ tail
    step true q h k more = rw h (more (rw k at e))
    step false q h k more = rw h (ap (λ l. a ∷ l) (tail_same b (dedup_from have_one_key x xs) tail (rw k at e)))

back : (x : Entry) (xs : List Entry) → reverse (x ∷ xs) ≡ reverse xs ++ x ∷ []
back x xs = reverse-append (x ∷ []) xs

-- what a reversed list keeps of each key, as groups
split : (zs : List Entry) (a : Entry) → (tail : List Entry) × (dedup_from have_one_key a zs ≡ a ∷ tail) × (groups_in (reverse (a ∷ zs)) ≡ (reverse tail, Some a))
split [] a = ([], refl, refl)
split (b ∷ zs) a = step (have_one_key b a) refl (split zs b)
  where
    step : (p : Bool) → have_one_key b a ≡ p → (tail : List Entry) × (dedup_from have_one_key b zs ≡ b ∷ tail) × (groups_in (reverse (b ∷ zs)) ≡ (reverse tail, Some b))
        → (tail : List Entry) × (dedup_from have_one_key a (b ∷ zs) ≡ a ∷ tail) × (groups_in (reverse (a ∷ b ∷ zs)) ≡ (reverse tail, Some a))
    step true h r =
        let all = ap groups_in (back a (b ∷ zs)) ∙ grouped_more (reverse (b ∷ zs)) a ∙ ap (λ (s : Groups). with_entry s.0 s.1 a) r.2 in
        (r.0, rw h (from_alike a b h zs r.0 r.1), all ∙ rw h refl)
    step false h r =
        let all = ap groups_in (back a (b ∷ zs)) ∙ grouped_more (reverse (b ∷ zs)) a ∙ ap (λ (s : Groups). with_entry s.0 s.1 a) r.2 in
        let turned_back = ap (λ (l : List Entry). (l, Some a)) (sym (back b r.0)) in
        (b ∷ r.0, rw h (ap (λ l. a ∷ l) r.1), all ∙ rw h turned_back)

last_kept : (zs : List Entry) → last_of (groups_in (reverse zs)) ≡ reverse (dedup have_one_key zs)
last_kept [] = refl
last_kept (a ∷ zs) = let r = split zs a in ap last_of r.2 ∙ sym (back a r.0) ∙ ap reverse (sym r.1)

sorted_ascending : (es : List Entry) → IsAscending (λ a b. entry_order a b ≡ Less) es → IsSorted entry_order es
sorted_ascending es up k d low inside =
    let below = ascending-get_or _ es k (k + 1) d up (omega arith) inside in
    turned entry_order entry_order_total (get_or es k d) (get_or es (k + 1) d) ∙ ap is_gt below

-- of entries that ascend, the last of each key are the latest
pub last_latest : (es : List Entry) → IsAscending (λ a b. entry_order a b ≡ Less) es → AreLatest es (last_of (groups_in es))
last_latest es up =
    let ties = λ (a b : Entry). sym (is_eq-slice_cmp (string_bytes a.0) (string_bytes b.0)) in
    let same = IsPermutation-refl es in
    let sorted = sorted_ascending es up in
    let kept : reverse (dedup have_one_key (reverse es)) ≡ last_of (groups_in es) = sym (last_kept (reverse es)) ∙ ap (λ (l : List Entry). last_of (groups_in l)) (reverse-reverse es) in
    subst (AreLatest es) kept (record {
      ascending = rows_ascend text_order string_cmp_total register_order total-law have_one_key ties es es same sorted;
      taken = rows_taken text_order string_cmp_total register_order total-law have_one_key ties es es same sorted;
      latest = rows_latest text_order string_cmp_total register_order total-law have_one_key ties es es same sorted;
    })
