-- Entries that are not told apart.
use Rattle.std.proofs.Common.{◌≡◌, Bool, true, false, cond, Option, Some, None, Equal, sym, ap, subst, ◌∙◌}
use Rattle.std.specs.Cmp.{IsTotalOrder, IsEquivalence, tied_itself}
use Rattle.std.specs.Ordering.{is_eq, eq_by_cmp}
use Rattle.key_order.specs.Join.{IsJoining}
use Rattle.key_order.specs.Text.{Text as Key, text_order}
use Rattle.key_order.proofs.Values.{Eq}
use Rattle.sqlite_value.specs.Keys.{plain, entry_cmp}
use Rattle.sqlite_value.proofs.KeyLemmas.{entry_cmp_total, then_tied}
use Rattle.store_file.specs.Entries.{entry_row, entry_order}
use Rattle.store_file.proofs.OrderOfEntries.{row_order}
use Rattle.store_file.specs.Registers.{register_order}
use Rattle.store_file.specs.declared.register.Register.{Register}

-- entries with one row are not told apart
pub one_row : (r s : Key × Register) → entry_row r ≡ entry_row s → entry_order r s ≡ Equal
one_row r s h = sym (row_order r s) ∙ subst (λ row. entry_cmp plain (entry_row r) row ≡ Equal) h (tied_itself (entry_cmp_total plain) (entry_row r))

module _ (eq : Register → Register → Bool) (e : IsEquivalence eq) (join : Register → Register → Register) (j : IsJoining eq join) (total : IsTotalOrder text_order)
    (ties : (a b : Register) → eq a b ≡ eq_by_cmp register_order a b) where
  -- what an entry has for a key
  abbrev pub at : Key → Key × Register → Option Register
  at k r = cond (is_eq (text_order r.0 k)) (Some r.1) None

  abbrev E : Option Register → Option Register → Type 0
  E = Eq eq e join j

  -- entries that are not told apart have equal registers for each key
  pub at_alike : (k : Key) (r s : Key × Register) → entry_order r s ≡ Equal → E (at k r) (at k s)
  at_alike k r s tie =
      let keys = (then_tied (text_order r.0 s.0) _ tie).0 in
      let registers = (then_tied (text_order r.0 s.0) _ tie).1 in
      rw (total.congr r.0 s.0 k keys) (by (is_eq (text_order s.0 k)) (ties r.1 s.1 ∙ ap is_eq registers))
    where
      by : (b : Bool) → eq r.1 s.1 ≡ true → E (cond b (Some r.1) None) (cond b (Some s.1) None)
      by true h = h
      by false h = tt
