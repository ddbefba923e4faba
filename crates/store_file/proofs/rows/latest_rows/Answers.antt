use Rattle.std.proofs.Common.{◌≡◌, List, reverse, rules, subst, sym, ap, ◌∙◌, string_bytes}
use Rattle.std.proofs.lemmas.Fn.{dedup_same}
use Rattle.std.proofs.lemmas.Map.Text.{is_eq-slice_cmp}
use Rattle.std.specs.String.{string_cmp_total}
use Rattle.std.specs.List.{dedup}
use Rattle.key_order.specs.Text.{Text as Key, text_order}
use Rattle.store_file.specs.Registers.{register_order}
use Rattle.store_file.specs.Rows.{AreLatest, have_one_key}
use Rattle.store_file.specs.declared.register.Register.{Register}
use Rattle.store_file.specs.contracts.register.RegisterOrd.TheImpl.Laws.{total-law}
use Rattle.store_file.proofs.RowLemmas.{rows_ascend, rows_taken, rows_latest}
use Rattle.store_file.proofs.rows.latest_rows.Goals as goal

pub returns : goal.returns
returns c =
    let sorted = c.sort_unstable.new.self.items in
    let told : c.dedup_by.new.self.items ≡ dedup have_one_key c.reverse.new.self.items =
    dedup_same _ have_one_key _ (λ x y b f' x' y' called. (search rules, search rules, search rules, search rules)) _ _ c.dedup_by.ensures.filtered in
    let all : c.reverse-2.new.self.items ≡ reverse (dedup have_one_key (reverse sorted)) = c.reverse-2.ensures.items ∙ ap reverse told
    ∙ ap (λ (zs : List (Key × Register)). reverse (dedup have_one_key zs)) c.reverse.ensures.items in
    let moved = c.sort_unstable.ensures.permutation in
    let up = c.sort_unstable.ensures.sorted in
    let ties = λ (a b : Key × Register). sym (is_eq-slice_cmp (string_bytes a.0) (string_bytes b.0)) in
    subst (AreLatest c.args.entries.items) (sym all) (record {
      ascending = rows_ascend text_order string_cmp_total register_order total-law have_one_key ties c.args.entries.items sorted moved up;
      taken = rows_taken text_order string_cmp_total register_order total-law have_one_key ties c.args.entries.items sorted moved up;
      latest = rows_latest text_order string_cmp_total register_order total-law have_one_key ties c.args.entries.items sorted moved up;
    })
