use Rattle.std.proofs.Common.{Some, ap, sym, ◌∙◌}
use Rattle.std.specs.String.{string_cmp_total}
use Rattle.key_order.specs.Text.{Text as Key, text_order}
use Rattle.key_order.proofs.Places.{get_at_place, get_in_gap}
use Rattle.store_file.specs.declared.register.Register.{Register}
use Rattle.store_file.proofs.rows.register_in.Goals as goal

pub returns-in-Some : goal.returns-in-Some
returns-in-Some c up =
    let p = c.in-Ok.ensures.found up in
    let row = c.in-Some.row.now in
    let read = c.in-Some.ensures.lookup.1 in
    let at = get_at_place text_order string_cmp_total c.args.rows.now c.in-Ok.at c.args.key.now row up p.in_range (p.here row) in
    ap (λ (r : Key × Register). Some r.1) read ∙ sym at

pub returns-in-Err : goal.returns-in-Err
returns-in-Err c up =
    let p = c.in-Err.ensures.absent up in
    sym (get_in_gap text_order string_cmp_total c.args.rows.now c.in-Err.field-0 c.args.key.now p.in_range p.lower p.higher)
