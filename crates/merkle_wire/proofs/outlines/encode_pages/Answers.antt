use Rattle.std.proofs.Common.{◌≡◌, ◌++◌, ◌∷◌, [], None, take, ap, ap₂, sym, ◌∙◌, append_assoc, append-nil, arith}
use Rattle.std.proofs.lemmas.List.{take_all}
use Rattle.std.specs.Option.{option_map}
use Rattle.std.proofs.lemmas.Grind.{flat_map-append}
use Rattle.merkle_bytes.specs.Options.{option_bytes}
use Rattle.merkle_search_tree.specs.Items.{lent_gap, item, items}
use Rattle.merkle_wire.specs.Outlines.{pages_bytes}
use Rattle.merkle_wire.proofs.ItemsMore.{map_more, pages_before, page_behind, pages_are, node_more, page_more}
use Rattle.merkle_wire.proofs.outlines.encode_pages.Goals as goal
use Rattle.merkle_wire.proofs.outlines.encode_pages.Goals.{in-Page, in-Node+in_ok-encode_page-in-Node}

pub items-preserved : goal.items-preserved
items-preserved g c =
    let old = c.args.bytes.now.items in
    let x = c.item-item.result in
    let first = items (take c.items.item-index c.args.list.now) in
    let more = map_more item c.args.list.now c.items.item-index x c.items-test.true c.item-item.is in
    elim c.match-item.branch [
      | in-Page w ↦ (let here = more ∙ ap (λ y. first ++ item y ∷ []) w.in-Page.is in
          let p = page_more None first (lent_gap w.in-Page.field-0) w.in-Page.digest.now in (
            ap (λ v. v.items) w.bytes-is ∙ c.items.invariant.0 ∙ ap (λ t. old ++ pages_bytes t) (sym p.0 ∙ ap (pages_before None) (sym here)),
            ap (option_map (λ d. d.now)) w.page-is ∙ sym p.1 ∙ ap (page_behind None) (sym here),
          ))
      | in-Node+in_ok-encode_page-in-Node w ↦ (let here = more ∙ ap (λ y. first ++ item y ∷ []) w.in-Node.is in
          let p = node_more None first w.in-Node.field-0.now w.in-Node.field-1.now in
          let before = pages_before None first in
          let behind = page_behind None first in (
            ap (λ v. v.items) w.bytes-is ∙ w.in_ok-encode_page-in-Node.ensures ∙ ap₂ (λ t q. t ++ option_bytes (λ d. d) q) c.items.invariant.0 c.items.invariant.1
                ∙ append_assoc old (pages_bytes before) (option_bytes (λ d. d) behind)
                ∙ ap (λ t. old ++ t) (ap (λ t. pages_bytes before ++ t) (sym (append-nil (option_bytes (λ d. d) behind))) ∙ sym (flat_map-append (option_bytes (λ d. d)) before (behind ∷ [])))
                ∙ ap (λ t. old ++ pages_bytes t) (sym p.0 ∙ ap (pages_before None) (sym here)),
            ap (option_map (λ d. d.now)) w.page-is ∙ sym p.1 ∙ ap (page_behind None) (sym here),
          ))
    ]

pub returns : goal.returns
returns g c =
    let old = c.args.bytes.now.items in
    let list = c.args.list.now in
    let all : items (take c.items.item-index list) ≡ items list = ap items (take_all c.items.item-index list (omega (arith, c.items-test.false))) in
    let before = pages_before None (items list) in
    let behind = page_behind None (items list) in
    c.in_ok-encode_page.ensures ∙ ap₂ (λ t q. t ++ option_bytes (λ d. d) q) (c.items.invariant.0 ∙ ap (λ xs. old ++ pages_bytes (pages_before None xs)) all)
    (c.items.invariant.1 ∙ ap (page_behind None) all)
    ∙ append_assoc old (pages_bytes before) (option_bytes (λ d. d) behind)
    ∙ ap (λ t. old ++ t) (ap (λ t. pages_bytes before ++ t) (sym (append-nil (option_bytes (λ d. d) behind))) ∙ sym (flat_map-append (option_bytes (λ d. d)) before (behind ∷ []))
    ∙ ap pages_bytes (sym (pages_are None (items list))))
