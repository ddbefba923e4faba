use Rattle.std.proofs.Common.{◌++◌, ◌∷◌, [], take, ap, ap₂, sym, ◌∙◌, append_assoc, append-nil}
use Rattle.std.proofs.lemmas.List.{map-append}
use Rattle.merkle_replica.specs.Descent.{gaps_of}
use Rattle.merkle_search_tree.specs.Items.{lent_gap, item, items}
use Rattle.merkle_audit.specs.Nodes.{gaps_among}
use Rattle.merkle_audit.proofs.NodesAmong.{gaps_more}
use Rattle.merkle_audit.proofs.nodes.add_gaps.Goals as goal
use Rattle.merkle_audit.proofs.nodes.add_gaps.Goals.{in-Page+in_ok-push, in_default}

pub items-preserved : goal.items-preserved
items-preserved g c =
    let x = c.item-item.result in
    let first = items (take c.items.item-index c.args.list.now) in
    let old = gaps_of c.args.gaps.now.items in
    let more = gaps_more item c.args.list.now c.items.item-index x c.items-test.true c.item-item.is in
    elim c.match-item.branch [
      | in-Page+in_ok-push w ↦ ap (λ v. gaps_of v.items) w.gaps-is ∙ ap gaps_of w.in_ok-push.ensures.items ∙ map-append lent_gap c.items.gaps.items _
          ∙ ap₂ (λ gs h. gs ++ h ∷ []) c.items.invariant w.copied.ensures ∙ append_assoc old (gaps_among first) _
          ∙ ap (λ gs. old ++ gs) (ap (λ y. gaps_among first ++ gaps_among (item y ∷ [])) (sym w.in-Page.is) ∙ sym more)
      | in_default w ↦ ap (λ v. gaps_of v.items) w.gaps-is ∙ c.items.invariant
          ∙ ap (λ gs. old ++ gs) (sym (append-nil (gaps_among first)) ∙ ap (λ y. gaps_among first ++ gaps_among (item y ∷ [])) (sym w.in_default.is) ∙ sym more)
    ]
