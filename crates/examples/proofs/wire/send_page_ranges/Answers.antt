use Rattle.std.proofs.Common.{◌≡◌, List, ℕ, string_bytes, ap, ◌∙◌, subst}
use Rattle.key_order.specs.Text.{Text}
use Rattle.merkle_diff.specs.PageRange.{entries}
use Rattle.merkle_tree_theory.specs.Ranges.{ranges_of}
use Rattle.merkle_tree_theory.specs.State.{State}
use Rattle.merkle_replica.specs.Contents.{Side, side}
use Rattle.merkle_replica.specs.Pulls.{HasRanges}
use Rattle.merkle_replica.proofs.SideLaws.{same_side}
use Rattle.examples.specs.StoreLaws.{store_laws}
use Rattle.examples.proofs.Outcomes.{if_ok_both}
use Rattle.examples.proofs.wire.send_page_ranges.Goals as goal

-- the page ranges are those of the hashed store, which is the side that the store was
pub returns-clause-message : goal.returns-clause-message
returns-clause-message c =
    let new = c.hash.new.self in
    let R : State Text (List ℕ) → Type 0 = λ s. entries c.in-Some.ranges.items ≡ ranges_of s.format string_bytes s.root in
    let listed : R c.tree.result.now = rw c.in-Some.is at c.in_ok-ranges.ensures.ranges in
    let H : Side Text ℕ (List ℕ) → Type 0 = λ s. HasRanges store_laws s (entries c.deref.result.now) in
    let of_new : H (side new) = (new.tree.root, c.a_replica_has_the_tree_of_its_rows.ensures, ap entries c.deref.ensures.value ∙ subst R c.tree.ensures.tree listed) in
    let of_old = subst H (same_side c.args.store.now new c.hash.ensures.rows c.hash.ensures.settings) of_new in
    if_ok_both c.write_page_ranges.result _ _ _ (λ bytes spelled each. (entries c.deref.result.now, of_old, each, spelled)) c.write_page_ranges.ensures.bytes c.write_page_ranges.ensures.each
