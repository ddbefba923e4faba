use Rattle.std.proofs.Common.{◌≡◌, [], ap, arith, length, subst, sym, false}
use Rattle.sqlite_value.specs.Keys.{plain}
use Rattle.sqlite_trees.specs.Tree.{IsIndex}
use Rattle.sqlite_trees.specs.View.{IsShaped}
use Rattle.store_file.specs.Entries.{HoldsEntries}
use Rattle.store_file.specs.Logs.{IsClean, trees_of}
use Rattle.store_file.specs.Sifting.{AreSifted}
use Rattle.store_file.proofs.Outcomes.{settled_ok}
use Rattle.store_file.proofs.OrderOfEntries.{ascending_entries}
use Rattle.store_file.proofs.SiftLemmas.{all_sifted}
use Rattle.store_file.proofs.sifting.sift.Goals as goal

pub returns-clause-whole : goal.returns-clause-whole
returns-clause-whole g c clean =
    let s = g.S.Store in
    let old = c.log.inside.trees in
    let mid = c.sift_all-read.new.trees in
    let read = c.sift_all-read.ensures in
    let early : IsClean s mid → IsClean s old = λ clean. omega (arith, read.uncommitted.quiet.clean, clean) in
    rw (sym c.log.view_is) (settled_ok (IsClean s) mid c.settled.new.trees c.settled.result c.sift_all-read.result
    (λ sifted. AreSifted (trees_of s old 0) sifted.entries.items (length sifted.bad.items)) (λ sifted. sifted.bad.items ≡ [] → HoldsEntries (trees_of s old) sifted.entries.items)
    ((s.view old).is_broken ≡ false) c.settled.ensures.same c.settled.ensures.kept clean read.sifted read.sound
    (λ sifted is rows sound none.
    let all = all_sifted (trees_of s old 0) sifted.entries.items (length sifted.bad.items) rows (ap length none) in
    let shaped : IsIndex plain (trees_of s old 0) = subst (λ shape. IsShaped shape (trees_of s old 0)) (c.log.invariant.tables (early is)).entries (g.met.S.Store.ordered old sound 0) in
    record { rows = all; ascending = ascending_entries sifted.entries.items (subst (IsIndex plain) all shaped) }))
