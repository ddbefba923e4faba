use Rattle.std.proofs.Common.{◌≡◌, IsTrue, subst, sym, ap, ◌∙◌, arith}
use Rattle.sqlite_wal.specs.Files.{outcomes}
use Rattle.sqlite_wal.specs.Reads.{AreClean}
use Rattle.sqlite_wal.specs.Recovery.{Image}
use Rattle.sqlite_wal.proofs.StateLemmas.{open_from}
use Rattle.sqlite_pool.proofs.StateLemmas.{clean_is, may_leave_is, open_usable}
use Rattle.sqlite_trees.specs.View.{View, IsClean}
use Rattle.sqlite_trees.proofs.Doubt.{clean_of as sure, no_doubt}
use Rattle.sqlite_store.specs.FileStore.{state, view}
use Rattle.store_file.specs.Files.{HoldsAlone, image_of}
use Rattle.store_file.proofs.StoreLemmas.{copied}
use Rattle.store_file.proofs.file.close_any.Goals as goal

pub returns-clause-usable : goal.returns-clause-usable
returns-clause-usable g c =
    subst (λ p. IsTrue (g.D.Disk.is_usable p.0) × IsTrue (g.D.Disk.is_usable p.1)) (sym c.close-files.ensures) (open_usable c.checkpoint-copied.new.self.pool c.in_ok-copied.ensures.still)

pub returns-clause-copied : goal.returns-clause-copied
returns-clause-copied g c is =
    let before = c.rollback.new.self in
    let last = c.checkpoint-copied.new.self in
    let files = c.close-files.result in
    let q = c.checkpoint-copied.ensures.quiet in
    let alone = λ (honest : AreClean g.D.Disk files.log files.db) (image : Image) (may : outcomes g.D.Disk files.log files.db image).
    let here = subst (λ p. AreClean g.D.Disk p.0 p.1) c.close-files.ensures honest in
    let none : IsClean (view last) = no_doubt _ (clean_is last.pool ∙ here) in
    let clean : IsClean (view before) = omega (arith, q.clean) in
    let h = open_from (state before) c.in_ok-copied.ensures.ready (sure (view before).is_clean clean) in
    let undone = c.rollback.ensures.undone.kept clean in
    let on = c.in_ok-copied.ensures.open none in
    let committed : (view last).committed ≡ (view c.args.store).committed = ap (λ (v : View). v.committed) (c.in_ok-copied.ensures.same on) ∙ undone.committed h in
    subst (HoldsAlone image) committed
    (copied last g.met.D.Disk.seen_may_stay on (c.in_ok-is_store.ensures.tables is) (c.in_ok-copied.ensures.moved (c.rollback.ensures.logged (undone.was_open h))) image
    (may_leave_is last.pool image here (subst (λ p. outcomes g.D.Disk p.0 p.1 image) c.close-files.ensures may))) in
    record { now = λ honest. (alone honest (image_of g.D.Disk files) (g.met.D.Disk.seen_may_stay files.log, g.met.D.Disk.seen_may_stay files.db)).both; later = alone }

pub returns-clause-honest : goal.returns-clause-honest
returns-clause-honest g c = λ honest.
    let before = c.rollback.new.self in
    let last = c.checkpoint-copied.new.self in
    let here = subst (λ p. AreClean g.D.Disk p.0 p.1) c.close-files.ensures honest in
    let none : IsClean (view last) = no_doubt _ (clean_is last.pool ∙ here) in
    let clean : IsClean (view before) = omega (arith, c.checkpoint-copied.ensures.quiet.clean) in
    let first : IsClean (view c.args.store) = omega (arith, c.rollback.ensures.quiet.clean, clean) in
    let h = open_from (state before) c.in_ok-copied.ensures.ready (sure (view before).is_clean clean) in
    (sure _ first, (c.rollback.ensures.undone.kept clean).was_open h)
