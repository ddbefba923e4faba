-- What is committed of what a call has written, by what is said of that.
use Rattle.std.proofs.Common.{Result, Ok, Err, OnOk, sym, subst, arith}
use Rattle.std.specs.Prelude.{IsOk}
use Rattle.sqlite_trees.specs.declared.store.Store.{Ghosts}
use Rattle.sqlite_trees.specs.Tree.{Trees}
use Rattle.store_file.specs.Logs.{IsClean, IsOpen, IsSteady, Makes, Writes, trees_of}
use Rattle.store_file.specs.Transactions.{CommitsNothing, WereWritten}
use Rattle.store_file.proofs.Calls.{alike, writes_as}

written_so : {A E : Type 0} (call : Result A E) (P : Type 0) → IsOk call → OnOk call P → P
written_so (Ok x) P ok is = is
written_so (Err why) P ok is = absurd (let k = ok in cc)

module _ {S A E B F : Type 0} (g : Ghosts S) (old mid new : S) (call : Result A E) (done : Result B F) (Is : Trees → Trees → Type 0) where
  pub lands : Makes g old mid call Is → Writes g old new done (λ _ trees. WereWritten g mid call trees) → Writes g old new done Is
  lands made =
      writes_as g old new (λ _ trees. WereWritten g mid call trees) Is done done
      (λ trees at. subst (Is (trees_of g old)) (sym at.same) (written_so call (Is (trees_of g old) (trees_of g mid)) at.succeeded (made at.clean)))
      (alike done)

-- what a call keeps so where it succeeds is kept so, over a clean disk and while the trees are open, whether it succeeds or fails
module _ {S : Type 0} (g : Ghosts S) (old mid new : S) (uncommitted : CommitsNothing g old mid) (steady : IsSteady g mid new)
    (was_open : IsClean g new → IsOpen g new → IsOpen g mid) (P : Trees → Type 0) (stood : IsClean g old → IsOpen g old → P (trees_of g old))
    (clean : IsClean g new) (opened : IsOpen g new) where
  mid_clean : IsClean g mid
  mid_clean = omega (arith, steady.clean, clean)

  before : P (trees_of g old)
  before = stood (omega (arith, uncommitted.quiet.clean, mid_clean)) ((uncommitted.kept mid_clean).was_open (was_open clean opened))

  pub stands_on : {B F : Type 0} (done : Result B F) (Is : Trees → Trees → Type 0) → Writes g old new done Is
      → (Is (trees_of g old) (trees_of g new) → P (trees_of g old) → P (trees_of g new)) → P (trees_of g new)
  stands_on (Ok x) Is writes keeps = keeps (writes.made clean) before
  stands_on (Err why) Is writes keeps = subst P (sym (writes.refused clean opened)) before
