-- What was written to a log and taken back.
use Rattle.std.proofs.Common.{◌≡◌, ◌∙◌, Bool, true, false, Result, Ok, Err, OnOk, OnErr, IsTrue, refl, sym, true≢false, arith}
use Rattle.sqlite_trees.specs.declared.store.Store.{Ghosts}
use Rattle.sqlite_trees.specs.View.{IsRolledBack}
use Rattle.store_file.specs.Logs.{IsClean, IsLog, IsOpen, IsSteady, OnlyReads, trees_of}
use Rattle.store_file.specs.Transactions.{CommitsNothing, StaysQuiet}
use Rattle.store_file.proofs.Walking.{steady_then, uncommitted_steady}

module _ {S : Type 0} (g : Ghosts S) (broken_if_shut : (s : S) → (g.view s).is_open ≡ false → IsTrue (g.view s).is_broken) where
  -- what isn't broken is open
  pub open_if_sound : (s : S) → (g.view s).is_broken ≡ false → IsOpen g s
  open_if_sound s sound = by (g.view s).is_open refl
    where
      by : (b : Bool) → (g.view s).is_open ≡ b → IsOpen g s
      by true is = is
      by false is = absurd (true≢false (sym (broken_if_shut s is) ∙ sound))

module _ {S : Type 0} (g : Ghosts S) (old mid new : S) (begun : IsLog g old) (uncommitted : CommitsNothing g old mid)
    (undone : IsRolledBack (g.view mid) (g.view new)) (quiet : StaysQuiet g mid new) where
  as_before : IsClean g new → IsOpen g new → trees_of g new ≡ trees_of g old
  as_before is o =
      let clean : IsClean g mid = omega (arith, quiet.clean, is) in
      let first : IsClean g old = omega (arith, uncommitted.quiet.clean, clean) in
      let then_open : IsOpen g mid = (undone.kept is).was_open o in
      let kept = uncommitted.kept clean in
      (undone.undone o).0 ∙ kept.committed then_open ∙ sym (begun.rest first (kept.was_open then_open)).settled

  steady : IsSteady g old new
  steady = steady_then g old mid new (uncommitted_steady g old mid uncommitted)
      (record { clean = quiet.clean; counts = quiet.counts; closes = quiet.closes; was_open = λ is o. (undone.kept is).was_open o })

  -- a call that leaves the log open where it succeeds only reads
  pub reads_back : {A E : Type 0} (done : Result A E) → (IsClean g new → OnOk done (IsOpen g new)) → OnlyReads g old new done
  reads_back {A} {E} done opened = record {
    unchanged = λ is. succeeded done is (opened is);
    refused = λ is o. failed done (as_before is o);
    steady = steady;
    crash = λ db left. uncommitted.quiet.outcomes db (quiet.outcomes db left);
  }
    where
      succeeded : (done : Result A E) → IsClean g new → OnOk done (IsOpen g new) → OnOk done (trees_of g new ≡ trees_of g old)
      succeeded (Ok x) is o = as_before is o
      succeeded (Err why) is o = tt

      failed : (done : Result A E) → trees_of g new ≡ trees_of g old → OnErr done (trees_of g new ≡ trees_of g old)
      failed (Ok x) same = tt
      failed (Err why) same = same
