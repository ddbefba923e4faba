-- What a commit makes of a log whose trees were written.
use Rattle.std.proofs.Common.{◌≡◌, ◌⊎◌, inl, inr, ◌≤◌, Bool, true, false, Result, Ok, Err, OnOk, OnErr, refl, sym, ap, ◌∙◌, IsTrue, true≢false, arith}
use Rattle.std.specs.Prelude.{IsOk}
use Rattle.sqlite_disk.specs.Disk.{MoreFaults}
use Rattle.sqlite_trees.specs.declared.store.Store.{Ghosts}
use Rattle.sqlite_trees.specs.Tree.{Trees}
use Rattle.sqlite_trees.specs.View.{doubt, Commits, IsRolledBack}
use Rattle.sqlite_trees.proofs.Doubt.{no_doubt}
use Rattle.store_file.specs.Logs.{IsClean, IsOpen, IsLog, IsSteady, Leaves, Writes, trees_of}
use Rattle.store_file.specs.Transactions.{CommitsNothing, WereWritten}
use Rattle.store_file.proofs.Walking.{steady_then, uncommitted_steady}

module _ {S : Type 0} (g : Ghosts S)
    (shut_if_dirty : (s : S) → (g.view s).is_clean ≡ false → (g.view s).is_open ≡ false)
    (broken_if_shut : (s : S) → (g.view s).is_open ≡ false → IsTrue (g.view s).is_broken) where
  -- what isn't broken is clean
  pub sound_is_clean : (s : S) → (g.view s).is_broken ≡ false → IsClean g s
  sound_is_clean s sound = by (g.view s).is_clean refl
    where
      by : (b : Bool) → (g.view s).is_clean ≡ b → IsClean g s
      by true is = no_doubt (g.view s).is_clean is
      by false is = absurd (true≢false (sym (broken_if_shut s (shut_if_dirty s is)) ∙ sound))

-- what is so of each commit, also of one that fails
pub record IsCommit {S : Type 0} (g : Ghosts S) (mid new : S) : Type 0 where
  pub sound : (g.view mid).is_broken ≡ false → IsClean g mid
  pub clean : doubt (g.view mid).is_clean ≤ doubt (g.view new).is_clean
  pub counts : g.faults mid ≤ g.faults new
  pub closes : IsClean g new → IsOpen g mid → IsOpen g new ⊎ MoreFaults (g.faults mid) (g.faults new)
  pub was_open : IsClean g new → IsOpen g new → IsOpen g mid
  pub crash : (db : Trees) → g.recovers new db → (((g.view mid).is_broken ≡ false) × (db ≡ trees_of g mid)) ⊎ g.recovers mid db

pub commit_steady : {S : Type 0} (g : Ghosts S) (mid new : S) → IsCommit g mid new → IsSteady g mid new
commit_steady g mid new commit = record { clean = commit.clean; counts = commit.counts; closes = commit.closes; was_open = commit.was_open }

-- a call that wrote to the trees of a log and committed nothing, and a commit after it
module _ {S A E : Type 0} (g : Ghosts S) (old mid new : S) (call : Result A E) (begun : IsLog g old) (uncommitted : CommitsNothing g old mid) where
  module _ (steady : IsSteady g mid new) where
    first : IsClean g mid → IsClean g old
    first is = omega (arith, uncommitted.quiet.clean, is)

    -- what was gone back to is what the log showed
    gone_back : IsRolledBack (g.view mid) (g.view new) → IsClean g new → IsOpen g new → trees_of g new ≡ trees_of g old
    gone_back undone is o =
        let clean : IsClean g mid = omega (arith, steady.clean, is) in
        let then_open : IsOpen g mid = (undone.kept is).was_open o in
        let kept = uncommitted.kept clean in
        (undone.undone o).0 ∙ kept.committed then_open ∙ sym (begun.rest (first clean) (kept.was_open then_open)).settled

    both : IsSteady g old new
    both = steady_then g old mid new (uncommitted_steady g old mid uncommitted) steady

  -- it succeeded, and what it wrote is committed, or taken back where that fails
  module _ (succeeded : IsOk call) (commit : IsCommit g mid new) where
    crash : Leaves g old new (λ _ trees. WereWritten g mid call trees)
    crash db left = at (commit.crash db left)
      where
        at : (((g.view mid).is_broken ≡ false) × (db ≡ trees_of g mid)) ⊎ g.recovers mid db → (IsClean g old × WereWritten g mid call db) ⊎ g.recovers old db
        at (inl is) =
            let clean = commit.sound is.0 in
            inl (first (commit_steady g mid new commit) clean, record { succeeded = succeeded; clean = clean; same = is.1 })
        at (inr r) = inr (uncommitted.quiet.outcomes db r)

    pub committed : {B F : Type 0} (done : Result B F) → OnOk done (IsClean g new → Commits (g.view mid) (g.view new)) → OnErr done (IsRolledBack (g.view mid) (g.view new))
        → Writes g old new done (λ _ trees. WereWritten g mid call trees)
    committed (Ok x) commits undone = record {
      made = λ is. record { succeeded = succeeded; clean = omega (arith, commit.clean, is); same = ap (λ v. v.trees) (commits is).is };
      refused = λ is o. tt;
      steady = both (commit_steady g mid new commit);
      crash = crash;
    }
    committed (Err why) commits undone = record {
      made = λ is. tt;
      refused = gone_back (commit_steady g mid new commit) undone;
      steady = both (commit_steady g mid new commit);
      crash = crash;
    }
