-- Calls on a log, one after the other.
use Rattle.std.proofs.Common.{◌≡◌, ◌⊎◌, inl, inr, List, Result, Ok, Err, ap, subst, ◌∙◌, arith}
use Rattle.std.specs.Prelude.{⊤, IsErrAnd}
use Rattle.key_order.specs.Text.{Text as Key}
use Rattle.sqlite_trees.specs.declared.store.Store.{Ghosts}
use Rattle.sqlite_trees.specs.Tree.{Trees}
use Rattle.sqlite_trees.specs.View.{View}
use Rattle.store_file.specs.declared.register.Register.{Register}
use Rattle.store_file.specs.Logs.{IsClean, IsOpen, IsSteady, Leaves, LeavesNoMore, OnlyReads, Writes, trees_of}
use Rattle.store_file.specs.Reading.{IsRead}
use Rattle.store_file.proofs.Walking.{steady_then, no_more_then}

-- a call succeeded
abbrev pub Succeeds : {A E : Type 0} → Result A E → Type 0
Succeeds (Ok x) = ⊤
Succeeds (Err why) = ⊥

-- both calls succeeded, or both failed
abbrev pub AreAlike : {A E B F : Type 0} → Result A E → Result B F → Type 0
AreAlike (Ok x) (Ok y) = ⊤
AreAlike (Ok x) (Err why) = ⊥
AreAlike (Err why) (Ok y) = ⊥
AreAlike (Err why) (Err other) = ⊤

pub alike : {A E : Type 0} (result : Result A E) → AreAlike result result
alike (Ok x) = tt
alike (Err why) = tt

module _ {S : Type 0} (g : Ghosts S) (old new : S) where
  -- a crash leaves what is said of a write, where it leaves the write
  pub leaves_as : (P Q : Trees → Trees → Type 0) → ((trees : Trees) → P (trees_of g old) trees → Q (trees_of g old) trees) → Leaves g old new P → Leaves g old new Q
  leaves_as P Q more leaves trees left = by (leaves trees left)
    where
      by : (IsClean g old × P (trees_of g old) trees) ⊎ g.recovers old trees → (IsClean g old × Q (trees_of g old) trees) ⊎ g.recovers old trees
      by (inl at) = inl (at.0, more trees at.1)
      by (inr r) = inr r

  -- a call that writes, by what is said of the write
  pub writes_as : {A E B F : Type 0} (P Q : Trees → Trees → Type 0) (call : Result A E) (done : Result B F) → ((trees : Trees) → P (trees_of g old) trees → Q (trees_of g old) trees)
      → AreAlike call done → Writes g old new call P → Writes g old new done Q
  writes_as P Q (Ok x) (Ok y) more same was = record {
    made = λ clean. more (trees_of g new) (was.made clean);
    refused = λ clean o. tt;
    steady = was.steady;
    crash = leaves_as P Q more was.crash;
  }
  writes_as P Q (Ok x) (Err why) more same was = absurd same
  writes_as P Q (Err why) (Ok y) more same was = absurd same
  writes_as P Q (Err why) (Err other) more same was = record { made = λ clean. tt; refused = was.refused; steady = was.steady; crash = leaves_as P Q more was.crash }

  -- a call that writes, where it failed
  pub writes_none : {A E : Type 0} (P : E → Type 0) (Is : Trees → Trees → Type 0) (done : Result A E) → IsErrAnd done P
      → (IsClean g new → IsOpen g new → trees_of g new ≡ trees_of g old) → IsSteady g old new → Leaves g old new Is → Writes g old new done Is
  writes_none P Is (Ok x) is refused steady crash = absurd is
  writes_none P Is (Err why) is refused steady crash = record { made = λ clean. tt; refused = refused; steady = steady; crash = crash }

  -- a walk that has read some entries has only read, whether a caller goes on or fails
  pub walk_reads : {A E : Type 0} (entries : List (Key × Register)) (result : Result A E) → IsRead g old new entries → OnlyReads g old new result
  walk_reads entries (Ok x) read = record {
    unchanged = λ clean. ap (λ (v : View). v.trees) (read.same clean);
    refused = λ clean o. tt;
    steady = read.steady;
    crash = read.crash;
  }
  walk_reads entries (Err why) read = record {
    unchanged = λ clean. tt;
    refused = λ clean o. ap (λ (v : View). v.trees) (read.same clean);
    steady = read.steady;
    crash = read.crash;
  }

module _ {S : Type 0} (g : Ghosts S) (old mid new : S) where
  -- a call that only reads, after one that did so and succeeded
  pub reads_then : {A E B F C G : Type 0} (first : Result A E) (call : Result B F) (done : Result C G) → OnlyReads g old mid first → Succeeds first → OnlyReads g mid new call
      → AreAlike call done → OnlyReads g old new done
  reads_then (Ok x) (Ok y) (Ok z) was ok next same = record {
    unchanged = λ clean. next.unchanged clean ∙ was.unchanged (omega (arith, next.steady.clean, clean));
    refused = λ clean o. tt;
    steady = steady_then g old mid new was.steady next.steady;
    crash = no_more_then g old mid new was.crash next.crash;
  }
  reads_then (Ok x) (Err why) (Err other) was ok next same = record {
    unchanged = λ clean. tt;
    refused = λ clean o. next.refused clean o ∙ was.unchanged (omega (arith, next.steady.clean, clean));
    steady = steady_then g old mid new was.steady next.steady;
    crash = no_more_then g old mid new was.crash next.crash;
  }
  reads_then (Ok x) (Ok y) (Err other) was ok next same = absurd same
  reads_then (Ok x) (Err why) (Ok z) was ok next same = absurd same
  reads_then (Err why) call done was ok next same = absurd ok

  -- a call that only reads, after a walk
  pub walk_then : {A E B F : Type 0} (entries : List (Key × Register)) (call : Result A E) (done : Result B F) → IsRead g old mid entries → OnlyReads g mid new call
      → AreAlike call done → OnlyReads g old new done
  walk_then entries call done read next same =
      let first : Result ⊤ ⊤ = Ok tt in
      reads_then first call done (walk_reads g old mid entries first read) tt next same

  module _ (P Q : Trees → Trees → Type 0) (more : IsClean g mid → (trees : Trees) → P (trees_of g old) trees → Q (trees_of g old) trees) where
    -- what is written to trees that were only read since
    written_then : IsClean g mid → (trees : Trees) → trees_of g mid ≡ trees_of g old → P (trees_of g mid) trees → Q (trees_of g old) trees
    written_then clean trees same written = more clean trees (subst (λ t. P t trees) same written)

    leaves_then : IsSteady g old mid → (IsClean g mid → trees_of g mid ≡ trees_of g old) → LeavesNoMore g old mid → Leaves g mid new P → Leaves g old new Q
    leaves_then steady same no_more leaves trees left = by (leaves trees left)
      where
        by : (IsClean g mid × P (trees_of g mid) trees) ⊎ g.recovers mid trees → (IsClean g old × Q (trees_of g old) trees) ⊎ g.recovers old trees
        by (inl at) = inl (omega (arith, steady.clean, at.0), written_then at.0 trees (same at.0) at.1)
        by (inr r) = inr (no_more trees r)

    -- a call that writes, after one that only read and succeeded
    pub writes_then : {A E B F C G : Type 0} (first : Result A E) (call : Result B F) (done : Result C G) → OnlyReads g old mid first → Succeeds first → Writes g mid new call P
        → AreAlike call done → Writes g old new done Q
    writes_then (Ok x) (Ok y) (Ok z) was ok next same = record {
      made = λ clean.
          let early : IsClean g mid = omega (arith, next.steady.clean, clean) in
          written_then early (trees_of g new) (was.unchanged early) (next.made clean);
      refused = λ clean o. tt;
      steady = steady_then g old mid new was.steady next.steady;
      crash = leaves_then was.steady was.unchanged was.crash next.crash;
    }
    writes_then (Ok x) (Err why) (Err other) was ok next same = record {
      made = λ clean. tt;
      refused = λ clean o. next.refused clean o ∙ was.unchanged (omega (arith, next.steady.clean, clean));
      steady = steady_then g old mid new was.steady next.steady;
      crash = leaves_then was.steady was.unchanged was.crash next.crash;
    }
    writes_then (Ok x) (Ok y) (Err other) was ok next same = absurd same
    writes_then (Ok x) (Err why) (Ok z) was ok next same = absurd same
    writes_then (Err why) call done was ok next same = absurd ok
