-- Walks through the rows of a tree, and what calls in a row leave.
use Rattle.std.proofs.Common.{◌≡◌, ◌⊎◌, inl, inr, ℕ, Bool, true, false, not, Some, List, [], ◌∷◌, ◌++◌, refl, sym, ap, ◌∙◌, arith, append_assoc}
use Rattle.std.proofs.lemmas.List.{append-nil}
use Rattle.sqlite_disk.specs.Disk.{MoreFaults}
use Rattle.sqlite_value.specs.Order.{Row}
use Rattle.sqlite_value.specs.Keys.{plain}
use Rattle.sqlite_trees.specs.declared.store.Direction.TheVariants.{Forward}
use Rattle.sqlite_trees.specs.declared.store.Store.{Ghosts}
use Rattle.sqlite_trees.specs.Tree.{from_key, order_of, sought}
use Rattle.sqlite_trees.specs.View.{View, KeepsSchema, KeepsCommitted, OnlyWrites, Advances, with_cursor}
use Rattle.store_file.specs.Logs.{HasTables, IsClean, IsOpen, IsSteady, LeavesNoMore}
use Rattle.store_file.specs.Transactions.{CommitsNothing}
use Rattle.store_file.specs.Walks.{GivesRow, StaysBut}

-- a walk from no key on has all rows to give
pub from_none : (rows : List Row) → from_key plain [] rows ≡ rows
from_none [] = refl
from_none (row ∷ rows) = refl

pub some_same : {X : Type 0} {x y : X} → Some x ≡ Some y → x ≡ y
some_same h = let e = h in cc

pub gives_none : (rows : List Row) (row : Row) (found : Bool) → found ≡ false → GivesRow rows row found → rows ≡ []
gives_none rows row true is h = absurd (let k = is in cc)
gives_none rows row false is h = h

module _ (a b c : View) where
  schema_then : KeepsSchema a b → KeepsSchema b c → KeepsSchema a c
  schema_then h k = record {
    shape = k.shape ∙ h.shape;
    reals = k.reals ∙ h.reals;
    committed_shape = k.committed_shape ∙ h.committed_shape;
    committed_reals = k.committed_reals ∙ h.committed_reals;
    numbered = k.numbered ∙ h.numbered;
  }

  kept_then : KeepsCommitted a b → KeepsCommitted b c → KeepsCommitted a c
  kept_then h k = record {
    shape = k.shape ∙ h.shape;
    reals = k.reals ∙ h.reals;
    committed_shape = k.committed_shape ∙ h.committed_shape;
    committed_reals = k.committed_reals ∙ h.committed_reals;
    numbered = k.numbered ∙ h.numbered;
    was_open = λ o. h.was_open (k.was_open o);
    committed = λ o. k.committed o ∙ h.committed (k.was_open o);
    marks = λ o. k.marks o ∙ h.marks (k.was_open o);
  }

  pub stays_then : StaysBut a b → StaysBut b c → StaysBut a c
  stays_then h k = k ∙ ap {A = View} (λ v. record v { cursors = c.cursors }) h

  pub writes_then : OnlyWrites a b → OnlyWrites b c → OnlyWrites a c
  writes_then h k = k ∙ ap {A = View} (λ v. record v { trees = c.trees; cursors = c.cursors }) h

-- a view with other trees or cursors has the same tables
pub tables_kept : (a b : View) → KeepsSchema a b → HasTables a → HasTables b
tables_kept a b h t = record {
  entries = ap (λ s. s 0) h.shape ∙ t.entries;
  about = ap (λ s. s 1) h.shape ∙ t.about;
  cells = ap (λ s. s 2) h.shape ∙ t.cells;
  settled = h.shape ∙ t.settled ∙ sym h.committed_shape;
}

-- only cursors moved, so what is committed stays
pub stays_kept : (a b : View) → StaysBut a b → KeepsCommitted a b
stays_kept a b h = rw h record {
  shape = refl;
  reals = refl;
  committed_shape = refl;
  committed_reals = refl;
  numbered = refl;
  was_open = λ o. o;
  committed = λ o. refl;
  marks = λ o. refl;
}

-- the cursor has the rows after those that are read to give
abbrev pub Passes : List Row → List Row → View → Type 0
Passes rows seen v = (left : List Row) × (v.cursors 0 ≡ Some left) × (rows ≡ seen ++ left)

-- after a seek from no key on, the cursor has all rows of a tree to give
pub sought_all : (a b : View) (tree : ℕ) (key : Row) → order_of (a.shape tree) ≡ plain → key ≡ []
    → b ≡ with_cursor a 0 (sought (order_of (a.shape tree)) Forward key (a.trees tree)) → Passes (a.trees tree) [] b
sought_all a b tree key order start is = (a.trees tree, rw (is, order, start) (ap Some (from_none (a.trees tree))), refl)

pub given_more : (rows seen more : List Row) (row : Row) (found : Bool) (a b : View) → found ≡ true → Passes rows seen a → Advances a b 0 row found → more ≡ seen ++ row ∷ [] → Passes rows more b
given_more rows seen more row true a b is passed went new =
    let same : Some passed.0 ≡ Some (row ∷ went.0) = sym passed.1 ∙ went.1 in
    (went.0, rw went.2 refl, passed.2 ∙ ap (λ left. seen ++ left) (some_same same) ∙ sym (append_assoc seen (row ∷ []) went.0) ∙ ap (λ front. front ++ went.0) (sym new))
given_more rows seen more row false a b is passed went new = absurd (let k = is in cc)

pub given_last : (rows seen : List Row) (row : Row) (found : Bool) (a b : View) → found ≡ false → Passes rows seen a → Advances a b 0 row found → rows ≡ seen
given_last rows seen row true a b is passed went = absurd (let k = is in cc)
given_last rows seen row false a b is passed went =
    let same : Some passed.0 ≡ Some [] = sym passed.1 ∙ went.0 in
    passed.2 ∙ ap (λ left. seen ++ left) (some_same same) ∙ append-nil seen

module _ {S : Type 0} (g : Ghosts S) (a b c : S) where
  pub steady_then : IsSteady g a b → IsSteady g b c → IsSteady g a c
  steady_then h k = record {
    clean = omega (arith, h.clean, k.clean);
    counts = omega (arith, h.counts, k.counts);
    closes = λ is o. closing (h.closes (omega (arith, k.clean, is)) o) is;
    was_open = λ is o. h.was_open (omega (arith, k.clean, is)) (k.was_open is o);
  }
    where
      later : MoreFaults (g.faults a) (g.faults b) → MoreFaults (g.faults a) (g.faults c)
      later m = omega (arith, m, k.counts)

      sooner : MoreFaults (g.faults b) (g.faults c) → MoreFaults (g.faults a) (g.faults c)
      sooner m = omega (arith, m, h.counts)

      ending : IsOpen g c ⊎ MoreFaults (g.faults b) (g.faults c) → IsOpen g c ⊎ MoreFaults (g.faults a) (g.faults c)
      ending (inl o) = inl o
      ending (inr m) = inr (sooner m)

      closing : IsOpen g b ⊎ MoreFaults (g.faults a) (g.faults b) → IsClean g c → IsOpen g c ⊎ MoreFaults (g.faults a) (g.faults c)
      closing (inr m) is = inr (later m)
      closing (inl o) is = ending (k.closes is o)

  pub no_more_then : LeavesNoMore g a b → LeavesNoMore g b c → LeavesNoMore g a c
  no_more_then h k trees left = h trees (k trees left)

-- a step that commits nothing is steady
pub uncommitted_steady : {S : Type 0} (g : Ghosts S) (a b : S) → CommitsNothing g a b → IsSteady g a b
uncommitted_steady g a b h = record { clean = h.quiet.clean; counts = h.quiet.counts; closes = h.quiet.closes; was_open = λ is o. (h.kept is).was_open o }

-- a step after another that commits nothing
pub uncommitted_then : {S : Type 0} (g : Ghosts S) (a b c : S) → CommitsNothing g a b → CommitsNothing g b c → CommitsNothing g a c
uncommitted_then g a b c h k =
    let steady = steady_then g a b c (uncommitted_steady g a b h) (uncommitted_steady g b c k) in
    record {
      schema = schema_then (g.view a) (g.view b) (g.view c) h.schema k.schema;
      kept = λ clean. kept_then (g.view a) (g.view b) (g.view c) (h.kept (omega (arith, k.quiet.clean, clean))) (k.kept clean);
      quiet = record {
        shield = λ s. k.quiet.shield (h.quiet.shield s);
        clean = steady.clean;
        counts = steady.counts;
        closes = steady.closes;
        outcomes = no_more_then g a b c h.quiet.outcomes k.quiet.outcomes;
      };
    }

pub isn't : (b : Bool) → not b ≡ true → b ≡ false
isn't true h = absurd (let k = h in cc)
isn't false h = refl

pub is_after : (b : Bool) → not b ≡ false → b ≡ true
is_after true h = refl
is_after false h = absurd (let k = h in cc)
