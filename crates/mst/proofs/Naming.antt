-- A command by the name that a store gets before it, where it has none.
use Rattle.std.proofs.Common.{◌≡◌, ◌≢◌, ◌⊎◌, inl, inr, ℕ, Bool, true, false, List, [], ◌∷◌, Result, Ok, Err, OnOk, refl, ap, arith}
use Rattle.std.specs.Prelude.{IsOk}
use Rattle.mst_commands.specs.Carries.{Carries}
use Rattle.mst_commands.specs.declared.input.Input.{Input}
use Rattle.mst_words.specs.declared.command.StoreCommand.{StoreCommand}
use Rattle.sqlite_trees.specs.declared.store.Store.{Ghosts}
use Rattle.sqlite_trees.specs.Tree.{Trees}
use Rattle.store_file.specs.Changes.{WritesByNow}
use Rattle.store_file.specs.Logs.{IsClean, IsSteady, Leaves, Makes, trees_of}
use Rattle.mst.specs.Naming.{BeginsToCarry, CarriesBy, IsNamed, IsNewlyNamed, names_first, writes_by_name}

-- what is said of a call that succeeds is so of one that succeeded
pub of_ok : {A E : Type 0} (call : Result A E) (P : Type 0) → IsOk call → OnOk call P → P
of_ok (Ok x) P ok is = is
of_ok (Err why) P ok is = absurd (let k = ok in cc)

on_ok : {A E : Type 0} (call : Result A E) (P Q : Type 0) → (P → Q) → OnOk call P → OnOk call Q
on_ok (Ok x) P Q f is = f is
on_ok (Err why) P Q f is = tt

-- a store that gets a name
gets : (b : Bool) (name : List ℕ) (old new : Trees) → b ≡ true → WritesByNow name old new → IsNamed b name old new
gets true name old new is written = written
gets false name old new is written = absurd (let k = is in cc)

-- a store that keeps its own
keeps : (b : Bool) (name : List ℕ) (old new : Trees) → b ≡ false → new ≡ old → IsNamed b name old new
keeps true name old new is same = absurd (let k = is in cc)
keeps false name old new is same = same

module _ {S : Type 0} (g : Ghosts S) (command : StoreCommand) (old mid : S) (name : List ℕ) where
  -- before a command that writes by the name
  pub named : {A E : Type 0} (before : List ℕ) (call : Result A E) → writes_by_name command ≡ true → IsOk call → (before ≢ [] → mid ≡ old)
      → (before ≡ [] → Makes g old mid call (WritesByNow name)) → IsClean g mid → IsNamed (names_first command before) name (trees_of g old) (trees_of g mid)
  named [] call is ok kept made clean = gets (writes_by_name command) name (trees_of g old) (trees_of g mid) is (of_ok call _ ok (made refl clean))
  named (byte ∷ bytes) call is ok kept made clean = ap (trees_of g) (kept (λ e. absurd (let k = e in cc)))

  -- before another one
  pub unnamed : (before : List ℕ) → writes_by_name command ≡ false → mid ≡ old → IsNamed (names_first command before) name (trees_of g old) (trees_of g mid)
  unnamed [] is same = keeps (writes_by_name command) name (trees_of g old) (trees_of g mid) is (ap (trees_of g) same)
  unnamed (byte ∷ bytes) is same = ap (trees_of g) same

module _ {S : Type 0} (g : Ghosts S) (command : StoreCommand) (input : Input) (old mid new : S) (before name : List ℕ)
    (named_first : IsClean g mid → IsNamed (names_first command before) name (trees_of g old) (trees_of g mid)) where
  -- the command after it
  pub carried : {A E : Type 0} (done : Result A E) → IsSteady g mid new → Makes g mid new done (Carries command name input) → Makes g old new done (CarriesBy command before input name)
  carried done steady made clean =
      let early : IsClean g mid = omega (arith, steady.clean, clean) in
      on_ok done _ _ (λ c. record { mid = trees_of g mid; named = named_first early; carried = c }) (made clean)

  -- what a crash leaves of both
  pub crashed : IsSteady g old mid → Leaves g old mid IsNewlyNamed → Leaves g mid new (Carries command name input) → Leaves g old new (BeginsToCarry command before input)
  crashed steady first leaves db left = by (leaves db left)
    where
      sooner : (IsClean g old × IsNewlyNamed (trees_of g old) db) ⊎ g.recovers old db → (IsClean g old × BeginsToCarry command before input (trees_of g old) db) ⊎ g.recovers old db
      sooner (inl at) = inl (at.0, inl at.1)
      sooner (inr r) = inr r

      by : (IsClean g mid × Carries command name input (trees_of g mid) db) ⊎ g.recovers mid db → (IsClean g old × BeginsToCarry command before input (trees_of g old) db) ⊎ g.recovers old db
      by (inl at) = inl (omega (arith, steady.clean, at.0), inr (name, record { mid = trees_of g mid; named = named_first at.0; carried = at.1 }))
      by (inr r) = sooner (first db r)
