-- What a write over the latest register of a key makes of a log, and what a removal finds in it.
use Rattle.std.specs.Prelude.{◌≡◌, ℕ, Bool, false, List, Option, Result}
use Rattle.key_order.specs.Text.{Text}
use Rattle.sqlite_trees.specs.declared.store.Store.{Ghosts}
use Rattle.sqlite_trees.specs.Tree.{Trees}
use Rattle.store_file.specs.Latest.{IsThere, Removes}
use Rattle.store_file.specs.Logs.{IsSteady, Leaves, MakesAndFinds, StaysInErr}
use Rattle.store_file.specs.Registers.{time_after}
use Rattle.store_file.specs.declared.register.Register.{Register}

-- an entry, at its time or one above that of the register that was found
abbrev pub entry_over : Option Register → Text × Register → Text × Register
entry_over found entry = (entry.0, record entry.1 { time = time_after found entry.1.time })

-- it says whether the key was there; where it was, a removal is written over its latest register, and where it was not, nothing has changed
pub record RemovesIfThere (key : List ℕ) (writer : Text) (now : ℕ) (old new : Trees) (was : Bool) : Type 0 where
  pub there : IsThere old key was
  pub removed : Removes key writer now old new was
  pub absent : was ≡ false → new ≡ old

-- on a clean disk `Is` relates the old trees, the new ones and the answer in `Ok`, and nothing has changed in `Err`; a crash leaves what it could leave
-- before, or trees that `Left` relates to the old ones
pub record WritesAndFinds {S A E : Type 0} (g : Ghosts S) (old new : S) (result : Result A E) (Is : Trees → Trees → A → Type 0) (Left : Trees → Trees → Type 0) : Type 0 where
  pub made : MakesAndFinds g old new result Is
  pub refused : StaysInErr g old new result
  pub steady : IsSteady g old new
  pub crash : Leaves g old new Left
