-- The state of the engine: two replicas, as maps from texts to numbers, and the page format of their trees.
use Rattle.std.specs.Prelude.{◌≡◌, ℕ, Bool, List, [], ◌∷◌, max, nat_eq, string_bytes}
use Rattle.key_order.specs.Join.{IsJoin}
use Rattle.key_order.specs.Map.{has_key, del}
use Rattle.key_order.specs.Text.{Text, text_order}
use Rattle.merkle_tree_theory.specs.declared.page_format.PageFormat.{PageFormat}
use Rattle.merkle_tree_theory.specs.declared.page_format.PageFormat.TheVariants.{V1}
use Rattle.mst_pair.specs.declared.engine.ReplicaName.{ReplicaName}
use Rattle.mst_pair.specs.declared.engine.ReplicaName.TheVariants.{A, B}

-- a key, and its number
abbrev pub TextRow : Type 0
TextRow = Text × ℕ

-- the rows of each replica, ascending by key, and the page format of both
pub record Replicas : Type 0 where
  pub a : List TextRow
  pub b : List TextRow
  pub format : PageFormat

-- both replicas are empty, in format 1
abbrev pub empty_replicas : Replicas
empty_replicas = record { a = []; b = []; format = V1 }

-- neither replica has a row
abbrev pub HasNoRow : Replicas → Type 0
HasNoRow s = (s.a ≡ []) × (s.b ≡ [])

-- the rows of the replica of that name
abbrev pub rows : Replicas → ReplicaName → List TextRow
rows s A = s.a
rows s B = s.b

-- the rows of the other replica
abbrev pub other_rows : Replicas → ReplicaName → List TextRow
other_rows s A = s.b
other_rows s B = s.a

-- new is the join of old with the one row of the key with these bytes and the number n: where the key is there, the greater number stays
abbrev pub JoinsRow : List TextRow → List TextRow → List ℕ → ℕ → Type 0
JoinsRow old new key n = (text : Text) × (string_bytes text ≡ key) × IsJoin text_order nat_eq max old ((text, n) ∷ []) new

-- new is old without the row of the key with these bytes, and found tells whether there was one
abbrev pub DeletesRow : List TextRow → List TextRow → List ℕ → Bool → Type 0
DeletesRow old new key found = (text : Text) × (string_bytes text ≡ key) × (new ≡ del text_order old text) × (found ≡ has_key text_order old text)
