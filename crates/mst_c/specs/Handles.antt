-- What the calls do to the tree of a handle.
use Rattle.std.specs.Prelude.{◌≡◌, ℕ, List, Option}
use Rattle.key_order.specs.Map.{get}
use Rattle.merkle_tree_theory.specs.Hashed.{IsHashed}
use Rattle.merkle_tree_theory.specs.State.{IsNew}
use Rattle.merkle_tree_theory.specs.declared.page_format.PageFormat.{PageFormat}
use Rattle.c_trees.specs.Trees.{ByteState, SamePairs}
use Rattle.c_values.specs.Handles.{Changes, Has}
use Rattle.c_values.specs.Keys.{bytes_cmp, key_items, pairs_of}
use Rattle.c_values.specs.Output.{IsOutput, IsShort}
use Rattle.c_trees.specs.declared.byte_tree.ByteTree.{ByteTree}

-- the handle has a tree, of which this holds
abbrev pub HasTree : Option ByteTree → (ByteState → Type 0) → Type 0
HasTree tree P = Has tree (λ s. P s.tree)

-- the handle had a tree and has one, and they are related
abbrev pub ChangesTree : Option ByteTree → Option ByteTree → (ByteState → ByteState → Type 0) → Type 0
ChangesTree old new R = Changes old new (λ s t. R s.tree t.tree)

-- the handle had a tree and has it with the same pairs, with all digests filled in
pub record OnlyHashes (old new : Option ByteTree) : Type 0 where
  pub kept : ChangesTree old new SamePairs
  pub hashed : ChangesTree old new (IsHashed key_items)

-- bytes of which this holds, as many as needed, are in front of out, and after them it is as before
abbrev pub IsOutputWhere : List ℕ → List ℕ → ℕ → (List ℕ → Type 0) → Type 0
IsOutputWhere old new needed P = (bytes : List ℕ) × P bytes × IsOutput old new needed bytes

-- there are such bytes, as many as needed, and out is shorter
abbrev pub IsShortWhere : List ℕ → ℕ → (List ℕ → Type 0) → Type 0
IsShortWhere out needed P = (bytes : List ℕ) × P bytes × IsShort out needed bytes

-- the handle has a tree, and bytes that tell this of it are in front of out
abbrev pub IsOutputOf : Option ByteTree → (ByteState → List ℕ → Type 0) → List ℕ → List ℕ → ℕ → Type 0
IsOutputOf tree Tells old new needed = HasTree tree (λ s. IsOutputWhere old new needed (Tells s))

-- it has a tree, and out is too short for such bytes
abbrev pub IsShortOf : Option ByteTree → (ByteState → List ℕ → Type 0) → List ℕ → ℕ → Type 0
IsShortOf tree Tells out needed = HasTree tree (λ s. IsShortWhere out needed (Tells s))

-- it has the empty tree with this key of SipHash, way of feeding keys, level base and page format
abbrev pub HasNewTree : Option ByteTree → List ℕ → ℕ → ℕ → PageFormat → Type 0
HasNewTree tree key feed base format = HasTree tree (IsNew (record { key = key; feed = feed }) base format)

-- it has a tree, which has this digest at the key, or none
abbrev pub HasTreeDigest : Option ByteTree → List ℕ → Option (List ℕ) → Type 0
HasTreeDigest tree key found = HasTree tree (λ s. get bytes_cmp (pairs_of s) key ≡ found)
