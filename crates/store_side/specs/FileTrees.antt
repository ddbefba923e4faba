-- A store's file that has the tree of its latest registers.
use Rattle.std.specs.Prelude.{◌≡◌, ℕ, Bool, false, List, Result, IfOk, IsTrue, string_bytes}
use Rattle.key_order.specs.Map.{IsMap}
use Rattle.key_order.specs.Text.{Text, text_order}
use Rattle.merkle_digest.specs.SipDigests.{text_digest}
use Rattle.merkle_replica.specs.Descent.{HasPage}
use Rattle.merkle_replica.specs.Laws.{Laws}
use Rattle.merkle_tree_theory.specs.Gap.{Gap}
use Rattle.merkle_tree_theory.specs.TreeOf.{tree_of}
use Rattle.merkle_tree_theory.specs.declared.page_format.PageFormat.TheVariants.{V2}
use Rattle.merkle_wire.specs.ItsRows.{Digests, ForRowsOf}
use Rattle.merkle_wire.specs.Taking.{HasPageAt}
use Rattle.sqlite_trees.specs.declared.store.Store.{Ghosts}
use Rattle.sqlite_trees.specs.Tree.{Trees}
use Rattle.store_file.specs.Logs.{HasEntryTable, IsClean, IsOpen, trees_of}
use Rattle.store_file.specs.contracts.register.RegisterPartialEq.TheImpl as register_eq
use Rattle.store_file.specs.contracts.registers.RegisterJoin.TheImpl as register_join
use Rattle.store_file.specs.declared.catalog.TheConstants.{CELLS}
use Rattle.store_file.specs.declared.register.Register.{Register}
use Rattle.store_tree.specs.Calls.{SaysPage}
use Rattle.store_tree.specs.Cells.{HoldsCells}
use Rattle.store_tree.specs.Tables.{HasTable}
use Rattle.store_tree.specs.Texts.{bytes_map}
use Rattle.store_rows.specs.Digests.{AreLatestRows, TextDigests, TextRows, register_digest, digest_rows, key_level}

-- the order of keys, their bytes and digests; the equality of registers, the later of two, and their digests
abbrev pub file_laws : Laws Text Register (List ℕ)
file_laws = record {
  cmp = text_order;
  bytes_of = string_bytes;
  key_digest = text_digest;
  eq = (register_eq.ghosts).eq;
  join = (register_join.ghosts).join_of;
  value_digest = register_digest;
}

-- in the tree of the bytes of these keys, which ascend, this is whether the page over a gap has a digest
abbrev pub SaysKeysPage : List ℕ → Gap (List ℕ) → List ℕ → TextDigests → Bool → Type 0
SaysKeysPage hash_key gap digest pairs is = IsMap text_order pairs × SaysPage gap digest is (tree_of (key_level hash_key) (bytes_map pairs))

-- so it is in the tree of the rows' digests
abbrev pub SaysFilePage : List ℕ → Gap (List ℕ) → List ℕ → TextRows → Bool → Type 0
SaysFilePage hash_key gap digest rows = SaysKeysPage hash_key gap digest (digest_rows hash_key rows)

-- the digests of a side that has these keys, in trees of level base 16 and page format 2
abbrev pub digests_under : List ℕ → TextDigests → Digests Text (List ℕ)
digests_under hash_key pairs = record { hasher = hash_key; base = 16; format = V2; map = pairs }

module _ (hash_key : List ℕ) (rows : TextRows) where
  -- the table of entries has these keys, each with its latest register, and the table of cells has the gaps of the tree of their digests
  pub record HasTreeOf (trees : Trees) : Type 0 where
    pub latest : AreLatestRows trees rows
    pub cells : HoldsCells (key_level hash_key) (bytes_map (digest_rows hash_key rows)) (trees CELLS)

  -- over a clean disk both tables are there, what is shown has the tree of these keys unless it is broken, and so has what is committed while it is open
  pub record IsFileOf {S : Type 0} (g : Ghosts S) (trees : S) : Type 0 where
    pub entries : HasEntryTable g trees
    pub cells : HasTable g trees
    pub settled : IsClean g trees → (g.view trees).shape ≡ (g.view trees).committed_shape
    pub shown : IsClean g trees → (g.view trees).is_broken ≡ false → HasTreeOf (trees_of g trees)
    pub committed : IsClean g trees → IsOpen g trees → HasTreeOf (g.view trees).committed

module _ (hash_key : List ℕ) where
  -- where it says yes, a page of the tree of the rows' digests has the digest, whatever rows these are the digests of
  abbrev pub IsPageThere : List ℕ → TextRows → Bool → Type 0
  IsPageThere digest rows is = IsTrue is → ForRowsOf file_laws (digests_under hash_key (digest_rows hash_key rows)) (λ local. HasPage file_laws local digest)

  -- where it says no, no page that fills the gap has the digest
  abbrev pub IsPageLacked : Gap Text → List ℕ → TextRows → Bool → Type 0
  IsPageLacked gap digest rows is = is ≡ false → ForRowsOf file_laws (digests_under hash_key (digest_rows hash_key rows)) (λ local. ¬ HasPageAt file_laws local gap digest)

module _ {S : Type 0} (g : Ghosts S) (hash_key : List ℕ) where
  -- the file has the tree of its latest registers
  abbrev pub IsFile : S → Type 0
  IsFile trees = (rows : TextRows) × IsFileOf hash_key rows g trees

  module _ (old new : S) where
    -- it has the rows that it had, and their tree
    abbrev pub KeepsFile : Type 0
    KeepsFile = (rows : TextRows) → IsFileOf hash_key rows g old → IsFileOf hash_key rows g new

    -- over a clean disk, the answer of a successful call says this of the rows that the file had
    abbrev pub TellsFile : {A E : Type 0} → Result A E → (TextRows → A → Type 0) → Type 0
    TellsFile {A} result Is = IsClean g new → IfOk result (λ (found : A). (rows : TextRows) → IsFileOf hash_key rows g old → Is rows found)
