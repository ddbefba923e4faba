-- What is found of the rows of a store's file for a peer that asks.
use Rattle.std.specs.Prelude.{◌≡◌, ◌≢◌, ℕ, Bool, true, false, List, [], Option, Some, None, string_bytes}
use Rattle.std.specs.Global.{Vec}
use Rattle.std.specs.List.{AllByRecursion}
use Rattle.key_order.specs.Map.{IsMap, get}
use Rattle.key_order.specs.Text.{Text, text_order}
use Rattle.merkle_bytes.specs.Encodings.{string_encoding}
use Rattle.merkle_tree_theory.specs.Gap.{Gap}
use Rattle.merkle_tree_theory.specs.TreeOf.{tree_of}
use Rattle.merkle_wire.specs.Replies.{root_page_digest}
use Rattle.merkle_wire.specs.Steps.{TellsPage, TellsPart}
use Rattle.merkle_wire.specs.declared.gaps.OwnedGap.{OwnedGap}
use Rattle.merkle_wire.specs.declared.outlines.Telling.{Telling}
use Rattle.store_file.specs.WireRegisters.{register_encoding}
use Rattle.store_file.specs.Ranges.{below_bound, is_between}
use Rattle.store_file.specs.declared.register.Register.{Register}
use Rattle.store_tree.specs.Outlines.{IsOutlineAt}
use Rattle.store_tree.specs.Texts.{bytes_map}
use Rattle.store_tree.specs.declared.outline.Outline.{Outline}
use Rattle.store_rows.specs.Digests.{AreOneRegister, TextRows, digest_rows, key_level}
use Rattle.store_side.specs.Sides.{contents_under, file_tree}

-- the bytes of a key in a message
abbrev pub text_encoding : Text → List ℕ
text_encoding key = string_encoding (string_bytes key)

-- the rows in a gap are told, or the first of them, as far as this many bytes suffice
abbrev pub TellsRegisters : TextRows → ℕ → OwnedGap Text → Vec ℕ → Vec ℕ → Type 0
TellsRegisters = TellsPart text_order text_encoding register_encoding

module _ (hash_key : List ℕ) where
  -- it is the digest of the root page of the tree of the rows' digests, or none where there is no row
  abbrev pub IsFileRoot : TextRows → Option (List ℕ) → Type 0
  IsFileRoot rows digest = digest ≡ root_page_digest string_bytes (file_tree hash_key (digest_rows hash_key rows))

  -- it is the outline of the page over a gap of that tree, or none where no page is over it
  abbrev pub IsFileOutline : Gap (List ℕ) → TextRows → Option Outline → Type 0
  IsFileOutline gap rows found = IsOutlineAt gap found (tree_of (key_level hash_key) (bytes_map (digest_rows hash_key rows)))

  -- what is told of the page over a gap of that tree is told
  abbrev pub TellsFilePage : TextRows → Telling → OwnedGap Text → Vec ℕ → Vec ℕ → Type 0
  TellsFilePage rows = TellsPage text_order string_bytes text_encoding register_encoding (contents_under hash_key rows)

-- the register that was found for a key is equal to that which the rows have, or there is none
abbrev pub IsRegisterAt : Text → TextRows → Option Register → Type 0
IsRegisterAt key rows found = AreOneRegister found (get text_order rows key)

-- what was found ascends, as the rows do, has for each key between two bounds a register equal to that which the rows have, or none, and no other key
pub record AreRowsBetween (after before : Option Text) (rows found : TextRows) : Type 0 where
  pub kept : IsMap text_order rows
  pub ascending : IsMap text_order found
  pub latest : (key : Text) → is_between after before key ≡ true → IsRegisterAt key rows (get text_order found key)
  pub others : (key : Text) → is_between after before key ≡ false → get text_order found key ≡ None

-- these are all such rows, or the first of them: at least one, and all up to a key below the bound
pub record AreFirstRows (after before : Option Text) (rows found : TextRows) (whole : Bool) : Type 0 where
  pub all : whole ≡ true → AreRowsBetween after before rows found
  pub first : whole ≡ false → (found ≢ []) × ((next : Text) × (below_bound before next ≡ true) × AreRowsBetween after (Some next) rows found)

-- a visitor took all rows between two bounds, or the first of them, as many as it takes
abbrev pub HasVisitedRows : {T : Type 0} → (T → T → TextRows → Bool → Type 0) → T → T → Option Text → Option Text → TextRows → Bool → Type 0
HasVisitedRows Took old new after before rows whole =
    (found : TextRows) × (more : Bool) × Took old new found more × AreFirstRows after before rows found whole × (whole ≡ false → more ≡ false)

-- what was found has for each node of a page a register equal to that which the rows have, or none
abbrev pub ArePageRows : List (Text × List ℕ) → TextRows → TextRows → Type 0
ArePageRows nodes rows found = AllByRecursion (λ n. IsRegisterAt n.0 rows (get text_order found n.0)) nodes
