-- What is written and read of a reply, step by step.
use Rattle.std.specs.Prelude.{◌≡◌, ℕ, ◌+◌, List, [], ◌++◌, length, Bool, true, false, None, Some, ◌⊎◌, ◌∷◌, map, Option}
use denote.Ref.{Bor}
use Rattle.std.specs.Global.{Vec}
use Rattle.std.specs.declared.cmp.Ordering.{Ordering}
use Rattle.key_order.specs.Map.{get}
use Rattle.merkle_bytes.specs.Encodings.{AddsBytes}
use Rattle.merkle_bytes.specs.Runs.{bound_key, row_behind}
use Rattle.merkle_replica.specs.Contents.{Contents}
use Rattle.merkle_wire.specs.Outlines.{Outline, IsTold, outline_bytes, keys_among, node_pairs, AreRowsAt, rows_told, digests_told, page_told}
use Rattle.merkle_wire.specs.Replies.{IsPartOf, Part, RowsFit, items_over, part_bytes, rows_bytes}
use Rattle.merkle_wire.specs.declared.gaps.OwnedGap.{OwnedGap}
use Rattle.merkle_wire.specs.declared.nodes.ToldRows.{ToldRows}
use Rattle.merkle_wire.specs.declared.outlines.Telling.{Telling}
use Rattle.merkle_wire.specs.declared.coming.OutlineRead.{OutlineRead}
use Rattle.merkle_wire.specs.declared.coming.OutlineRead.TheVariants.{Rows, Digests, Page}
use Rattle.merkle_wire.specs.declared.wanted.Wanted.{Wanted}
use Rattle.merkle_tree_theory.specs.Gap.{Gap}
use Rattle.merkle_wire.specs.Underway.{Found}

-- the bytes of the value at a key are added where there is one, and nothing where there is none
abbrev pub AddsValueAt : {K V : Type 0} → (K → K → Ordering) → (V → List ℕ) → List (K × V) → K → Vec ℕ → Vec ℕ → Bool → Type 0
AddsValueAt cmp values rows key old new true = (value : _) × (get cmp rows key ≡ Some value) × AddsBytes old (values value) new
AddsValueAt cmp values rows key old new false = (get cmp rows key ≡ None) × (new.items ≡ old.items)

-- an outline of which P holds is written after a bound
abbrev pub AddsTold : {K V : Type 0} → (K → List ℕ) → (V → List ℕ) → (Outline K V → Type 0) → Option K → Vec ℕ → Vec ℕ → Type 0
AddsTold encoding values P after old new = (told : Outline _ _) × P told × AddsBytes old (outline_bytes encoding values (bound_key encoding [] after) told) new

module _ {K V : Type 0} (cmp : K → K → Ordering) (encoding : K → List ℕ) (values : V → List ℕ) (rows : List (K × V)) where
  -- the row at a key is added after the last one, where there is one
  abbrev pub AddsRowAt : K → List ℕ → List ℕ → ToldRows → ToldRows → Type 0
  AddsRowAt key last last' old new = ((get cmp rows key ≡ None) × (last' ≡ last) × (new.count ≡ old.count) × (new.bytes.items ≡ old.bytes.items))
      ⊎ ((value : V) × (get cmp rows key ≡ Some value) × (last' ≡ encoding key) × (new.count ≡ old.count + 1)
      × (new.bytes.items ≡ old.bytes.items ++ row_behind encoding values last (key, value)))

  -- these are the rows of nodes that are lent, after a key, as bytes, and how many they are
  abbrev pub AreRowsOfNodes : List (Bor K × Bor (List ℕ)) → List ℕ → ToldRows → Type 0
  AreRowsOfNodes nodes last told = (found : List (K × V)) × AreRowsAt cmp rows (keys_among (node_pairs nodes)) found
      × (told.count ≡ length found) × (told.bytes.items ≡ rows_bytes encoding values last found)

  -- the rows in a gap are written, or the first of them, as far as this many bytes suffice
  abbrev pub TellsPart : ℕ → OwnedGap K → Vec ℕ → Vec ℕ → Type 0
  TellsPart most gap old new = (part : Part K V) × IsPartOf cmp rows gap part
      × AddsBytes old (part_bytes encoding values (bound_key encoding [] gap.after) part) new × RowsFit encoding values most old.items (gap, part)

-- what is told of the page over a gap is written
abbrev pub TellsPage : {K V H : Type 0} → (K → K → Ordering) → (K → List ℕ) → (K → List ℕ) → (V → List ℕ) → Contents K V H → Telling → OwnedGap K → Vec ℕ → Vec ℕ → Type 0
TellsPage cmp bytes_of encoding values side telling gap = AddsTold encoding values (IsTold cmp side.rows telling.with_pages (items_over cmp bytes_of side.tree gap)) gap.after

-- nodes that were read, each as its key and the digest of its value
abbrev pub nodes_read : {K : Type 0} → List (Wanted K × Bor (List ℕ)) → List (K × List ℕ)
nodes_read = map (λ n. (n.0.key, n.1.now))

-- the digests of the pages before nodes and after the last
abbrev pub digests_beside : {K : Type 0} → List (Option (List ℕ) × Wanted K) → Option (List ℕ) → List (Option (List ℕ))
digests_beside below last = map (λ b. b.0) below ++ last ∷ []

-- the keys of the nodes
abbrev pub below_keys : {K : Type 0} → List (Option (List ℕ) × Wanted K) → List K
below_keys = map (λ b. b.1.key)

-- what was read of the page over a gap, as it was told
abbrev pub as_told : {K V : Type 0} → OutlineRead K V → Outline K V
as_told (Rows rows bytes) = rows_told rows.items
as_told (Digests nodes) = digests_told (nodes_read nodes.items)
as_told (Page page) = page_told page.digest (below_keys page.below.items) (digests_beside page.below.items page.last)

-- gaps of pages are added, of which P holds
abbrev pub AddsGaps : {K V : Type 0} → (List (Gap K) → Type 0) → Found K V → Found K V → Type 0
AddsGaps P before after = (gaps : List _) × P gaps × (after ≡ record before { below = before.below ++ gaps })
