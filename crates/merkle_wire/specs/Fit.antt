-- What can be told of what was asked for. A reply that tells it is taken, and no other is.
use Rattle.std.specs.Prelude.{◌≡◌, ◌≢◌, ℕ, ◌<◌, ◌+◌, ◌^◌, List, [], ◌++◌, length, map, Bool, true, false, Option, ⊤}
use Rattle.std.specs.List.{AllByRecursion}
use Rattle.std.specs.declared.cmp.Ordering.{Ordering}
use Rattle.merkle_bytes.specs.Options.{IsOption}
use Rattle.merkle_tree_theory.specs.Gap.{Gap}
use Rattle.merkle_wire.specs.Coming.{AscendIn, IsPageDigest, EntriesCome}
use Rattle.merkle_wire.specs.Gaps.{owned_gap}
use Rattle.merkle_wire.specs.Outlines.{Outline, rows_told, digests_told, page_told, page_bytes, outline_bytes}
use Rattle.merkle_wire.specs.Replies.{Part, outline_over_bytes, part_in_bytes, value_at_bytes, root_bytes, part_bytes}
use Rattle.merkle_wire.specs.declared.gaps.OwnedGap.{OwnedGap}
use Rattle.merkle_wire.specs.declared.message.Kind.{Kind}
use Rattle.merkle_wire.specs.declared.message.Kind.TheVariants.{Outlines as outlines_kind, Nodes as nodes_kind, RowsAt as rows_at_kind, RowsIn as rows_in_kind}
use Rattle.merkle_wire.specs.declared.question.Question.{Question}
use Rattle.merkle_wire.specs.declared.question.Question.TheVariants.{Root, Outlines, Nodes, RowsAt, RowsIn}
use Rattle.merkle_bytes.specs.Reading.{BeginsWithNo}
use Rattle.merkle_bytes.specs.Runs.{bound_key, run_bytes, row_behind, row_key}

-- a reply of a kind says something of the first of what was asked for, of one at least, each where P holds of both
abbrev pub Says : {X Y : Type 0} → Kind → (X × Y → List ℕ) → (X → Y → Type 0) → List X → List ℕ → Type 0
Says {X} kind bytes P asked reply = (left : List X) × EntriesCome kind bytes P (λ told. ⊤) asked reply left

module _ {K : Type 0} (cmp : K → K → Ordering) (is_key : K → Type 0) where
  -- nodes that ascend in the gap, with digests of n bytes
  abbrev pub AreNodesIn : ℕ → Gap K → List (K × List ℕ) → Type 0
  AreNodesIn n gap nodes = AscendIn cmp gap (map (λ d. d.0) nodes) × AllByRecursion (λ d. is_key d.0) nodes × AllByRecursion (λ d. length d.1 ≡ n) nodes

  -- a page: its keys ascend in the gap, of which there is one, with a page or none before each of them and after the last
  abbrev pub IsPageTold : Gap K → List ℕ → List K → List (Option (List ℕ)) → Type 0
  IsPageTold gap digest keys pages = (keys ≢ []) × AscendIn cmp gap keys × AllByRecursion is_key keys × (length digest ≡ 16) × (length pages ≡ length keys + 1) × AllByRecursion IsPageDigest pages

  -- the bytes don't begin with a page over a gap, after a key
  abbrev pub NoPage : (K → List ℕ) → List ℕ → OwnedGap K → List ℕ → Type 0
  NoPage encoding last gap left = (digest : List ℕ) (keys : List K) (pages : List (Option (List ℕ))) (rest : List ℕ) → IsPageTold (owned_gap gap) digest keys pages
      → left ≢ page_bytes encoding last digest keys pages ++ rest

module _ {K V : Type 0} (cmp : K → K → Ordering) (is_key : K → Type 0) (is_value : V → Type 0) where
  -- rows that ascend in the gap
  abbrev pub AreRowsIn : Gap K → List (K × V) → Type 0
  AreRowsIn gap rows = AscendIn cmp gap (map (λ r. r.0) rows) × AllByRecursion (λ r. is_key r.0 × is_value r.1) rows

  -- all rows in a gap, or the first of them, of which there is one
  abbrev pub IsPartIn : Gap K → Part K V → Type 0
  IsPartIn gap part = AreRowsIn gap part.rows × (part.whole ≡ false → part.rows ≢ [])

  -- what can be told of the page over a gap, with the pages below it or alone
  abbrev pub IsOutlineIn : ℕ → Bool → Gap K → Outline K V → Type 0
  IsOutlineIn n with_pages gap (rows_told rows) = AreRowsIn gap rows
  IsOutlineIn n with_pages gap (digests_told nodes) = AreNodesIn cmp is_key n gap nodes
  IsOutlineIn n with_pages gap (page_told digest keys pages) = (with_pages ≡ true) × IsPageTold cmp is_key gap digest keys pages

module _ {K V : Type 0} (cmp : K → K → Ordering) (is_key : K → Type 0) (is_value : V → Type 0) (encoding : K → List ℕ) (values : V → List ℕ) where
  -- a reply of a kind says outlines of the pages over the first of the gaps, where digests of values have n bytes
  abbrev pub SaysOutlines : ℕ → Kind → Bool → List (OwnedGap K) → List ℕ → Type 0
  SaysOutlines n kind with_pages = Says kind (outline_over_bytes encoding values) (λ g. IsOutlineIn cmp is_key is_value n with_pages (owned_gap g))

  -- a reply to the question: the number of rows and the digest of the root page; outlines, where digests of values have n bytes; values; or rows
  abbrev pub IsFit : ℕ → Question K → List ℕ → Type 0
  IsFit n (Root settings) reply = (count : ℕ) × (digest : Option (List ℕ)) × (count < 2 ^ 64) × IsPageDigest digest × (reply ≡ root_bytes count digest)
  IsFit n (Outlines most gaps) reply = SaysOutlines n outlines_kind true gaps.items reply
  IsFit n (Nodes most gaps) reply = SaysOutlines n nodes_kind false gaps.items reply
  IsFit n (RowsAt keys) reply = Says rows_at_kind (value_at_bytes values) (λ w. IsOption is_value) keys.items reply
  IsFit n (RowsIn gaps) reply = Says rows_in_kind (part_in_bytes encoding values) (λ g. IsPartIn cmp is_key is_value (owned_gap g)) gaps.items reply

  -- bytes don't begin with rows in a gap, after a key; with an outline of the page over a gap; or with a part of the rows in a gap
  abbrev pub NoRows : List ℕ → OwnedGap K → List ℕ → Type 0
  NoRows last gap = BeginsWithNo (run_bytes (row_behind encoding values) (row_key encoding) last) (AreRowsIn cmp is_key is_value (owned_gap gap))

  abbrev pub NoOutline : ℕ → Bool → OwnedGap K → List ℕ → Type 0
  NoOutline n with_pages gap = BeginsWithNo (outline_bytes encoding values (bound_key encoding [] gap.after)) (IsOutlineIn cmp is_key is_value n with_pages (owned_gap gap))

  abbrev pub NoPart : OwnedGap K → List ℕ → Type 0
  NoPart gap = BeginsWithNo (part_bytes encoding values (bound_key encoding [] gap.after)) (IsPartIn cmp is_key is_value (owned_gap gap))
