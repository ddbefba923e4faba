-- Replies, as bytes. Each begins to answer a list of what was asked for, and says something of the first of it or of all.
use Rattle.std.specs.Prelude.{◌≡◌, ◌≢◌, ℕ, ◌+◌, ◌<◌, ◌≤◌, max, List, [], ◌∷◌, ◌++◌, length, map, flat_map, take, Bool, true, false, cond, Option, Some, None, ⊤, ◌⊎◌}
use Rattle.std.specs.Global.{Vec}
use Rattle.std.specs.List.{AllByRecursion}
use Rattle.std.specs.declared.cmp.Ordering.{Ordering}
use Rattle.key_order.specs.Map.{get}
use Rattle.merkle_bytes.specs.Counts.{count_bytes}
use Rattle.merkle_bytes.specs.Options.{option_bytes}
use Rattle.merkle_bytes.specs.Runs.{run_bytes, entries_bytes, row_behind, row_key, bound_key}
use Rattle.merkle_replica.specs.Laws.{Laws}
use Rattle.merkle_tree_theory.specs.Gap.{pairs_within}
use Rattle.merkle_tree_theory.specs.Outline.{Item, of_page, outline_over, whole_item}
use Rattle.merkle_tree_theory.specs.State.{State}
use Rattle.merkle_wire.specs.Gaps.{owned_gap}
use Rattle.merkle_wire.specs.Messages.{front}
use Rattle.merkle_wire.specs.Outlines.{Outline, IsTold, outline_bytes}
use Rattle.merkle_wire.specs.Questions.{question_bytes}
use Rattle.merkle_wire.specs.declared.gaps.OwnedGap.{OwnedGap}
use Rattle.merkle_wire.specs.declared.message.Kind.TheVariants.{Root as root_kind, Outlines as outlines_kind, Nodes as nodes_kind, RowsAt as rows_at_kind, RowsIn as rows_in_kind}
use Rattle.merkle_wire.specs.declared.question.Question.{Question}
use Rattle.merkle_wire.specs.declared.question.Question.TheVariants.{Root, Outlines, Nodes, RowsAt, RowsIn}
use Rattle.merkle_wire.specs.declared.wanted.Wanted.{Wanted}
use Rattle.merkle_wire.specs.ItsRows.{digests_of}
use Rattle.merkle_wire.specs.Settings.{AreSettingsBy}
use Rattle.merkle_wire.specs.declared.message.Kind.{Kind}

-- a reply of a kind tells something of the first of what was asked for, of one at least, each where P holds of both, as the bytes of its entries
abbrev pub AnswersFirst : {X Y : Type 0} → Kind → (X × Y → List ℕ) → (X → Y → Type 0) → List X → List ℕ → Type 0
AnswersFirst {X} {Y} kind bytes P asked reply = (told : List (X × Y)) × ((left : List X) × (asked ≡ map (λ t. t.0) told ++ left) × (asked ≢ [] → told ≢ [])
    × AllByRecursion (λ t. P t.0 t.1) told) × (reply ≡ front kind ++ flat_map bytes told)

-- after these bytes of a reply there is no room for an entry: they are as many as this, and more than the two of the front
abbrev pub IsFull : ℕ → List ℕ → Type 0
IsFull most bytes = max most 3 ≤ length bytes

-- each entry has room and fits after the bytes that stand before it, and those before the first begin so
abbrev pub EachFits : {X : Type 0} → ℕ → (X → List ℕ) → (List ℕ → X → Type 0) → List ℕ → List X → Type 0
EachFits most bytes Fits begun [] = ⊤
EachFits most bytes Fits begun (t ∷ ts) = ((¬ IsFull most begun) × Fits begun t) × EachFits most bytes Fits (begun ++ bytes t) ts

-- a reply that begins so tells all of what was asked for, or the first of it up to the entry with which the reply is full, and each entry fits
abbrev pub TellsWhatFits : {X Y : Type 0} → (X × Y → List ℕ) → (List ℕ → X × Y → Type 0) → ℕ → List X → List ℕ → List ℕ → Type 0
TellsWhatFits {X} {Y} bytes Fits most asked begun reply = (told : List (X × Y)) × (left : List X) × (asked ≡ map (λ t. t.0) told ++ left)
    × (reply ≡ begun ++ flat_map bytes told) × EachFits most bytes Fits begun told × ((left ≡ []) ⊎ IsFull most reply)

-- the value at a key, where there is one
abbrev pub value_at_bytes : {K V : Type 0} → (V → List ℕ) → Wanted K × Option V → List ℕ
value_at_bytes values t = option_bytes values t.1

-- the rows in a gap that are told: the first of them, and whether they are all
pub record Part (K V : Type 0) : Type 0 where
  pub rows : List (K × V)
  pub whole : Bool

-- the part begins the rows in the gap: all of them, or some
abbrev pub IsPartOf : {K V : Type 0} → (K → K → Ordering) → List (K × V) → OwnedGap K → Part K V → Type 0
IsPartOf cmp rows gap part = (more : List _) × (pairs_within cmp (owned_gap gap) rows ≡ part.rows ++ more) × (part.whole ≡ true → more ≡ []) × (part.whole ≡ false → part.rows ≢ [])

module _ {K V : Type 0} (encoding : K → List ℕ) (values : V → List ℕ) where
  -- an outline, after the bound that the keys of its gap are above
  abbrev pub outline_over_bytes : OwnedGap K × Outline K V → List ℕ
  outline_over_bytes t = outline_bytes encoding values (bound_key encoding [] t.0.after) t.1

  -- rows after a key
  abbrev pub rows_bytes : List ℕ → List (K × V) → List ℕ
  rows_bytes = entries_bytes (row_behind encoding values) (row_key encoding)

  -- a part: how many rows there are, the rows, and a byte 1 where they are all, or 0
  abbrev pub part_bytes : List ℕ → Part K V → List ℕ
  part_bytes last part = run_bytes (row_behind encoding values) (row_key encoding) last part.rows ++ cond part.whole 1 0 ∷ []

  -- a part, after the bound that the keys of its gap are above
  abbrev pub part_in_bytes : OwnedGap K × Part K V → List ℕ
  part_in_bytes t = part_bytes (bound_key encoding [] t.0.after) t.1

  -- a part has all rows, or ends with the row by which this many bytes stand there, but for its count and its flag: no other part has room
  abbrev pub RowsFit : ℕ → List ℕ → OwnedGap K × Part K V → Type 0
  RowsFit most bytes t = let upto = λ (rows : List (K × V)). length bytes + length (rows_bytes (bound_key encoding [] t.0.after) rows) in
      ((i : ℕ) → i ≢ 0 → i < length t.1.rows → upto (take i t.1.rows) < most) × ((t.1.whole ≡ true) ⊎ (most ≤ upto t.1.rows))

  -- the reply to a question tells all that it asks for, or the first of it up to that by which it has this many bytes
  abbrev pub EndsWithin : ℕ → Question K → List ℕ → Type 0
  EndsWithin most (Root settings) reply = ⊤
  EndsWithin most (Outlines n gaps) reply = TellsWhatFits outline_over_bytes (λ bytes t. ⊤) most gaps.items (front outlines_kind) reply
  EndsWithin most (Nodes n gaps) reply = TellsWhatFits outline_over_bytes (λ bytes t. ⊤) most gaps.items (front nodes_kind) reply
  EndsWithin most (RowsAt keys) reply = TellsWhatFits (value_at_bytes values) (λ bytes t. ⊤) most keys.items (front rows_at_kind) reply
  EndsWithin most (RowsIn gaps) reply = TellsWhatFits part_in_bytes (RowsFit most) most gaps.items (front rows_in_kind) reply

  -- the message asks a question, and the reply to it tells so much
  abbrev pub IsAnsweredWithin : ℕ → List ℕ → Vec ℕ → Type 0
  IsAnsweredWithin most message reply = (question : Question K) × (message ≡ question_bytes encoding question) × EndsWithin most question reply.items

-- the digest of a whole tree that is one item, where it has a node
abbrev pub whole_digest : {K : Type 0} → List (Item K (List ℕ)) → Option (List ℕ)
whole_digest (of_page g d ∷ xs) = Some d
whole_digest _ = None

-- the digest of the root page of a tree, where it has a node
abbrev pub root_page_digest : {K H : Type 0} → (K → List ℕ) → State K H → Option (List ℕ)
root_page_digest bytes_of tree = whole_digest (whole_item tree.format bytes_of tree.root)

-- a reply to a question for the root: how many rows there are, and the digest of the root page, or none
abbrev pub root_bytes : ℕ → Option (List ℕ) → List ℕ
root_bytes count digest = (front root_kind ++ count_bytes count) ++ option_bytes (λ d. d) digest

-- the items of the page over a gap
abbrev pub items_over : {K H : Type 0} → (K → K → Ordering) → (K → List ℕ) → State K H → OwnedGap K → List (Item K (List ℕ))
items_over cmp bytes_of tree gap = outline_over tree.format bytes_of cmp tree.root (owned_gap gap)

module _ {K V H : Type 0} (laws : Laws K V H) (n : ℕ) (encoding : K → List ℕ) (values : V → List ℕ) where
  -- the reply to a question by these rows and this tree: the number of rows and the digest of the root page, or none; outlines; values; or rows
  abbrev pub IsReply : List (K × V) → State K H → Question K → List ℕ → Type 0
  IsReply rows tree (Root settings) reply = AreSettingsBy laws.key_digest n (digests_of tree) settings × (reply ≡ root_bytes (length rows) (root_page_digest laws.bytes_of tree))
  IsReply rows tree (Outlines most gaps) reply =
      AnswersFirst outlines_kind (outline_over_bytes encoding values) (λ g. IsTold laws.cmp rows true (items_over laws.cmp laws.bytes_of tree g)) gaps.items reply
  IsReply rows tree (Nodes most gaps) reply = AnswersFirst nodes_kind (outline_over_bytes encoding values) (λ g. IsTold laws.cmp rows false (items_over laws.cmp laws.bytes_of tree g)) gaps.items reply
  IsReply rows tree (RowsAt keys) reply = AnswersFirst rows_at_kind (value_at_bytes values) (λ w value. value ≡ get laws.cmp rows w.key) keys.items reply
  IsReply rows tree (RowsIn gaps) reply = AnswersFirst rows_in_kind (part_in_bytes encoding values) (IsPartOf laws.cmp rows) gaps.items reply

  -- the message asks a question, and this is the reply to it of a replica with these rows and this tree
  abbrev pub IsAnsweredBy : List (K × V) → State K H → List ℕ → Vec ℕ → Type 0
  IsAnsweredBy rows tree message reply = (question : Question K) × (message ≡ question_bytes encoding question) × IsReply rows tree question reply.items

-- where the question is for the root, its settings are those of the tree
abbrev pub TellsSettings : {K V H : Type 0} → Laws K V H → ℕ → State K H → Question K → Type 0
TellsSettings laws n tree (Root settings) = AreSettingsBy laws.key_digest n (digests_of tree) settings
TellsSettings laws n tree _ = ⊤

-- the message asks a question that is for the root, with settings that are not those of the tree
abbrev pub AsksWithOthers : {K V H : Type 0} → Laws K V H → ℕ → (K → List ℕ) → State K H → List ℕ → Type 0
AsksWithOthers laws n encoding tree message = (question : Question _) × (message ≡ question_bytes encoding question) × ¬ TellsSettings laws n tree question
