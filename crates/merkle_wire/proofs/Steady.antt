-- A catch-up with a peer that answers by its rows: each of its replies can be taken, until the rows come.
use Rattle.std.specs.Prelude.{◌≡◌, ℕ, ◌+◌, ◌*◌, ◌<◌, ◌≤◌, List, [], ◌∷◌, length, cond, ⊤, ◌⊎◌}
use Rattle.std.specs.List.{AllByRecursion}
use Rattle.std.specs.Ordering.{is_eq}
use Rattle.std.specs.declared.cmp.Ordering.{Ordering}
use Rattle.merkle_replica.specs.Contents.{Side}
use Rattle.merkle_replica.specs.Laws.{Laws}
use Rattle.merkle_tree_theory.specs.Gap.{Gap, is_in_gap}
use Rattle.merkle_tree_theory.specs.Lookup.{Fills}
use Rattle.merkle_tree_theory.specs.Outline.{outline_over}
use Rattle.merkle_tree_theory.specs.Page.{level}
use Rattle.merkle_tree_theory.specs.Tree.{Tree}
use Rattle.merkle_wire.specs.Underway.{AsksForSome, Found, Underway}
use Rattle.merkle_wire.specs.Gaps.{HasKeyBounds, owned_gap}
use Rattle.merkle_wire.specs.Outlines.{nodes_among, keys_among}
use Rattle.merkle_wire.specs.Questions.{IsQuestion}
use Rattle.merkle_wire.specs.declared.answering.AnswerError.TheVariants as answer
use Rattle.merkle_wire.specs.declared.question.Question.{Question}
use Rattle.merkle_wire.specs.declared.question.Question.TheVariants.{Root, Outlines, Nodes, RowsAt, RowsIn}
use Rattle.merkle_wire.specs.declared.session_error.SessionError.TheVariants as session
use Rattle.merkle_wire.specs.Sessions.{IsKeyOf}

-- the sum of numbers that the elements of a list have
abbrev pub total : {X : Type 0} → (X → ℕ) → List X → ℕ
total times [] = 0
total times (x ∷ xs) = times x + total times xs

module _ {K : Type 0} (cmp : K → K → Ordering) (k : K) where
  -- how often the key is this one: once, or not
  abbrev pub times_at : K → ℕ
  times_at j = cond (is_eq (cmp k j)) 1 0

  -- how often it is in a gap
  abbrev pub times_in : Gap K → ℕ
  times_in g = cond (is_in_gap cmp k g) 1 0

module _ {K V H : Type 0} (laws : Laws K V H) (peer : Side K V H) (root : Tree K (List ℕ)) where
  -- a page of the peer's tree fills the gap, and its level and the rounds are below n together
  abbrev pub IsFilled : ℕ → ℕ → Gap K → Type 0
  IsFilled n rounds g = (t : Tree K (List ℕ)) × Fills laws.cmp g t root × (level t + rounds < n)

  -- what a question asks about is there: the first asks for the root, and others for pages that the peer has
  abbrev pub AsksForPages : ℕ → Question K → Type 0
  AsksForPages rounds (Root settings) = rounds ≡ 0
  AsksForPages rounds (Outlines most gaps) = AllByRecursion (λ g. IsFilled 257 rounds (owned_gap g)) gaps.items
  AsksForPages rounds (Nodes most gaps) = AllByRecursion (λ g. IsFilled 257 0 (owned_gap g)) gaps.items
  AsksForPages rounds (RowsAt keys) = ⊤
  AsksForPages rounds (RowsIn gaps) = ⊤

  module _ (k : K) where
    -- how often the key is one of the nodes of the peer's page over a gap
    abbrev pub times_over : Gap K → ℕ
    times_over g = total (times_at laws.cmp k) (keys_among (nodes_among (outline_over peer.format laws.bytes_of laws.cmp root g)))

    -- how often it is asked about
    abbrev pub times_asked : Question K → ℕ
    times_asked (Root settings) = 1
    times_asked (Outlines most gaps) = total (λ g. times_in laws.cmp k (owned_gap g)) gaps.items
    times_asked (Nodes most gaps) = total (λ g. times_over (owned_gap g)) gaps.items
    times_asked (RowsAt keys) = total (λ w. times_at laws.cmp k w.key) keys.items
    times_asked (RowsIn gaps) = total (λ g. times_in laws.cmp k (owned_gap g)) gaps.items

    -- how often it is among what was found
    abbrev pub times_found : Found K V → ℕ
    times_found f =
        total (times_in laws.cmp k) f.below + (total times_over f.nodes + (total (times_at laws.cmp k) f.wanted
        + (total (times_in laws.cmp k) f.whole + total (λ r. times_at laws.cmp k r.0) f.rows)))

  -- something is asked for, of the peer's pages; the pages that were found are the peer's, on levels that the rounds suffice for; and no key is
  -- asked about or found twice
  pub record IsSteadyCatchUp (u : Underway K V) : Type 0 where
    pub some : AsksForSome u.asked
    pub asked : AsksForPages u.rounds u.asked
    pub below : AllByRecursion (IsFilled 256 u.rounds) u.found.below
    pub nodes : AllByRecursion (IsFilled 257 0) u.found.nodes
    pub once : (k : K) → times_asked k u.asked + times_found k u.found ≤ 1

-- how many of the rows are in a gap
abbrev pub count_in : {K V : Type 0} → (K → K → Ordering) → List (K × V) → Gap K → ℕ
count_in cmp rows g = total (λ r. times_in cmp r.0 g) rows

module _ {K V H : Type 0} (laws : Laws K V H) (peer : Side K V H) (root : Tree K (List ℕ)) where
  -- how many nodes the peer's page over a gap has
  abbrev pub nodes_over : Gap K → ℕ
  nodes_over g = length (keys_among (nodes_among (outline_over peer.format laws.bytes_of laws.cmp root g)))

  -- what is left to ask for, so that each exchange leaves less: of what was found, by a question, and by both
  abbrev pub left_of : Found K V → ℕ
  left_of f =
      3 * total (count_in laws.cmp peer.rows) f.below
      + (2 * total nodes_over f.nodes + (length f.wanted + (total (count_in laws.cmp peer.rows) f.whole + length f.whole)))

  abbrev pub left_by : Question K → ℕ
  left_by (Root settings) = 3 * length peer.rows + 2
  left_by (Outlines most gaps) = 3 * total (λ g. count_in laws.cmp peer.rows (owned_gap g)) gaps.items
  left_by (Nodes most gaps) = 2 * total (λ g. nodes_over (owned_gap g)) gaps.items
  left_by (RowsAt keys) = length keys.items
  left_by (RowsIn gaps) = total (λ g. count_in laws.cmp peer.rows (owned_gap g)) gaps.items + length gaps.items

  abbrev pub left_for : Underway K V → ℕ
  left_for u = left_by u.asked + left_of u.found

-- of the keys among what was found, the bounds of gaps and the keys that are wanted, this holds
pub record AreKeysOf {K V : Type 0} (is_key : K → Type 0) (f : Found K V) : Type 0 where
  pub below : AllByRecursion (HasKeyBounds is_key) f.below
  pub nodes : AllByRecursion (HasKeyBounds is_key) f.nodes
  pub wanted : AllByRecursion is_key f.wanted
  pub whole : AllByRecursion (HasKeyBounds is_key) f.whole

module _ {K V H : Type 0} (laws : Laws K V H) (local peer : Side K V H) where
  -- the key is one of either side
  abbrev pub IsKeyOfSides : K → Type 0
  IsKeyOfSides k = IsKeyOf laws.cmp local.rows k ⊎ IsKeyOf laws.cmp peer.rows k

  -- a catch-up asks about, and has found, keys of the two sides alone
  pub record HasKeysOfSides (u : Underway K V) : Type 0 where
    pub asked : IsQuestion IsKeyOfSides u.asked
    pub found : AreKeysOf IsKeyOfSides u.found
