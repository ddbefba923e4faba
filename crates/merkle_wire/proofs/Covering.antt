-- What a catch-up under way covers of what a side lacks, and that its first question tells own settings.
use Rattle.std.specs.Prelude.{◌≡◌, ℕ, List, ⊤, ◌⊎◌, true, Some}
use Rattle.std.specs.List.{AllByRecursion}
use Rattle.key_order.specs.Order.{AnyByRecursion, Same}
use Rattle.merkle_replica.specs.CatchUp.{IsLacked}
use Rattle.merkle_replica.specs.Contents.{Side, tree_map}
use Rattle.merkle_replica.specs.Faithful.{HasSmallMap}
use Rattle.merkle_replica.specs.Laws.{Laws}
use Rattle.merkle_tree_theory.specs.Canonical.{IsTreeOf}
use Rattle.merkle_tree_theory.specs.Gap.{Gap, IsInGap}
use Rattle.merkle_tree_theory.specs.Outline.{outline_over}
use Rattle.merkle_tree_theory.specs.Tree.{Tree}
use Rattle.merkle_bytes.specs.Options.{IsOption}
use Rattle.merkle_wire.specs.Underway.{Found, Underway}
use Rattle.merkle_wire.specs.Gaps.{owned_gap}
use Rattle.merkle_wire.specs.Outlines.{nodes_among, keys_among}
use Rattle.merkle_wire.specs.Questions.{question_bytes}
use Rattle.merkle_wire.specs.declared.catching_up.Next.{Next}
use Rattle.merkle_wire.specs.declared.catching_up.Next.TheVariants.{Ask, Came}
use Rattle.merkle_wire.specs.declared.question.Question.{Question}
use Rattle.merkle_wire.specs.declared.question.Question.TheVariants.{Root, Outlines, Nodes, RowsAt, RowsIn}
use Rattle.merkle_wire.specs.Sessions.{IsNewRow, AreBrought, IsFaithfulSession}
use Rattle.key_order.specs.Map.{get}
use Rattle.merkle_wire.proofs.Lacking.{IsInOneOf}

module _ {K V H : Type 0} (laws : Laws K V H) (n : ℕ) (side : Side K V H) where
  -- a question for the root tells the settings of the side, whose digests of values have n bytes
  abbrev pub TellsOwn : Question K → Type 0
  TellsOwn (Root s) = (s.level_base ≡ side.base) × (s.page_format ≡ side.format) × (s.digest_bytes ≡ n) × IsOption (λ p. p.1.items ≡ laws.key_digest side.hasher p.0) s.sample
  TellsOwn _ = ⊤

module _ {K V H : Type 0} (laws : Laws K V H) (peer : Side K V H) (root : Tree K (List ℕ)) where
  -- the key is that of a node of the peer's page over the gap
  abbrev pub IsNodeOver : K → Gap K → Type 0
  IsNodeOver k g = AnyByRecursion (Same laws.cmp k) (keys_among (nodes_among (outline_over peer.format laws.bytes_of laws.cmp root g)))

  -- the question asks about the key: about all, about those in gaps, about the nodes of the pages over gaps, or about keys
  abbrev pub AsksAbout : K → Question K → Type 0
  AsksAbout k (Root settings) = ⊤
  AsksAbout k (Outlines most gaps) = IsInOneOf laws.cmp gaps.items k
  AsksAbout k (Nodes most gaps) = AnyByRecursion (λ g. IsNodeOver k (owned_gap g)) gaps.items
  AsksAbout k (RowsAt keys) = AnyByRecursion (λ w. Same laws.cmp k w.key) keys.items
  AsksAbout k (RowsIn gaps) = IsInOneOf laws.cmp gaps.items k

  -- the key is among what was found: in a gap of a page, a node of one, a key that is wanted, in a gap of which all rows are, or a row's
  abbrev pub IsAmong : K → Found K V → Type 0
  IsAmong k f =
      AnyByRecursion (IsInGap laws.cmp k) f.below ⊎ (AnyByRecursion (IsNodeOver k) f.nodes
      ⊎ (AnyByRecursion (Same laws.cmp k) f.wanted ⊎ (AnyByRecursion (IsInGap laws.cmp k) f.whole ⊎ AnyByRecursion (λ r. Same laws.cmp k r.0) f.rows)))

module _ {K V H : Type 0} (laws : Laws K V H) (local peer : Side K V H) where
  -- the row is one of the peer's: an equal key, with an equal value
  abbrev pub IsRowOfPeer : K × V → Type 0
  IsRowOfPeer row = (v : V) × (get laws.cmp peer.rows row.0 ≡ Some v) × (laws.eq row.1 v ≡ true)

module _ {K V H : Type 0} (laws : Laws K V H) (local peer : Side K V H) (root : Tree K (List ℕ)) where
  -- each row that was found is new; and while digests are faithful, each key that local lacks is asked about or among what was found
  pub record Covers (u : Underway K V) : Type 0 where
    pub new : AllByRecursion (IsNewRow laws local peer) u.found.rows
    pub all : IsFaithfulSession laws local peer → (k : K) → IsLacked laws local peer k → AsksAbout laws peer root k u.asked ⊎ IsAmong laws peer root k u.found

  -- the message that is sent next asks what the catch-up asks, which covers what is missing; or the rows came
  abbrev pub CoversNext : (K → List ℕ) → Next K V → Type 0
  CoversNext encoding (Ask session message) = (message.items ≡ question_bytes encoding session.asked) × Covers session
  CoversNext encoding (Came rows) = AreBrought laws local peer rows.items

module _ {K V H : Type 0} (laws : Laws K V H) (n : ℕ) (peer : Side K V H) where
  -- where the peer's map is small, this holds by each tree of it
  abbrev pub ForItsTrees : (Tree K (List ℕ) → Type 0) → Type 0
  ForItsTrees P = (root : Tree K (List ℕ)) → IsTreeOf laws.cmp (laws.key_digest peer.hasher) peer.base root (tree_map laws peer) → HasSmallMap laws n peer → P root
