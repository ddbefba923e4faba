-- The nodes of a level in a gap of a map's tree, and what stands between them.
use Rattle.std.specs.Prelude.{◌≡◌, ◌+◌, ℕ, suc, List, [], ◌∷◌, ◌++◌, length, Option, Some, string_bytes}
use Rattle.key_order.specs.Text.{Text}
use Rattle.merkle_digest.specs.SipHash.{siphash128, zero_key}
use Rattle.merkle_tree_theory.specs.Gap.{Gap, pairs_within}
use Rattle.merkle_tree_theory.specs.Stream.{head_bytes, none_bytes, below_bytes, key_bytes}
use Rattle.merkle_tree_theory.specs.Tree.{Held, nothing}
use Rattle.merkle_tree_theory.specs.declared.page_format.PageFormat.TheVariants.{V2}
use Rattle.store_tree.specs.Cells.{bytes_order, KeyDigests, AreUnder, IsPageWith, held_within}
use Rattle.store_tree.specs.Rows.{bound_bytes}
use Rattle.store_tree.specs.declared.cell.Known.{Known}
use Rattle.store_tree.specs.declared.cell.Known.TheVariants.{Unknown, Nothing, Page as ThePage}
use Rattle.store_tree.specs.declared.page.Node.{Node}
use Rattle.store_tree.specs.declared.page.Page.{Page}

-- the gap between two bounds
abbrev pub gap_between : Option (List ℕ) → Option (List ℕ) → Gap (List ℕ)
gap_between after before = record { after = after; before = before }

-- the gap between two texts, where there are these
abbrev pub text_gap : Option Text → Option Text → Gap (List ℕ)
text_gap after before = gap_between (bound_bytes after) (bound_bytes before)

-- what is known is all that stands in a gap
abbrev pub Tells : Known → Held (List ℕ) (List ℕ) → Type 0
Tells Unknown held = ⊥
Tells Nothing held = held ≡ nothing
Tells (ThePage digest count) held = IsPageWith digest count held

-- the list of pairs has the pair
abbrev pub HasPair : KeyDigests → List ℕ × List ℕ → Type 0
HasPair ps p = (front back : KeyDigests) × (ps ≡ front ++ p ∷ back)

module _ (lev : List ℕ → ℕ) (m : KeyDigests) (level : ℕ) where
  -- what is known of a gap is all that the map has there, on lower levels
  abbrev pub TellsGap : Known → Option (List ℕ) → Option (List ℕ) → Type 0
  TellsGap known after before = Tells known (held_within lev m (gap_between after before)) × AreUnder lev level (pairs_within bytes_order (gap_between after before) m)

  -- these are the pairs of the level in a gap in order, and what is known of the gaps before each and after the last
  abbrev pub TellsNodes : Option (List ℕ) → Option (List ℕ) → List Node → Known → Type 0
  TellsNodes after before [] last = TellsGap last after before
  TellsNodes after before (n ∷ ns) last =
      TellsGap n.before after (Some (string_bytes n.key)) × HasPair (pairs_within bytes_order (gap_between after before) m) (string_bytes n.key, n.digest)
      × (lev (string_bytes n.key) ≡ level) × TellsNodes (Some (string_bytes n.key)) before ns last

-- what stands for what is known of a gap
abbrev pub known_bytes : Known → List ℕ
known_bytes Unknown = []
known_bytes Nothing = none_bytes V2
known_bytes (ThePage digest count) = below_bytes V2 digest

-- what stands for a node and for what is before it
abbrev pub node_stream : Node → List ℕ
node_stream n = known_bytes n.before ++ key_bytes V2 (string_bytes n.key) ++ n.digest

-- what stands for nodes and what is around them
abbrev pub nodes_stream : List Node → Known → List ℕ
nodes_stream [] last = known_bytes last
nodes_stream (n ∷ ns) last = known_bytes n.before ++ key_bytes V2 (string_bytes n.key) ++ n.digest ++ nodes_stream ns last

-- the digest of a page of a level with these nodes
abbrev pub digest_by_nodes : ℕ → Page → List ℕ
digest_by_nodes level page = siphash128 zero_key (head_bytes V2 level (length page.nodes.items) ++ nodes_stream page.nodes.items page.last)

-- how many keys are known to be in a gap
abbrev pub known_count : Known → ℕ
known_count Unknown = 0
known_count Nothing = 0
known_count (ThePage digest count) = count

-- how many keys nodes and the pages around them have
abbrev pub nodes_count : List Node → Known → ℕ
nodes_count [] last = known_count last
nodes_count (n ∷ ns) last = known_count n.before + suc (nodes_count ns last)

-- what is known of a gap in which these nodes stand, and those of a page are these
abbrev pub known_by : ℕ → Page → List Node → Known
known_by level page [] = page.last
known_by level page (n ∷ ns) = ThePage (digest_by_nodes level page) (nodes_count page.nodes.items page.last)

abbrev pub known_of : ℕ → Page → Known
known_of level page = known_by level page page.nodes.items
