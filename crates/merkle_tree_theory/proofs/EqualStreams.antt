-- What equal streams of format 2 tell of two pages.
use Rattle.std.specs.Prelude.{◌≡◌, ℕ, List, ⊤}
use Rattle.merkle_tree_theory.specs.Tree.{Row, high, node, Held, nothing, below}
use Rattle.merkle_tree_theory.specs.declared.page_format.PageFormat.{PageFormat}
use Rattle.merkle_tree_theory.specs.Stream.{page_digest}

module _ {K : Type 0} (format : PageFormat) (bytes_of : K → List ℕ) where
  -- a page is there on both sides, with equal digests, or on neither
  abbrev pub SameBelow : Held K (List ℕ) → Held K (List ℕ) → Type 0
  SameBelow nothing nothing = ⊤
  SameBelow nothing (below t') = ⊥
  SameBelow (below t) nothing = ⊥
  SameBelow (below t) (below t') = page_digest format bytes_of t ≡ page_digest format bytes_of t'

  -- as many nodes, and place by place pages below with equal digests, keys with equal bytes and equal value digests; so too the high pages
  abbrev pub SameParts : Row K (List ℕ) → Row K (List ℕ) → Type 0
  SameParts (high h) (high h') = SameBelow h h'
  SameParts (high h) (node h' k' d' r') = ⊥
  SameParts (node h k d r) (high h') = ⊥
  SameParts (node h k d r) (node h' k' d' r') = SameBelow h h' × (bytes_of k ≡ bytes_of k') × (d ≡ d') × SameParts r r'
