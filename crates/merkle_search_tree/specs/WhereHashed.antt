-- What a tree answers of its pages where it is hashed.
use Rattle.std.specs.Prelude.{◌≡◌, ◌≢◌, List, ℕ, Bool, false, nat_eq, Option, None, Some, IsTrue, MatchOption}
use Rattle.std.specs.Cmp.Lexicographic.{pointwise}
use Rattle.std.specs.declared.alloc.Global.{Global}
use Rattle.std.specs.declared.cmp.Ordering.{Ordering}
use Rattle.std.specs.declared.vec.Vec.{Vec}
use Rattle.merkle_tree_theory.specs.Gap.{Gap}
use Rattle.merkle_tree_theory.specs.Lookup.{Fills, page_over}
use Rattle.merkle_tree_theory.specs.Outline.{outline_over}
use Rattle.merkle_tree_theory.specs.Ranges.{IsPageIn}
use Rattle.merkle_tree_theory.specs.State.{State}
use Rattle.merkle_tree_theory.specs.Stream.{page_digest}
use Rattle.merkle_tree_theory.specs.Tree.{Tree}
use Rattle.merkle_tree_theory.specs.declared.page_format.PageFormat.{PageFormat}
use Rattle.merkle_search_tree.specs.Items.{items}
use Rattle.merkle_search_tree.specs.declared.outline.OutlineItemOf.{OutlineItemOf}

-- nothing is found only where the tree isn't hashed, and what is found is so
abbrev pub WhereHashed : {K H X : Type 0} → State K H → (X → Type 0) → Option X → Type 0
WhereHashed tree Is found = MatchOption found (tree.root_hash ≡ None) Is

-- a page of the tree has the digest
abbrev pub HasPageWith : {K H : Type 0} → (K → List ℕ) → State K H → List ℕ → Type 0
HasPageWith {K} bytes_of tree digest = (page : Tree K (List ℕ)) × IsPageIn page tree.root × (page_digest tree.format bytes_of page ≡ digest)

-- whether there is a page, and it has the digest
abbrev pub is_page_with : {K : Type 0} → PageFormat → (K → List ℕ) → List ℕ → Option (Tree K (List ℕ)) → Bool
is_page_with format bytes_of digest None = false
is_page_with format bytes_of digest (Some t) = pointwise nat_eq (page_digest format bytes_of t) digest

module _ {K H : Type 0} (cmp : K → K → Ordering) (bytes_of : K → List ℕ) (tree : State K H) (gap : Gap K) where
  -- where the tree is hashed, the answer is whether the page over the gap has the digest
  abbrev pub TellsPageOver : List ℕ → Bool → Type 0
  TellsPageOver digest answer = tree.root_hash ≢ None → answer ≡ is_page_with tree.format bytes_of digest (page_over cmp gap tree.root)

  -- where the tree is hashed, and a page of this digest fills the gap, the answer is true
  abbrev pub FindsFillingPage : List ℕ → Bool → Type 0
  FindsFillingPage digest answer = tree.root_hash ≢ None → (page : Tree K (List ℕ)) → Fills cmp gap page tree.root
      → page_digest tree.format bytes_of page ≡ digest → IsTrue answer

  -- the tree is hashed, and the list is the outline of the page over the gap
  abbrev pub IsOutlineOver : Vec (OutlineItemOf K (List ℕ)) Global → Type 0
  IsOutlineOver list = (tree.root_hash ≢ None) × (items list.items ≡ outline_over tree.format bytes_of cmp tree.root gap)
