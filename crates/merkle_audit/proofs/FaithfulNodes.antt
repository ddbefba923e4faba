-- What was looked at in the tree of a side holds in each tree of its map.
use Rattle.std.proofs.Common.{◌≡◌, ℕ, List, ◌∷◌, map, refl, sym, ap, subst, ◌∙◌, inl, inr}
use Rattle.std.specs.Cmp.{IsTotalOrder}
use Rattle.std.specs.declared.cmp.Ordering.{Ordering}
use Rattle.key_order.specs.Map.{get}
use Rattle.key_order.proofs.Maps.{get_same}
use Rattle.key_order.proofs.SameMaps.{same_map-own}
use Rattle.merkle_replica.specs.Contents.{IsTreeOfSide, Side, tree_map}
use Rattle.merkle_replica.specs.Laws.{Laws}
use Rattle.merkle_tree_theory.specs.Canonical.{SameHeld, SamePages, SameRow}
use Rattle.merkle_tree_theory.specs.OneTree.{TreesOfEqualMaps}
use Rattle.merkle_tree_theory.specs.Page.{nodes_of, pair_of, row_nodes}
use Rattle.merkle_tree_theory.specs.Ranges.{IsPageIn, IsPageInHeld, IsPageInRow}
use Rattle.merkle_tree_theory.specs.Tree.{Tree, page, Row, high, node, Held, nothing, below}
use Rattle.merkle_wire.specs.Outlines.{digest_of_all, keys_among}
use Rattle.merkle_wire.specs.Sessions.{HaveFaithfulNodes}
use Rattle.merkle_audit.specs.Nodes.{AreFaithfulIn}

module _ {K : Type 0} (cmp : K → K → Ordering) where
  -- a tree has the same pages as one with the same root page
  abbrev HasSame : Tree K (List ℕ) → (Tree K (List ℕ) → Type 0) → Type 0
  HasSame s P = (t : Tree K (List ℕ)) × P t × SamePages cmp s t

  mutual
    pub same_page_in : (t u : Tree K (List ℕ)) → SamePages cmp t u → (s : Tree K (List ℕ)) → IsPageIn s t → HasSame s (λ v. IsPageIn v u)
    same_page_in (page l c r) (page l' c' r') same s (inl e) = (page l' c' r', inl refl, subst (λ v. SamePages cmp v (page l' c' r')) (sym e) same)
    same_page_in (page l c r) (page l' c' r') same s (inr i) = let (v, j, q) = same_in_row r r' same.2 s i in (v, inr j, q)

    same_in_row : (r r' : Row K (List ℕ)) → SameRow cmp r r' → (s : Tree K (List ℕ)) → IsPageInRow s r → HasSame s (λ v. IsPageInRow v r')
    same_in_row (high h) (high h') same s i = same_in_held h h' same s i
    same_in_row (high h) (node h' k' d' r') same s i = absurd same
    same_in_row (node h k d r) (high h') same s i = absurd same
    same_in_row (node h k d r) (node h' k' d' r') same s (inl i) = let (v, j, q) = same_in_held h h' same.0 s i in (v, inl j, q)
    same_in_row (node h k d r) (node h' k' d' r') same s (inr i) = let (v, j, q) = same_in_row r r' same.3 s i in (v, inr j, q)

    same_in_held : (h h' : Held K (List ℕ)) → SameHeld cmp h h' → (s : Tree K (List ℕ)) → IsPageInHeld s h → HasSame s (λ v. IsPageInHeld v h')
    same_in_held nothing h' same s i = absurd i
    same_in_held (below t) nothing same s i = absurd same
    same_in_held (below t) (below t') same s i = same_page_in t t' same s i

  -- nodes of same pages have equal digests, and what a map has at their keys
  row_digests : (r r' : Row K (List ℕ)) → SameRow cmp r r' → map (λ n. n.1) (map pair_of (row_nodes r')) ≡ map (λ n. n.digest) (row_nodes r)
  row_digests (high h) (high h') same = refl
  row_digests (high h) (node h' k' d' r') same = absurd same
  row_digests (node h k d r) (high h') same = absurd same
  row_digests (node h k d r) (node h' k' d' r') same = let more = row_digests r r' same.3 in (λ i. sym same.2 i ∷ more i)

  module _ (o : IsTotalOrder cmp) (m : List (K × List ℕ)) where
    row_own : (r r' : Row K (List ℕ)) → SameRow cmp r r' → map (get cmp m) (keys_among (map pair_of (row_nodes r'))) ≡ map (λ n. get cmp m n.key) (row_nodes r)
    row_own (high h) (high h') same = refl
    row_own (high h) (node h' k' d' r') same = absurd same
    row_own (node h k d r) (high h') same = absurd same
    row_own (node h k d r) (node h' k' d' r') same =
        let here = sym (get_same cmp o m k k' same.1) in
        let more = row_own r r' same.3 in
        (λ i. here i ∷ more i)

    pub page_own : (s t : Tree K (List ℕ)) → SamePages cmp s t → map (get cmp m) (keys_among (map pair_of (nodes_of t))) ≡ map (λ n. get cmp m n.key) (nodes_of s)
    page_own (page l c r) (page l' c' r') same = row_own r r' same.2

  pub page_digests : (s t : Tree K (List ℕ)) → SamePages cmp s t → map (λ n. n.1) (map pair_of (nodes_of t)) ≡ map (λ n. n.digest) (nodes_of s)
  page_digests (page l c r) (page l' c' r') same = row_digests r r' same.2

module _ {K V H : Type 0} (laws : Laws K V H) (o : IsTotalOrder laws.cmp) (one_tree : TreesOfEqualMaps laws.cmp laws.key_digest (SamePages laws.cmp)) where
  -- so they are faithful in each tree of the peer's map
  pub faithful_in_all : (local peer : Side K V H) (root : Tree K (List ℕ)) → IsTreeOfSide laws peer root → AreFaithfulIn laws local root → HaveFaithfulNodes laws local peer
  faithful_in_all local peer root of_peer faithful ds es met =
      let m = tree_map laws peer in
      let (t, is_tree, i) = met.1 in
      let one : SamePages laws.cmp t root = one_tree peer.hasher peer.base m m t root (same_map-own laws.cmp o m) is_tree of_peer in
      let (s, j, same) = same_page_in laws.cmp t root one met.0 i in
      let theirs = page_digests laws.cmp met.0 s same ∙ met.3 in
      faithful s j ds (page_own laws.cmp o (tree_map laws local) met.0 s same ∙ met.2) (met.4 ∙ sym (ap digest_of_all theirs)) ∙ theirs
