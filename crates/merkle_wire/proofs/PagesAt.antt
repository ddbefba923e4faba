-- A page that a side has at a gap, in one tree of its map, it has there in each.
use Rattle.std.proofs.Common.{◌≡◌, ℕ, List, sym, ◌∙◌}
use Rattle.std.specs.Cmp.{IsTotalOrder}
use Rattle.key_order.specs.Map.{IsMap}
use Rattle.key_order.proofs.SameMaps.{ascends}
use Rattle.merkle_replica.specs.Contents.{Side, tree_map}
use Rattle.merkle_replica.specs.Laws.{Laws}
use Rattle.merkle_tree_theory.specs.Canonical.{IsTreeOf, SamePages}
use Rattle.merkle_tree_theory.specs.Gap.{Gap}
use Rattle.merkle_tree_theory.specs.Lookup.{Fills}
use Rattle.merkle_tree_theory.specs.Page.{pairs}
use Rattle.merkle_tree_theory.specs.Stream.{page_digest}
use Rattle.merkle_tree_theory.specs.Tree.{Tree}
use Rattle.merkle_tree_theory.proofs.SameRanges.{same-pairs}
use Rattle.merkle_wire.specs.Taking.{HasPageAt}
use Rattle.merkle_wire.proofs.FilledGaps.{fills-same}

module _ {K V H : Type 0} (laws : Laws K V H) (o : IsTotalOrder laws.cmp) (side : Side K V H) where
  abbrev pub IsOwn : Tree K (List ℕ) → Type 0
  IsOwn root = IsTreeOf laws.cmp (laws.key_digest side.hasher) side.base root (tree_map laws side)

  pub page_in_each : (same : (t u : Tree K (List ℕ)) → IsOwn t → IsOwn u → SamePages laws.cmp t u)
      → (digests : (t u : Tree K (List ℕ)) → SamePages laws.cmp t u → page_digest side.format laws.bytes_of t ≡ page_digest side.format laws.bytes_of u)
      → (gap : Gap K) (digest : List ℕ) → HasPageAt laws side gap digest → (root : Tree K (List ℕ)) → IsMap laws.cmp (pairs root) → IsOwn root
      → (own : Tree K (List ℕ)) × Fills laws.cmp gap own root × (page_digest side.format laws.bytes_of own ≡ digest)
  page_in_each same digests gap digest (met, found, own, fills, is) root up of =
      let alike = same met root own of in
      let up_met : IsMap laws.cmp (pairs met) = ascends laws.cmp o (λ d e. d ≡ e) (pairs met) (pairs root) (same-pairs laws.cmp met root alike) up in
      let (here, filled, alike_here) = fills-same laws.cmp o gap found met root up_met alike fills in
      (here, filled, sym (digests found here alike_here) ∙ is)
