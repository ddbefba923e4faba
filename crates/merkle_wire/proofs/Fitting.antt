-- Digests in replies have the bytes that they are to have, on both sides.
use Rattle.std.proofs.Common.{◌≡◌, ℕ, suc, Bool, true, false, List, [], ◌∷◌, length, Option, Some, None, refl, sym, ap, subst, ◌∙◌, ◌⊎◌, inl, inr, arith}
use Rattle.std.specs.List.{AllByRecursion}
use Rattle.std.specs.Cmp.{IsTotalOrder}
use Rattle.std.specs.Ordering.{is_eq}
use Rattle.std.specs.declared.cmp.Ordering.{Ordering}
use Rattle.key_order.specs.Map.{get}
use Rattle.key_order.proofs.Bools.{which}
use Rattle.key_order.proofs.Maps.{past_head}
use Rattle.merkle_digest.specs.SipHash.{zero_key}
use Rattle.merkle_replica.specs.Contents.{Side}
use Rattle.merkle_replica.specs.Laws.{Laws}
use Rattle.merkle_replica.proofs.Descents.{some_is}
use Rattle.merkle_tree_theory.specs.Gap.{Gap, part_behind}
use Rattle.merkle_tree_theory.specs.Lookup.{page_over}
use Rattle.merkle_tree_theory.specs.Outline.{Item, of_node, of_page, outline_where, outline_over}
use Rattle.merkle_tree_theory.specs.Tree.{Tree, page, Row, high, node, nothing, below}
use Rattle.merkle_tree_theory.specs.declared.page_format.PageFormat.{PageFormat}
use Rattle.merkle_tree_theory.proofs.StreamParts.{hash_length, digest_length}
use Rattle.merkle_wire.specs.Coming.{IsPageDigest, LiesIn}
use Rattle.merkle_wire.specs.Underway.{Found}
use Rattle.merkle_wire.specs.Gaps.{owned_gap}
use Rattle.merkle_wire.specs.Outlines.{Outline, rows_told, digests_told, page_told, IsTold, nodes_among, keys_among, pages_beside}
use Rattle.merkle_wire.specs.Taking.{AreNewGaps, IsPageTaken, AreTaken}
use Rattle.merkle_wire.specs.declared.gaps.OwnedGap.{OwnedGap}
use Rattle.merkle_wire.proofs.PagesBelow.{items_in}
use Rattle.merkle_wire.proofs.TellingReplies.{Fits}

-- what holds of each value of a map holds of one that is found
pub found_each : {K D : Type 0} (cmp : K → K → Ordering) (o : IsTotalOrder cmp) (P : D → Type 0) (m : List (K × D)) (k : K) (d : D) → AllByRecursion (λ p. P p.1) m → get cmp m k ≡ Some d → P d
found_each cmp o P [] k d a e = absurd (cc)
found_each cmp o P (p ∷ ps) k d a e = go (which (is_eq (cmp p.0 k))) (found_each cmp o P ps k d a.1)
  where
    go : (is_eq (cmp p.0 k) ≡ false) ⊎ (is_eq (cmp p.0 k) ≡ true) → (get cmp ps k ≡ Some d → P d) → P d
    go (inl n) more = more (sym (past_head cmp o p ps k n) ∙ e)
    go (inr n) more = subst P (some_is p.1 d ((rw n at e))) a.0

-- on the side that reads
module _ {K V : Type 0} (cmp : K → K → Ordering) (n : ℕ) where
  pub one_lies : (gap : Gap K) (x : Outline K V) → LiesIn cmp n gap x → Fits n x
  one_lies gap (rows_told rows) l = tt
  one_lies gap (digests_told nodes) l = l.1
  one_lies gap (page_told digest keys pages) l = (l.2, omega (arith, l.4), l.3)

module _ {K V H : Type 0} (laws : Laws K V H) (local : Side K V H) (n : ℕ) where
  gaps_length : (gap : Gap K) (ks : List K) (ps : List (Option (List ℕ))) (new : List (Gap K)) → AreNewGaps laws local gap ks ps new → length ps ≡ suc (length ks)
  gaps_length gap [] [] new a = absurd a
  gaps_length gap [] (p ∷ []) new a = refl
  gaps_length gap [] (p ∷ q ∷ ps) new a = absurd a
  gaps_length gap (k ∷ ks) [] new a = absurd a
  gaps_length gap (k ∷ ks) (p ∷ ps) new (first, rest, one, more, q) = ap suc (gaps_length (part_behind gap k) ks ps rest more)

  one_fits : (gap : Gap K) (x : Outline K V) (before after : Found K V) → LiesIn laws.cmp n gap x → IsPageTaken laws local gap x before after → Fits n x
  one_fits gap (rows_told rows) before after l t = tt
  one_fits gap (digests_told nodes) before after l t = l.1
  one_fits gap (page_told digest keys pages) before after l (gaps, nodes, new, own, t) = (l.2, gaps_length gap keys pages gaps new, l.3)

  pub fits_read : (ts : List (OwnedGap K × Outline K V)) (before after : Found K V) → AllByRecursion (λ t. LiesIn laws.cmp n (owned_gap t.0) t.1) ts
      → AreTaken laws local ts before after → AllByRecursion (λ t. Fits n t.1) ts
  fits_read [] before after l a = tt
  fits_read (t ∷ ts) before after l (mid, one, more) = (one_fits (owned_gap t.0) t.1 before mid l.0 one, fits_read ts mid after l.1 more)

module _ {K : Type 0} where
  beside_length : (before : Option (List ℕ)) (items : List (Item K (List ℕ))) → length (pages_beside before items) ≡ suc (length (keys_among (nodes_among items)))
  beside_length before [] = refl
  beside_length before (of_node k d ∷ xs) = ap suc (beside_length None xs)
  beside_length before (of_page g d ∷ xs) = beside_length (Some d) xs

  module _ (cmp : K → K → Ordering) (o : IsTotalOrder cmp) (format : PageFormat) (bytes_of : K → List ℕ) where
    row_pages : (g : Gap K) (r : Row K (List ℕ)) → AllByRecursion IsPageDigest (pages_beside None (items_in cmp o format bytes_of g r))
    row_pages g (high nothing) = (tt, tt)
    row_pages g (high (below t)) = (digest_length format bytes_of t, tt)
    row_pages g (node nothing k d r) = (tt, row_pages (part_behind g k) r)
    row_pages g (node (below t) k d r) = (digest_length format bytes_of t, row_pages (part_behind g k) r)

    pages_over : (root : Tree K (List ℕ)) (g : Gap K) → AllByRecursion IsPageDigest (pages_beside None (outline_over format bytes_of cmp root g))
    pages_over root g = go (page_over cmp g root)
      where
        go : (found : Option (Tree K (List ℕ))) → AllByRecursion IsPageDigest (pages_beside None (outline_where format bytes_of g found))
        go None = (tt, tt)
        go (Some (page l c r)) = row_pages g r

    -- on the side that wrote
    pub fits_sent : {V : Type 0} (n : ℕ) (rows : List (K × V)) (with_pages : Bool) (root : Tree K (List ℕ)) (g : Gap K) (x : Outline K V)
        → AllByRecursion (λ m. length m.1 ≡ n) (nodes_among (outline_over format bytes_of cmp root g))
        → IsTold cmp rows with_pages (outline_over format bytes_of cmp root g) x → Fits n x
    fits_sent n rows with_pages root g (rows_told rs) a t = tt
    fits_sent n rows with_pages root g (digests_told nodes) a t = subst (AllByRecursion (λ m. length m.1 ≡ n)) (sym t.1) a
    fits_sent n rows with_pages root g (page_told digest keys pages) a (told, digests, are, beside) = (
      ap length digests ∙ hash_length zero_key _,
      ap length beside ∙ beside_length None (outline_over format bytes_of cmp root g) ∙ ap (λ ks. suc (length ks)) (sym are),
      subst (AllByRecursion IsPageDigest) (sym beside) (pages_over root g),
    )
