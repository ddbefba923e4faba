-- The nodes of the pages over gaps with equal bounds, in trees of one map, are the same.
use Rattle.std.specs.Prelude.{⊤}
use Rattle.std.proofs.Common.{◌≡◌, ℕ, Bool, true, false, List, Option, Some, None, if◌then◌else◌, refl, ap, subst, ◌∙◌}
use Rattle.std.specs.Cmp.{IsTotalOrder, alike_right}
use Rattle.std.specs.Ordering.{is_lt}
use Rattle.std.specs.declared.cmp.Ordering.{Ordering}
use Rattle.key_order.specs.Order.{AnyByRecursion, Same}
use Rattle.key_order.proofs.SameKeys.{SameKeys, any-same}
use Rattle.merkle_search_tree.proofs.SameItems.{page_over-alike}
use Rattle.merkle_tree_theory.specs.Canonical.{SamePages, SameRow, SameHeld}
use Rattle.merkle_tree_theory.specs.Gap.{Gap, SameGap, is_after, is_before, part_behind}
use Rattle.merkle_tree_theory.specs.Lookup.{page_over, row_over, held_over}
use Rattle.merkle_tree_theory.specs.Outline.{outline_where, outline_over}
use Rattle.merkle_tree_theory.specs.Tree.{Tree, page, Row, high, node, Held, nothing, below}
use Rattle.merkle_tree_theory.specs.declared.page_format.PageFormat.{PageFormat}
use Rattle.merkle_wire.specs.Outlines.{nodes_among, keys_among}
use Rattle.merkle_wire.proofs.PagesBelow.{nodes_in}

module _ {K : Type 0} (cmp : K → K → Ordering) (o : IsTotalOrder cmp) where
  -- pages that are both absent, or the same
  abbrev pub SameFound : Option (Tree K (List ℕ)) → Option (Tree K (List ℕ)) → Type 0
  SameFound None None = ⊤
  SameFound None (Some u) = ⊥
  SameFound (Some t) None = ⊥
  SameFound (Some t) (Some u) = SamePages cmp t u

  module _ (g : Gap K) where
    after-same : (a : Option K) (k j : K) → Same cmp k j → is_after cmp a k ≡ is_after cmp a j
    after-same None k j s = refl
    after-same (Some a) k j s = ap is_lt (alike_right o k j a s)

    before-same : (b : Option K) (k j : K) → Same cmp k j → is_before cmp b k ≡ is_before cmp b j
    before-same None k j s = refl
    before-same (Some b) k j s = ap is_lt (o.congr k j b s)

    mutual
      pub over-same : (t u : Tree K (List ℕ)) → SamePages cmp t u → SameFound (page_over cmp g t) (page_over cmp g u)
      over-same (page l c r) (page m e s) q = row_over-same (page l c r) (page m e s) r s q q.2

      row_over-same : (t u : Tree K (List ℕ)) (r s : Row K (List ℕ)) → SamePages cmp t u → SameRow cmp r s → SameFound (row_over cmp g t r) (row_over cmp g u s)
      row_over-same t u (high h) (high i) q p = held_over-same h i p
      row_over-same t u (high h) (node i j e s) q p = absurd p
      row_over-same t u (node h k d r) (high i) q p = absurd p
      row_over-same t u (node h k d r) (node i j e s) q p =
          subst (λ b. SameFound (row_over cmp g t (node h k d r))
          (if b then (if (is_before cmp g.before j) then (Some u) else (held_over cmp g i)) else (row_over cmp g u s))) (after-same g.after k j p.1)
          (subst (λ c. SameFound (row_over cmp g t (node h k d r))
          (if (is_after cmp g.after k) then (if c then (Some u) else (held_over cmp g i)) else (row_over cmp g u s))) (before-same g.before k j p.1)
          (by (is_after cmp g.after k) (is_before cmp g.before k) (held_over-same h i p.0) (row_over-same t u r s q p.3)))
        where
          by : (a b : Bool) → SameFound (held_over cmp g h) (held_over cmp g i) → SameFound (row_over cmp g t r) (row_over cmp g u s)
              → SameFound (if a then (if b then (Some t) else (held_over cmp g h)) else (row_over cmp g t r)) (if a then (if b then (Some u) else (held_over cmp g i)) else (row_over cmp g u s))
          by true true f m = q
          by true false f m = f
          by false b f m = m

      held_over-same : (h i : Held K (List ℕ)) → SameHeld cmp h i → SameFound (held_over cmp g h) (held_over cmp g i)
      held_over-same nothing nothing q = tt
      held_over-same nothing (below u) q = absurd q
      held_over-same (below t) nothing q = absurd q
      held_over-same (below t) (below u) q = over-same t u q

  module _ (format : PageFormat) (bytes_of : K → List ℕ) where
    nodes-same : (g h : Gap K) (r s : Row K (List ℕ)) → SameRow cmp r s → SameKeys cmp (keys_among (nodes_in cmp o format bytes_of g r)) (keys_among (nodes_in cmp o format bytes_of h s))
    nodes-same g h (high nothing) (high nothing) q = tt
    nodes-same g h (high nothing) (high (below u)) q = absurd q
    nodes-same g h (high (below t)) (high nothing) q = absurd q
    nodes-same g h (high (below t)) (high (below u)) q = tt
    nodes-same g h (high x) (node y j e s) q = absurd q
    nodes-same g h (node x k d r) (high y) q = absurd q
    nodes-same g h (node nothing k d r) (node nothing j e s) q = (q.1, nodes-same (part_behind g k) (part_behind h j) r s q.3)
    nodes-same g h (node nothing k d r) (node (below u) j e s) q = absurd q.0
    nodes-same g h (node (below t) k d r) (node nothing j e s) q = absurd q.0
    nodes-same g h (node (below t) k d r) (node (below u) j e s) q = (q.1, nodes-same (part_behind g k) (part_behind h j) r s q.3)

    abbrev pub keys_over : Tree K (List ℕ) → Gap K → List K
    keys_over root g = keys_among (nodes_among (outline_over format bytes_of cmp root g))

    pub keys_over-same : (root tree : Tree K (List ℕ)) (g h : Gap K) → SamePages cmp root tree → SameGap cmp g h → SameKeys cmp (keys_over root g) (keys_over tree h)
    keys_over-same root tree g h q s =
        by (page_over cmp g root) (page_over cmp h tree) (subst (SameFound (page_over cmp g root)) (page_over-alike cmp o g h s tree) (over-same g root tree q))
      where
        by : (x y : Option (Tree K (List ℕ))) → SameFound x y → SameKeys cmp (keys_among (nodes_among (outline_where format bytes_of g x)))
            (keys_among (nodes_among (outline_where format bytes_of h y)))
        by None None f = tt
        by None (Some u) f = absurd f
        by (Some t) None f = absurd f
        by (Some (page l c r)) (Some (page m e w)) f = nodes-same g h r w f.2

    -- a key of a node of the one is that of a node of the other
    pub node_over-same : (root tree : Tree K (List ℕ)) (g h : Gap K) (k : K) → SamePages cmp root tree → SameGap cmp g h → AnyByRecursion (Same cmp k) (keys_over root g)
        → AnyByRecursion (Same cmp k) (keys_over tree h)
    node_over-same root tree g h k q s = any-same cmp (Same cmp k) (Same cmp k) (λ a b t f. o.congr k a b f ∙ t) (keys_over root g) (keys_over tree h) (keys_over-same root tree g h q s)
