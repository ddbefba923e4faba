-- What a removal does to a page.
use Rattle.std.specs.Prelude.{ℕ, zero, suc, List, [], ◌∷◌, Option, Some, None, ◌⊎◌, ◌≡◌, ⊤}
use Rattle.std.specs.declared.cmp.Ordering.{Ordering}
use Rattle.std.specs.declared.cmp.Ordering.TheVariants.{Equal}
use Rattle.std.specs.Ordering.{match_ordering, nat_cmp}
use Rattle.merkle_tree_theory.specs.Tree.{Tree, page, Row, high, node, Held, nothing, below, Node}
use Rattle.merkle_tree_theory.specs.TreeOf.{root_of}
use Rattle.merkle_tree_theory.specs.Upsert.{as_held}

-- a page t of level l under what is above it: `on` puts a row after the row of t, with the two gaps in the middle joined
module _ {K D : Type 0} (t : Tree K D) (l : ℕ) (on : Row K D → Row K D) where
  abbrev mutual
    -- t joined with what stands above it: the higher page takes the lower one into its first or last gap, and two of one level are one
    pub under : Held K D → Held K D
    under nothing = below t
    under (below u) = below (tree_under u)

    pub tree_under : Tree K D → Tree K D
    tree_under (page m c s) = match_ordering (nat_cmp l m) (page m None (row_under s)) (page l None (on s)) (page l None (on (high (below (page m c s)))))

    -- t joined into the first gap of a row
    pub row_under : Row K D → Row K D
    row_under (high h) = high (under h)
    row_under (node h k d s) = node (under h) k d s

module _ {K D : Type 0} where
  abbrev mutual
    -- what stands in two neighbouring gaps, put together
    pub held_join : Held K D → Held K D → Held K D
    held_join nothing h = h
    held_join (below t) h = tree_join t h

    pub tree_join : Tree K D → Held K D → Held K D
    tree_join (page l c r) h = under (page l c r) l (row_append r) h

    -- a row after another: its nodes come after the other's, and the two gaps in the middle are joined
    pub row_append : Row K D → Row K D → Row K D
    row_append (high g) (high h) = high (held_join g h)
    row_append (high g) (node h k d s) = node (held_join g h) k d s
    row_append (node h k d r) s = node h k d (row_append r s)

module _ {K D : Type 0} (cmp : K → K → Ordering) (k : K) where
  abbrev mutual
    -- the row without the node of the key, where the path leads to one: the gaps on both sides of it are joined
    pub row_del : Row K D → Row K D
    row_del (high h) = high (held_del h)
    row_del (node h x e r) = match_ordering (cmp k x) (node (held_del h) x e r) (row_append (high h) r) (node h x e (row_del r))

    -- a page left without nodes gives way to what stands in its one gap
    pub held_del : Held K D → Held K D
    held_del nothing = nothing
    held_del (below t) = tree_del t

    pub tree_del : Tree K D → Held K D
    tree_del (page l c r) = as_held l None (row_del r)

  -- the page without the key, where the path leads to it, whether or not nodes are left
  abbrev pub tree_without : Tree K D → Tree K D
  tree_without (page l c r) = page l None (row_del r)

  -- the root page without the key
  abbrev pub root_del : Tree K D → Tree K D
  root_del t = root_of (tree_del t)

  abbrev mutual
    -- the key and the value digest of the node that the key's path leads to
    pub row_entry : Row K D → Option (K × D)
    row_entry (high h) = held_entry h
    row_entry (node h x e r) = match_ordering (cmp k x) (held_entry h) (Some (x, e)) (row_entry r)

    pub held_entry : Held K D → Option (K × D)
    held_entry nothing = None
    held_entry (below t) = tree_entry t

    pub tree_entry : Tree K D → Option (K × D)
    tree_entry (page l c r) = row_entry r

module _ {K D : Type 0} where
  -- nothing stands in the gap
  abbrev pub IsNothing : Held K D → Type 0
  IsNothing nothing = ⊤
  IsNothing (below t) = ⊥

  -- nothing stands in the first gap of the row
  abbrev pub BeginsFree : Row K D → Type 0
  BeginsFree (high h) = IsNothing h
  BeginsFree (node h k d r) = IsNothing h

  -- the row without its node at a place, the gaps on both sides of it joined
  abbrev pub row_without : ℕ → Row K D → Row K D
  row_without i (high h) = high h
  row_without zero (node h k d r) = row_append (high h) r
  row_without (suc i) (node h k d r) = node h k d (row_without i r)

  -- the key and the value digest of the node at a place
  abbrev pub pair_at : ℕ → List (Node K D) → Option (K × D)
  pair_at i [] = None
  pair_at zero (e ∷ es) = Some (e.key, e.digest)
  pair_at (suc i) (e ∷ es) = pair_at i es

  -- there is a node at the place, and the gap before it or the gap after it is empty
  abbrev pub IsFreeAt : ℕ → Row K D → Type 0
  IsFreeAt i (high h) = ⊥
  IsFreeAt zero (node h k d r) = IsNothing h ⊎ BeginsFree r
  IsFreeAt (suc i) (node h k d r) = IsFreeAt i r

module _ {K D : Type 0} (cmp : K → K → Ordering) (k : K) where
  abbrev mutual
    -- beside each node with the key, the gap before it or the gap after it is empty
    pub HasFreeGap : Tree K D → Type 0
    HasFreeGap (page l c r) = RowHasFreeGap r

    pub RowHasFreeGap : Row K D → Type 0
    RowHasFreeGap (high h) = HeldHasFreeGap h
    RowHasFreeGap (node h x e r) = HeldHasFreeGap h × (cmp k x ≡ Equal → IsNothing h ⊎ BeginsFree r) × RowHasFreeGap r

    pub HeldHasFreeGap : Held K D → Type 0
    HeldHasFreeGap nothing = ⊤
    HeldHasFreeGap (below t) = HasFreeGap t
