-- What is taken of what came covers the keys that it is about, while digests are faithful.
use Rattle.std.specs.Prelude.{not}
use Rattle.std.proofs.Common.{◌≡◌, ℕ, Bool, true, false, List, [], ◌∷◌, map, Option, Some, None, refl, sym, ap, subst, ◌∙◌, ◌⊎◌, inl, inr}
use Rattle.std.specs.List.{AllByRecursion, filter, AllZip}
use Rattle.std.specs.Cmp.{IsTotalOrder, IsEquivalence, tied_back}
use Rattle.std.specs.Cmp.Lexicographic.{bytes_decides}
use Rattle.std.specs.Option.{option_map}
use Rattle.key_order.specs.Map.{get}
use Rattle.key_order.specs.Order.{AnyByRecursion, Same}
use Rattle.key_order.proofs.SameKeys.{SameKeys}
use Rattle.key_order.proofs.Bools.{which}
use Rattle.key_order.proofs.Maps.{get_same}
use Rattle.merkle_diff.proofs.Each.{each-both}
use Rattle.merkle_replica.specs.CatchUp.{IsLacked}
use Rattle.merkle_replica.specs.Contents.{Side, tree_map}
use Rattle.merkle_replica.specs.Laws.{Laws}
use Rattle.merkle_replica.proofs.Bounds.{get_digests}
use Rattle.merkle_tree_theory.specs.Page.{nodes_of, pair_of}
use Rattle.merkle_tree_theory.specs.Ranges.{IsPageOf}
use Rattle.merkle_tree_theory.specs.Tree.{Tree, Node}
use Rattle.merkle_wire.specs.Outlines.{keys_among, nodes_digest, AreRowsAt}
use Rattle.merkle_wire.specs.Sessions.{DigestTheirValuesAlike, HaveFaithfulNodes, IsNewRow}
use Rattle.merkle_wire.specs.Taking.{is_digest, has_digest, new_keys, HasNodes}
use Rattle.merkle_wire.proofs.TellingReplies.{SameRow}
use Rattle.merkle_wire.proofs.Covering.{IsRowOfPeer}
use Rattle.merkle_wire.proofs.Lacking.{has_row, new_rows}

-- what holds of each of a list holds of those that pass a test, and what holds of one that passes it holds of one of them
pub each-filter : {X : Type 0} (P : X → Type 0) (test : X → Bool) (xs : List X) → AllByRecursion P xs → AllByRecursion P (filter test xs)
each-filter P test [] a = tt
each-filter P test (x ∷ xs) a = go (which (test x)) (each-filter P test xs a.1)
  where
    go : (test x ≡ false) ⊎ (test x ≡ true) → AllByRecursion P (filter test xs) → AllByRecursion P (filter test (x ∷ xs))
    go (inl n) more = rw n more
    go (inr n) more = rw n (a.0, more)

pub all-filter : {X : Type 0} (test : X → Bool) (xs : List X) → AllByRecursion (λ x. test x ≡ true) (filter test xs)
all-filter test [] = tt
all-filter test (x ∷ xs) = go (which (test x)) (all-filter test xs)
  where
    go : (test x ≡ false) ⊎ (test x ≡ true) → AllByRecursion (λ y. test y ≡ true) (filter test xs) → AllByRecursion (λ y. test y ≡ true) (filter test (x ∷ xs))
    go (inl n) more = rw n more
    go (inr n) more = rw n (n, more)

any-filter : {X : Type 0} (P Q : X → Type 0) (test : X → Bool) → ((x : X) → P x → Q x → test x ≡ true) → (xs : List X) → AllByRecursion Q xs → AnyByRecursion P xs → AnyByRecursion P (filter test xs)
any-filter P Q test f [] q a = absurd a
any-filter P Q test f (x ∷ xs) q (inl p) = let n = f x p q.0 in rw n (inl p)
any-filter P Q test f (x ∷ xs) q (inr a) = go (which (test x)) (any-filter P Q test f xs q.1 a)
  where
    go : (test x ≡ false) ⊎ (test x ≡ true) → AnyByRecursion P (filter test xs) → AnyByRecursion P (filter test (x ∷ xs))
    go (inl n) more = rw n more
    go (inr n) more = rw n (inr more)

pub any-map : {X Y : Type 0} (P : Y → Type 0) (f : X → Y) (xs : List X) → AnyByRecursion (λ x. P (f x)) xs → AnyByRecursion P (map f xs)
any-map P f [] a = a
any-map P f (x ∷ xs) (inl p) = inl p
any-map P f (x ∷ xs) (inr a) = inr (any-map P f xs a)

pub any-unmap : {X Y : Type 0} (P : Y → Type 0) (f : X → Y) (xs : List X) → AnyByRecursion P (map f xs) → AnyByRecursion (λ x. P (f x)) xs
any-unmap P f [] a = a
any-unmap P f (x ∷ xs) (inl p) = inl p
any-unmap P f (x ∷ xs) (inr a) = inr (any-unmap P f xs a)

is_that : (found : Option (List ℕ)) (d : List ℕ) → is_digest found d ≡ true → found ≡ Some d
is_that None d e = absurd (cc)
is_that (Some c) d e = ap Some ((bytes_decides c d).0 e)

module _ {K V H : Type 0} (laws : Laws K V H) (o : IsTotalOrder laws.cmp) (eqv : IsEquivalence laws.eq) (local peer : Side K V H) where
  abbrev Lacked : K → Type 0
  Lacked = IsLacked laws local peer

  abbrev Theirs : K × V → Type 0
  Theirs = IsRowOfPeer laws local peer

  -- a key that is missing isn't there with the peer's digest
  not_there : (k j : K) (d : List ℕ) → Lacked k → Same laws.cmp k j → get laws.cmp (tree_map laws peer) j ≡ Some d → get laws.cmp (tree_map laws local) j ≡ Some d → ⊥
  not_there k j d (e, there, lacks) s of_peer own =
      let is_d : Some e ≡ Some d = sym there ∙ get_same laws.cmp o (tree_map laws peer) k j s ∙ of_peer in
      lacks (get_same laws.cmp o (tree_map laws local) k j s ∙ own ∙ sym is_d)

  -- so the side doesn't have the node
  no_digest : (k j : K) (d : List ℕ) → Lacked k → Same laws.cmp k j → get laws.cmp (tree_map laws peer) j ≡ Some d → not (has_digest laws local j d) ≡ true
  no_digest k j d l s of_peer = go (which (has_digest laws local j d))
    where
      go : (has_digest laws local j d ≡ false) ⊎ (has_digest laws local j d ≡ true) → not (has_digest laws local j d) ≡ true
      go (inl n) = ap not n
      go (inr n) = absurd (not_there k j d l s of_peer (is_that (get laws.cmp (tree_map laws local) j) d n))

  -- nodes of the peer of which one is missing
  pub new_keys_cover : (nodes : List (K × List ℕ)) (k : K) → Lacked k → AllByRecursion (λ n. get laws.cmp (tree_map laws peer) n.0 ≡ Some n.1) nodes
      → AnyByRecursion (Same laws.cmp k) (keys_among nodes) → AnyByRecursion (Same laws.cmp k) (new_keys laws local nodes)
  new_keys_cover nodes k l a s =
      any-map (Same laws.cmp k) (λ n. n.0) (filter (λ n. not (has_digest laws local n.0 n.1)) nodes)
      (any-filter (λ n. Same laws.cmp k n.0) (λ n. get laws.cmp (tree_map laws peer) n.0 ≡ Some n.1) (λ n. not (has_digest laws local n.0 n.1))
      (λ n t of_peer. no_digest k n.0 n.1 l t of_peer) nodes a (any-unmap (Same laws.cmp k) (λ n. n.0) nodes s))

  -- of nodes of which one is missing the side doesn't have all, up to equal keys
  none_lacked : (nodes : List (K × List ℕ)) (keys : List K) (k : K) → Lacked k → AllByRecursion (λ n. get laws.cmp (tree_map laws peer) n.0 ≡ Some n.1) nodes
      → SameKeys laws.cmp (keys_among nodes) keys
      → map (get laws.cmp (tree_map laws local)) keys ≡ map Some (map (λ n. n.1) nodes) → AnyByRecursion (Same laws.cmp k) (keys_among nodes) → ⊥
  none_lacked [] keys k l a s e i = i
  none_lacked (n ∷ ns) [] k l a s e i = absurd s
  none_lacked (n ∷ ns) (j ∷ js) k l a s e (inl t) =
      let here : get laws.cmp (tree_map laws local) j ≡ Some n.1 = cc in
      not_there k n.0 n.1 l t a.0 (get_same laws.cmp o (tree_map laws local) n.0 j s.0 ∙ here)
  none_lacked (n ∷ ns) (j ∷ js) k l a s e (inr i) =
      let rest : map (get laws.cmp (tree_map laws local)) js ≡ map Some (map (λ m. m.1) ns) = cc in
      none_lacked ns js k l a.1 s.1 rest i

  -- what the side has at the keys of nodes it has at equal keys
  own_at : (ns : List (Node K (List ℕ))) (keys : List K) → SameKeys laws.cmp (keys_among (map pair_of ns)) keys
      → map (λ n. get laws.cmp (tree_map laws local) n.key) ns ≡ map (get laws.cmp (tree_map laws local)) keys
  own_at [] [] s = refl
  own_at [] (k ∷ ks) s = absurd s
  own_at (n ∷ ns) [] s = absurd s
  own_at (n ∷ ns) (k ∷ ks) s =
      let here = get_same laws.cmp o (tree_map laws local) n.key k s.0 in
      let rest = own_at ns ks s.1 in
      (λ i. here i ∷ rest i)

  -- the digests of nodes are those of their pairs
  digests_at : (ns : List (Node K (List ℕ))) → map (λ n. n.digest) ns ≡ map (λ p. p.1) (map pair_of ns)
  digests_at [] = refl
  digests_at (n ∷ ns) = ap (λ ds. n.digest ∷ ds) (digests_at ns)

  -- of the nodes of a page of which one is missing the side doesn't have all with the digest of these nodes, while digests are faithful
  pub has_not_all : HaveFaithfulNodes laws local peer → (s : Tree K (List ℕ)) → IsPageOf laws.cmp (laws.key_digest peer.hasher) peer.base s (tree_map laws peer)
      → (nodes : List (K × List ℕ)) → nodes ≡ map pair_of (nodes_of s)
      → (keys : List K) (digest : List ℕ) (k : K) → Lacked k → AllByRecursion (λ n. get laws.cmp (tree_map laws peer) n.0 ≡ Some n.1) nodes
      → SameKeys laws.cmp (keys_among nodes) keys → digest ≡ nodes_digest nodes → HasNodes laws local keys digest → AnyByRecursion (Same laws.cmp k) (keys_among nodes) → ⊥
  has_not_all faithful s of_peer nodes are keys digest k l a same_keys q (ds, own, is) i =
      let es = map (λ n. n.1) nodes in
      let same : ds ≡ es = faithful ds es (
        s,
        of_peer,
        own_at (nodes_of s) keys (subst (λ ns. SameKeys laws.cmp (keys_among ns) keys) are same_keys) ∙ own,
        digests_at (nodes_of s) ∙ ap (map (λ p. p.1)) (sym are),
        is ∙ q,
      ) in
      none_lacked nodes keys k l a same_keys (own ∙ ap (map Some) same) i

  -- rows of the peer
  pub rows_at_theirs : (ks : List K) (rows : List (K × V)) → AreRowsAt laws.cmp peer.rows ks rows → AllByRecursion Theirs rows
  rows_at_theirs [] rows a = subst (AllByRecursion Theirs) (sym a) tt
  rows_at_theirs (k ∷ ks) rows (inl (none, a)) = rows_at_theirs ks rows a
  rows_at_theirs (k ∷ ks) rows (inr (row, rest, s, there, a, e)) =
      subst (AllByRecursion Theirs) (sym e) ((row.1, get_same laws.cmp o peer.rows row.0 k s ∙ there, eqv.refl row.1), rows_at_theirs ks rest a)

  pub rows_at_cover : (ks : List K) (rows : List (K × V)) (k : K) → (get laws.cmp peer.rows k ≡ None → ⊥) → AreRowsAt laws.cmp peer.rows ks rows
      → AnyByRecursion (Same laws.cmp k) ks → AnyByRecursion (λ r. Same laws.cmp k r.0) rows
  rows_at_cover [] rows k some a i = absurd i
  rows_at_cover (j ∷ ks) rows k some (inl (none, a)) (inl s) = absurd (some (get_same laws.cmp o peer.rows k j s ∙ none))
  rows_at_cover (j ∷ ks) rows k some (inl (none, a)) (inr i) = rows_at_cover ks rows k some a i
  rows_at_cover (j ∷ ks) rows k some (inr (row, rest, s, there, a, e)) (inl t) = subst (AnyByRecursion (λ r. Same laws.cmp k r.0)) (sym e) (inl (o.congr k j row.0 t ∙ tied_back o row.0 j s))
  rows_at_cover (j ∷ ks) rows k some (inr (row, rest, s, there, a, e)) (inr i) = subst (AnyByRecursion (λ r. Same laws.cmp k r.0)) (sym e) (inr (rows_at_cover ks rest k some a i))

  -- so are rows that are equal to them
  pub theirs_alike : (rs ss : List (K × V)) → AllZip (SameRow laws.cmp laws.eq) rs ss → AllByRecursion Theirs ss → AllByRecursion Theirs rs
  theirs_alike [] [] s a = tt
  theirs_alike [] (x ∷ ss) s a = absurd s
  theirs_alike (r ∷ rs) [] s a = absurd s
  theirs_alike (r ∷ rs) (x ∷ ss) s ((v, there, e), a) =
      ((v, get_same laws.cmp o peer.rows r.0 x.0 s.0.0 ∙ there, eqv.congr r.1 x.1 v s.0.1 ∙ e), theirs_alike rs ss s.1 a)

  pub any_alike : (rs ss : List (K × V)) (k : K) → AllZip (SameRow laws.cmp laws.eq) rs ss → AnyByRecursion (λ r. Same laws.cmp k r.0) ss → AnyByRecursion (λ r. Same laws.cmp k r.0) rs
  any_alike [] [] k s i = absurd i
  any_alike [] (x ∷ ss) k s i = absurd s
  any_alike (r ∷ rs) [] k s i = absurd s
  any_alike (r ∷ rs) (x ∷ ss) k s (inl t) = inl (o.congr k x.0 r.0 t ∙ tied_back o r.0 x.0 s.0.0)
  any_alike (r ∷ rs) (x ∷ ss) k s (inr i) = inr (any_alike rs ss k s.1 i)

  -- a key that is missing has a row
  pub has_row_there : (k : K) → Lacked k → get laws.cmp peer.rows k ≡ None → ⊥
  has_row_there k (d, there, lacks) none =
      let never : None ≡ Some d = ap (option_map (laws.value_digest peer.hasher)) (sym none) ∙ sym (get_digests laws.cmp o (laws.value_digest peer.hasher) peer.rows k) ∙ there in
      cc

  -- rows of the peer that are taken are new
  pub new_rows_new : (rows : List (K × V)) → AllByRecursion Theirs rows → AllByRecursion (IsNewRow laws local peer) (new_rows laws local rows)
  new_rows_new rows a =
      each-both Theirs (λ r. not (has_row laws local r) ≡ true) (IsNewRow laws local peer) (new_rows laws local rows) (λ r t n. (t, not_so (has_row laws local r) n))
      (each-filter Theirs (λ r. not (has_row laws local r)) rows a) (all-filter (λ r. not (has_row laws local r)) rows)
    where
      not_so : (b : Bool) → not b ≡ true → b ≡ false
      not_so true n = absurd (cc)
      not_so false n = refl

  -- of rows of the peer one whose key is missing is taken
  pub new_rows_cover : ((h : H) (a b : V) → laws.eq a b ≡ true → laws.value_digest h a ≡ laws.value_digest h b) → DigestTheirValuesAlike laws local peer
      → (rows : List (K × V)) (k : K) → Lacked k → AllByRecursion Theirs rows → AnyByRecursion (λ r. Same laws.cmp k r.0) rows → AnyByRecursion (λ r. Same laws.cmp k r.0) (new_rows laws local rows)
  new_rows_cover respects alike rows k l = any-filter (λ r. Same laws.cmp k r.0) Theirs (λ row. not (has_row laws local row)) passes rows
    where
      passes : (r : K × V) → Same laws.cmp k r.0 → Theirs r → not (has_row laws local r) ≡ true
      passes r s (v, there, e) =
          no_digest k r.0 (laws.value_digest local.hasher r.1) l s
          (get_digests laws.cmp o (laws.value_digest peer.hasher) peer.rows r.0 ∙ ap (option_map (laws.value_digest peer.hasher)) there
          ∙ ap Some (sym (respects local.hasher r.1 v e ∙ alike r.0 v there)))
