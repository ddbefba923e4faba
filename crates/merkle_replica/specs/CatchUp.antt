-- What a catch-up brings: exactly the rows of the peer that a side lacks.
use Rattle.std.specs.Prelude.{◌≡◌, ℕ, suc, ◌<◌, ◌≤◌, Bool, true, List, [], ◌∷◌, map, length, take, slice_index_or, Some, ⊤, ◌⊎◌}
use denote.Ref.{Bor}
use Rattle.std.specs.List.{AllByRecursion}
use Rattle.std.specs.declared.cmp.Ordering.{Ordering}
use Rattle.key_order.specs.Order.{AnyByRecursion, Upto, Same, IsAscending, below}
use Rattle.key_order.specs.Interval.{Span}
use Rattle.key_order.specs.Map.{get, rows_in}
use Rattle.key_order.specs.Join.{IsJoin}
use Rattle.merkle_tree_theory.specs.Page.{pairs}
use Rattle.merkle_tree_theory.specs.Ranges.{IsPageOf}
use Rattle.merkle_tree_theory.specs.Stream.{page_digest}
use Rattle.merkle_tree_theory.specs.Tree.{Tree}
use Rattle.merkle_replica.specs.Laws.{Laws}
use Rattle.merkle_replica.specs.Contents.{Contents, Side, side, with_rows, tree_map}
use Rattle.merkle_replica.specs.Descent.{keys_of}
use Rattle.merkle_replica.specs.Faithful.{HaveFaithfulPages}
use Rattle.merkle_replica.specs.declared.catch_up.CaughtUp.{CaughtUp}
use Rattle.merkle_replica.specs.declared.catch_up.CatchUpError.{CatchUpError}
use Rattle.merkle_replica.specs.declared.catch_up.CatchUpError.TheVariants.{Memory, Partly}
use Rattle.merkle_replica.specs.declared.both_ways.CatchUpsError.{CatchUpsError}
use Rattle.merkle_replica.specs.declared.both_ways.CatchUpsError.TheVariants.{First, Second}

-- the spans that have one key each
abbrev pub points : {K : Type 0} → List K → List (Span K)
points = map (λ k. record { first = k; last = k })

module _ {K V H : Type 0} (laws : Laws K V H) (local peer : Side K V H) where
  -- the key is one of the peer, and local lacks it or has it with another digest
  abbrev pub IsLacked : K → Type 0
  IsLacked k = (d : List ℕ) × (get laws.cmp (tree_map laws peer) k ≡ Some d) × (¬ (get laws.cmp (tree_map laws local) k ≡ Some d))

  -- the key is hidden: a page of the peer that has it has the digest of a page of local
  abbrev pub IsHidden : K → Type 0
  IsHidden k =
      (s : Tree K (List ℕ)) × (t : Tree K (List ℕ)) × (d : List ℕ)
      × IsPageOf laws.cmp (laws.key_digest local.hasher) local.base s (tree_map laws local) × IsPageOf laws.cmp (laws.key_digest peer.hasher) peer.base t (tree_map laws peer)
      × (page_digest local.format laws.bytes_of s ≡ page_digest peer.format laws.bytes_of t) × (get laws.cmp (pairs t) k ≡ Some d)

  -- the keys are such that local lacks, and all of them but those that are hidden; so all of them while pages are faithful
  pub record HasFound (keys : List K) : Type 0 where
    pub lacked : AllByRecursion IsLacked keys
    pub unless_hidden : (k : K) → IsLacked k → AnyByRecursion (Same laws.cmp k) keys ⊎ IsHidden k
    pub all : HaveFaithfulPages laws local peer → (k : K) → IsLacked k → AnyByRecursion (Same laws.cmp k) keys

  -- local has joined the peer's rows at these keys, which it lacked, and has these rows after
  pub record IsCatchUp (keys : List K) (after : List (K × V)) : Type 0 where
    pub ascending : IsAscending laws.cmp keys
    pub found : HasFound keys
    pub joins : IsJoin laws.cmp laws.eq laws.join local.rows (rows_in laws.cmp (points keys) peer.rows) after

  -- memory ran out: no row was joined, or the first `done` of those at these keys were, and not all
  pub record IsPartOfCatchUp (keys : List K) (done : ℕ) (after : List (K × V)) : Type 0 where
    pub ascending : IsAscending laws.cmp keys
    pub found : HasFound keys
    pub some : 1 ≤ done
    pub not_all : done < length keys
    pub joins : IsJoin laws.cmp laws.eq laws.join local.rows (take done (rows_in laws.cmp (points keys) peer.rows)) after

  abbrev pub IsCatchUpRefused : CatchUpError → List (K × V) → Type 0
  IsCatchUpRefused Memory after = after ≡ local.rows
  IsCatchUpRefused (Partly done lacked) after = (keys : List K) × (lacked ≡ length keys) × IsPartOfCatchUp keys done after

  -- a catch-up that joined this many rows
  abbrev pub IsCatchUpOf : ℕ → List (K × V) → Type 0
  IsCatchUpOf joined after = (keys : List K) × (joined ≡ length keys) × IsCatchUp keys after

module _ {K V H : Type 0} (laws : Laws K V H) where
  -- a has caught up with b, and then b with a
  abbrev pub AreCatchUps : Side K V H → Side K V H → ℕ → ℕ → List (K × V) → List (K × V) → Type 0
  AreCatchUps a b first second a' b' = IsCatchUpOf laws a b first a' × IsCatchUpOf laws b (with_rows a a') second b'

  -- memory ran out in the first of them, or in the second
  abbrev pub AreCatchUpsRefused : Side K V H → Side K V H → CatchUpsError → List (K × V) → List (K × V) → Type 0
  AreCatchUpsRefused a b (First fault) a' b' = IsCatchUpRefused laws a b fault a' × (b' ≡ b.rows)
  AreCatchUpsRefused a b (Second first fault) a' b' = IsCatchUpOf laws a b first.joined a' × IsCatchUpRefused laws b (with_rows a a') fault b'

module _ {K V : Type 0} (cmp : K → K → Ordering) (eq : V → V → Bool) (rows : List (K × V)) where
  -- `copies` has for each of the keys, in turn, an equal key with an equal value to that of the rows
  abbrev pub AreCopies : List K → List (K × V) → Type 0
  AreCopies [] [] = ⊤
  AreCopies [] (c ∷ cs) = ⊥
  AreCopies (k ∷ ks) [] = ⊥
  AreCopies (k ∷ ks) (c ∷ cs) = Same cmp c.0 k × ((v : V) × (get cmp rows k ≡ Some v) × (eq c.1 v ≡ true)) × AreCopies ks cs

  -- `copy` has an equal key, and an equal value to that of the rows
  abbrev pub IsCopyAt : K → K × V → Type 0
  IsCopyAt k copy = Same cmp copy.0 k × ((v : V) × (get cmp rows k ≡ Some v) × (eq copy.1 v ≡ true))

module _ {K : Type 0} (cmp : K → K → Ordering) where
  -- `once` has the keys in ascending order, each of equal ones once
  pub record IsOnceEach (keys once : List K) : Type 0 where
    pub ascending : IsAscending cmp once
    pub only : AllByRecursion (λ k. AnyByRecursion (Same cmp k) keys) once
    pub all : AllByRecursion (λ k. AnyByRecursion (Same cmp k) once) keys

  -- no key is below one before it
  abbrev pub NoneFalls : List K → Type 0
  NoneFalls [] = ⊤
  NoneFalls (k ∷ ks) = AllByRecursion (λ j. Upto cmp k j) ks × NoneFalls ks

  -- whether the key at this place is above the one before it, where there is one
  abbrev pub IsAboveLast : List (Bor K) → ℕ → Bool → Type 0
  IsAboveLast keys i above = (j : ℕ) (d : Bor K) → suc j ≡ i → below cmp (slice_index_or keys j d).now (slice_index_or keys i d).now ≡ above

module _ {K V H : Type 0} (laws : Laws K V H) (local peer : Contents K V H) where
  -- the keys are those of the peer that local lacks, but for hidden ones
  abbrev pub LacksKeys : List (Bor K) → Type 0
  LacksKeys keys = HasFound laws (side local) (side peer) (keys_of keys)

  -- the copies are those of the peer's rows at such keys, in ascending order
  abbrev pub LacksRows : List (K × V) → Type 0
  LacksRows copies =
      (keys : List K) × IsAscending laws.cmp keys × HasFound laws (side local) (side peer) keys
      × AreCopies laws.cmp laws.eq peer.rows keys copies

  -- local has caught up with the peer, and is `local'` after
  abbrev pub HasCaughtUp : Contents K V H → CaughtUp → Type 0
  HasCaughtUp local' caught = IsCatchUpOf laws (side local) (side peer) caught.joined local'.rows

  -- memory ran out in such a catch-up
  abbrev pub StopsCatchingUp : Contents K V H → CatchUpError → Type 0
  StopsCatchingUp local' fault = IsCatchUpRefused laws (side local) (side peer) fault local'.rows

  -- each has caught up with the other, local first
  abbrev pub HaveCaughtUp : Contents K V H → Contents K V H → CaughtUp × CaughtUp → Type 0
  HaveCaughtUp local' peer' caught = AreCatchUps laws (side local) (side peer) caught.0.joined caught.1.joined local'.rows peer'.rows

  -- memory ran out in one of these two catch-ups
  abbrev pub StopCatchingUp : Contents K V H → Contents K V H → CatchUpsError → Type 0
  StopCatchingUp local' peer' error = AreCatchUpsRefused laws (side local) (side peer) error local'.rows peer'.rows
