-- What `diff` answers on a local and a peer list.
use Rattle.std.specs.Prelude.{◌≡◌, if◌then◌else◌, List, [], ◌∷◌, ◌++◌, ◌⊎◌, None, ⊤}
use Rattle.std.specs.List.{AllByRecursion}
use Rattle.std.specs.declared.cmp.Ordering.{Ordering}
use Rattle.key_order.specs.Order.{AnyByRecursion, Below, Same, upto}
use Rattle.key_order.specs.Interval.{Span, IsOrdered, IsIn, IsInside, IsWithin, SameSpan, IsCovered, IsApart}
use Rattle.merkle_diff.specs.Cut.{IsExactCut}
use Rattle.merkle_diff.specs.Entry.{Entry, span_of, EntryWithin}
use Rattle.merkle_diff.specs.Merge.{IsMerge, SameSpans}
use Rattle.merkle_diff.specs.TreeShape.{IsTreeShaped, leading_run}
use Rattle.merkle_diff.specs.Walk.{Walk, Mark, bad_of, good_of}

module _ {K : Type 0} (cmp : K → K → Ordering) where
  -- the lesser of two keys
  abbrev pub lesser : K → K → K
  lesser a b = if upto cmp a b then a else b

module _ {K D : Type 0} where
  -- one of the local entries has the digest of p
  abbrev pub HasDigestOf : Entry K D → List (Entry K D) → Type 0
  HasDigestOf p = AnyByRecursion (λ l. l.digest ≡ p.digest)

module _ {K D : Type 0} (cmp : K → K → Ordering) where
  -- k is in a peer entry whose digest is that of some local entry
  abbrev pub IsAgreed : List (Entry K D) → List (Entry K D) → K → Type 0
  IsAgreed ls ps k = AnyByRecursion (λ p. IsIn cmp k (span_of p) × HasDigestOf p ls) ps

  -- s is within the first entry
  abbrev pub IsInFirst : List (Entry K D) → Span K → Type 0
  IsInFirst [] s = ⊥
  IsInFirst (b ∷ ps) s = IsWithin cmp s (span_of b)

  -- k is equal to a bound of one of the entries
  abbrev pub IsBoundOfEntry : List (Entry K D) → K → Type 0
  IsBoundOfEntry es k = AnyByRecursion (λ e. Same cmp k e.first ⊎ Same cmp k e.last) es

  -- the answer by the first entries, a of local and b of the peer
  pub record IsByFirsts (a b : Entry K D) (ls ps : List (Entry K D)) (found : List (Span K)) : Type 0 where
    -- the peer's begins and ends before local's: the one range from its start to its end or to local's start
    pub before : Below cmp b.first a.first → Below cmp b.last a.last → SameSpans cmp found (record { first = b.first; last = lesser cmp a.first b.last } ∷ [])
    -- the peer's begins and ends after local's: nothing
    pub behind : Below cmp a.first b.first → Below cmp a.last b.last → found ≡ []
    -- the peer's is within local's, and they are not equal: nothing
    pub within : EntryWithin cmp b a → ¬ (SameSpan cmp (span_of a) (span_of b)) → found ≡ []
    -- local's is within the peer's: each key of the peer's is in the answer, or in a peer entry whose digest local has
    pub holds : EntryWithin cmp a b → (k : K) → IsIn cmp k (span_of b) → IsCovered cmp k found ⊎ IsAgreed ls ps k

  -- the answer by the first entries, where there are such
  abbrev pub IsByTable : List (Entry K D) → List (Entry K D) → List (Span K) → Type 0
  IsByTable ls [] found = found ≡ []
  IsByTable [] (b ∷ ps) found = SameSpans cmp found (span_of b ∷ [])
  IsByTable (a ∷ ls) (b ∷ ps) found = IsByFirsts a b (a ∷ ls) (b ∷ ps) found

  -- the interval laws: the answer on any local and peer list
  pub record IsDifference (ls ps : List (Entry K D)) (found : List (Span K)) : Type 0 where
    -- ascending, and no two ranges meet
    pub apart : IsApart cmp found
    -- each range has its bounds in order
    pub ordered : AllByRecursion (IsOrdered cmp) found
    -- each range is within the peer's first entry
    pub inside : AllByRecursion (IsInFirst ps) found
    -- the bounds of each range are equal to bounds of entries
    pub bounds : AllByRecursion (λ s. IsBoundOfEntry (ls ++ ps) s.first × IsBoundOfEntry (ls ++ ps) s.last) found
    -- the cases over the first entries
    pub table : IsByTable ls ps found

  -- the first entries agree in span and digest
  abbrev pub FirstsAgree : List (Entry K D) → List (Entry K D) → Type 0
  FirstsAgree [] ps = ⊥
  FirstsAgree (a ∷ ls) [] = ⊥
  FirstsAgree (a ∷ ls) (b ∷ ps) = SameSpan cmp (span_of a) (span_of b) × (a.digest ≡ b.digest)

  -- the laws on trees: the answer on two tree-shaped lists
  pub record SparesAgreed (ls ps : List (Entry K D)) (found : List (Span K)) : Type 0 where
    -- no key strictly inside an entry of the leading run whose two digests are equal is in the answer
    pub spared : (k : K) → AnyByRecursion (λ p. (p.0.digest ≡ p.1.digest) × IsInside cmp k (span_of p.1)) (leading_run cmp ls ps) → ¬ (IsCovered cmp k found)
    -- where the first entries agree, the answer is empty
    pub equal : FirstsAgree ls ps → found ≡ []

  -- the exact walk: the answer is the exact cut of the merged good marks of the walk out of its merged bad marks
  abbrev pub IsByWalk : List (Entry K D) → List (Entry K D) → List (Span K) → Type 0
  IsByWalk ls [] found = found ≡ []
  IsByWalk ls (b ∷ ps) found =
      (ms : List (Mark K)) × (P : List (Entry K D)) × (L : List (Entry K D)) × (bad : List (Span K)) × (good : List (Span K))
      × Walk cmp (span_of b) None (b ∷ ps) ls ms P L × IsMerge cmp (bad_of ms) bad × IsMerge cmp (good_of ms) good × IsExactCut cmp bad good found

  -- two answers by the exact walk on the lists have equal bounds, place by place
  abbrev pub HaveOneAnswer : List (Entry K D) → List (Entry K D) → Type 0
  HaveOneAnswer ls ps = (xs ys : List (Span K)) → IsByWalk ls ps xs → IsByWalk ls ps ys → SameSpans cmp xs ys

  -- the answer on a local and a peer list
  pub record IsAnswer (ls ps : List (Entry K D)) (found : List (Span K)) : Type 0 where
    -- on any two lists
    pub interval_laws : IsDifference ls ps found
    -- on two lists in the shape of trees
    pub laws_on_trees : IsTreeShaped cmp ls → IsTreeShaped cmp ps → SparesAgreed ls ps found
    -- on any two lists, which fixes the answer up to equality of keys
    pub exact_walk : IsByWalk ls ps found

  -- the first entries are such that a range may be answered: the peer's begins and ends before local's, or holds it
  abbrev pub MayAnswer : Entry K D → Entry K D → Type 0
  MayAnswer a b = (Below cmp b.first a.first × Below cmp b.last a.last) ⊎ EntryWithin cmp a b

  -- a range may be answered on the two lists: the peer has an entry, and local has none, or the first entries are so
  abbrev pub MayAsk : List (Entry K D) → List (Entry K D) → Type 0
  MayAsk ls [] = ⊥
  MayAsk [] (b ∷ ps) = ⊤
  MayAsk (a ∷ ls) (b ∷ ps) = MayAnswer a b
