-- When two replicas agree: equal rows, and one digest for each value.
use Rattle.std.specs.Prelude.{◌≡◌, Bool, true, List, IsTrue}
use Rattle.std.specs.declared.cmp.Ordering.{Ordering}
use Rattle.key_order.specs.Map.{SameMap}
use Rattle.merkle_replica.specs.Contents.{Side}
use Rattle.merkle_replica.specs.Faithful.{AreSetAlike, IsFaithful}
use Rattle.merkle_replica.specs.Laws.{Laws}

-- equal keys and equal values, place by place
abbrev pub AreEqual : {K V : Type 0} → (K → K → Ordering) → (V → V → Bool) → List (K × V) → List (K × V) → Type 0
AreEqual cmp eq = SameMap cmp (λ x y. eq x y ≡ true)

module _ {K V H : Type 0} (laws : Laws K V H) (a b : Side K V H) where
  -- the rows of both sides are equal
  abbrev pub HaveEqualRows : Type 0
  HaveEqualRows = AreEqual laws.cmp laws.eq a.rows b.rows

  -- both sides give each value one digest
  abbrev pub GiveOneDigest : Type 0
  GiveOneDigest = (v : V) → laws.value_digest a.hasher v ≡ laws.value_digest b.hasher v

  -- the rows are equal, while digests are faithful
  abbrev pub AreEqualWhileFaithful : Type 0
  AreEqualWhileFaithful = IsFaithful laws a b → HaveEqualRows

  -- where both digest alike and have equal rows, the answer is true
  abbrev pub IsTrueWhereEqual : Bool → Type 0
  IsTrueWhereEqual answer = AreSetAlike laws a b → GiveOneDigest → HaveEqualRows → IsTrue answer
