-- Syncs of two replicas: four pulls by turns.
use Rattle.std.specs.Prelude.{◌≡◌, ◌⊎◌, ℕ, ◌<◌, Bool, true, List, [], ◌∷◌, length}
use Rattle.std.specs.List.{AllByRecursion}
use Rattle.std.specs.declared.cmp.Ordering.{Ordering}
use Rattle.key_order.specs.Map.{SameMap}
use Rattle.key_order.specs.Join.{IsJoin}
use Rattle.merkle_replica.specs.Laws.{Laws}
use Rattle.merkle_replica.specs.Contents.{Contents, Side, side}
use Rattle.merkle_replica.specs.Faithful.{IsFaithful, IsCollisionFree}
use Rattle.merkle_replica.specs.Pulls.{Answer, HoldTheJoin, IsByTurns}
use Rattle.merkle_replica.specs.Answers.{StopsByTurns}
use Rattle.merkle_replica.specs.declared.pull.Pulled.{Pulled}
use Rattle.merkle_replica.specs.declared.pull.PullError.{PullError}

module _ {K V : Type 0} (cmp : K → K → Ordering) (eq : V → V → Bool) (join : V → V → V) where
  -- both maps are the join of a and b, and so the same map
  pub record AreJoined (a b a' b' : List (K × V)) : Type 0 where
    pub first : IsJoin cmp eq join a b a'
    pub second : IsJoin cmp eq join a b b'
    pub same : SameMap cmp (λ x y. eq x y ≡ true) a' b'

module _ {K V H : Type 0} (laws : Laws K V H) where
  -- four pulls by turns lead from the rows of a and b to those of a' and b'; and where the premise holds of the two sides before each
  -- pull, there is the outcome
  pub record IsSync (Premise : Side K V H → Side K V H → Type 0) (Outcome : Type 0) (a b a' b' : Contents K V H) : Type 0 where
    pub answers : List (Answer K)
    pub met : List (Side K V H × Side K V H)
    pub four : length answers ≡ 4
    pub pulls : IsByTurns laws answers (side a) (side b) a'.rows b'.rows met
    pub outcome : AllByRecursion (λ sides. Premise sides.0 sides.1) met → Outcome

  -- memory ran out in one of the four pulls by turns of a and b: those before it were made, which left b with these rows
  abbrev pub StopsSync : Contents K V H → Contents K V H → List (K × V) → Type 0
  StopsSync a b b' =
      (finished : List (Pulled K)) × (fault : PullError K) × (a' : List (K × V)) × (length finished < 4) × StopsByTurns laws finished fault (side a) (side b) a' b'

  -- a sync with this outcome where digests are faithful in what is met before each pull
  abbrev pub IsFaithfulSync : Type 0 → Contents K V H → Contents K V H → Contents K V H → Contents K V H → Type 0
  IsFaithfulSync = IsSync (IsFaithful laws)

  -- a sync in format 2 with this outcome where no streams collide, and values of n bytes of digest are told apart, in what is met
  abbrev pub IsExactSync : ℕ → Type 0 → Contents K V H → Contents K V H → Contents K V H → Contents K V H → Type 0
  IsExactSync n = IsSync (IsCollisionFree laws n)

  -- a sync that leaves both with the join of both maps, and so with one map, while digests are faithful in what is met before each pull
  abbrev pub SyncsToTheJoin : Contents K V H → Contents K V H → Contents K V H → Contents K V H → Type 0
  SyncsToTheJoin a b a' b' = IsFaithfulSync (AreJoined laws.cmp laws.eq laws.join a.rows b.rows a'.rows b'.rows) a b a' b'

  -- the same in format 2, where nothing collides in what is met
  abbrev pub ExactlySyncsToTheJoin : ℕ → Contents K V H → Contents K V H → Contents K V H → Contents K V H → Type 0
  ExactlySyncsToTheJoin n a b a' b' = IsExactSync n (AreJoined laws.cmp laws.eq laws.join a.rows b.rows a'.rows b'.rows) a b a' b'

  -- the replica has one row, which was put into the empty map
  abbrev pub HasOneRow : K → V → Contents K V H → Type 0
  HasOneRow key value one = IsJoin laws.cmp laws.eq laws.join [] ((key, value) ∷ []) one.rows

  -- a new replica with this row and b were synced, which left both with the join of their maps while digests are faithful
  abbrev pub SyncsOneRow : K → V → Contents K V H → Contents K V H → Contents K V H → Type 0
  SyncsOneRow key value b a' b' = (one : Contents K V H) × HasOneRow key value one
      × IsFaithfulSync (HoldTheJoin laws (side one) (side b) a'.rows b'.rows) one b a' b'

  -- a sync of such a replica with b stopped, which left b with these rows
  abbrev pub StopsWithOneRow : K → V → Contents K V H → List (K × V) → Type 0
  StopsWithOneRow key value b b' = (one : Contents K V H) × HasOneRow key value one × StopsSync one b b'

  -- the rows of b stayed, or such a sync with it stopped
  abbrev pub SyncEndsEarly : K → V → Contents K V H → Contents K V H → Type 0
  SyncEndsEarly key value b b' = (b'.rows ≡ b.rows) ⊎ StopsWithOneRow key value b b'.rows
