-- What the calls of a replica answer, as pulls.
use Rattle.std.specs.Prelude.{◌≡◌, ℕ, ◌<◌, Bool, List, [], ◌∷◌, map, length, take, ⊤}
use Rattle.std.specs.declared.cmp.Ordering.{Ordering}
use Rattle.key_order.specs.Interval.{Span}
use Rattle.key_order.specs.Map.{rows_in}
use Rattle.key_order.specs.Join.{IsJoin}
use Rattle.merkle_replica.specs.Laws.{Laws}
use Rattle.merkle_replica.specs.Contents.{Contents, Side, side, with_rows}
use Rattle.merkle_replica.specs.Faithful.{MissesNone}
use Rattle.merkle_replica.specs.Pulls.{Answer, IsAnswerFor, IsPull, IsPartOfPull}
use Rattle.merkle_replica.specs.declared.pull.Pulled.{Pulled}
use Rattle.merkle_replica.specs.declared.merge.Stopped.{Stopped}
use Rattle.merkle_replica.specs.declared.pull.PullError.{PullError}
use Rattle.merkle_replica.specs.declared.pull.PullError.TheVariants.{Memory, Partly}

-- pairs of bounds as spans
abbrev pub spans_of : {K : Type 0} → List (K × K) → List (Span K)
spans_of = map (λ r. record { first = r.0; last = r.1 })

-- what `Pulled` says
abbrev pub answer_of : {K : Type 0} → Pulled K → Answer K
answer_of p = record { ranges = spans_of p.ranges.items; joined = p.joined }

module _ {K V H : Type 0} (laws : Laws K V H) where
  -- a pull that ran out of memory: no row was joined, or the first ones were
  abbrev pub IsRefused : Side K V H → Side K V H → PullError K → List (K × V) → Type 0
  IsRefused local peer Memory after = after ≡ local.rows
  IsRefused local peer (Partly pulled done) after = IsPartOfPull laws local peer (answer_of pulled) done after

  -- where the first rows were joined, the ranges miss no key
  abbrev pub PartMissesNone : Side K V H → Side K V H → PullError K → Type 0
  PartMissesNone local peer Memory = ⊤
  PartMissesNone local peer (Partly pulled done) = MissesNone laws local peer (spans_of pulled.ranges.items)

  -- pulls by turns, local first: those of `finished` were made, and then the one whose turn it was met the fault
  abbrev pub StopsByTurns : List (Pulled K) → PullError K → Side K V H → Side K V H → List (K × V) → List (K × V) → Type 0
  StopsByTurns [] fault local peer local' peer' = IsRefused local peer fault local' × (peer' ≡ peer.rows)
  StopsByTurns (pulled ∷ finished) fault local peer local' peer' =
      (after : List (K × V)) × IsPull laws local peer (answer_of pulled) after × StopsByTurns finished fault peer (with_rows local after) peer' local'

module _ {K V H : Type 0} (laws : Laws K V H) (local peer : Contents K V H) where
  -- local may ask the peer for these ranges
  abbrev pub MayAskPeer : List (K × K) → Type 0
  MayAskPeer ranges = IsAnswerFor laws (side local) (side peer) (spans_of ranges)

  -- local has pulled from the peer, and is `local'` after
  abbrev pub HasPulled : Contents K V H → Pulled K → Type 0
  HasPulled local' pulled = IsPull laws (side local) (side peer) (answer_of pulled) local'.rows

  -- memory ran out in such a pull
  abbrev pub StopsPulling : Contents K V H → PullError K → Type 0
  StopsPulling local' fault = IsRefused laws (side local) (side peer) fault local'.rows

module _ {K V : Type 0} (cmp : K → K → Ordering) (eq : V → V → Bool) (join : V → V → V) (wanted local : List (K × V)) where
  -- all of the wanted rows are joined
  pub record IsDone (joined : ℕ) (after : List (K × V)) : Type 0 where
    pub counted : joined ≡ length wanted
    pub joins : IsJoin cmp eq join local wanted after

  -- the first `done` of the wanted rows are joined, and not all
  pub record IsPartlyDone (done joined : ℕ) (after : List (K × V)) : Type 0 where
    pub counted : joined ≡ length wanted
    pub not_all : done < joined
    pub joins : IsJoin cmp eq join local (take done wanted) after
    pub unchanged : done ≡ 0 → after ≡ local

module _ {K V : Type 0} (cmp : K → K → Ordering) (eq : V → V → Bool) (join : V → V → V) (ranges : List (K × K)) (theirs local after : List (K × V))
  where
    -- all of their rows in the ranges are joined, this many
    abbrev pub JoinsWithin : ℕ → Type 0
    JoinsWithin joined = IsDone cmp eq join (rows_in cmp (spans_of ranges) theirs) local joined after

    -- the first of these rows are joined, and not all
    abbrev pub JoinsPartly : Stopped → Type 0
    JoinsPartly stopped = IsPartlyDone cmp eq join (rows_in cmp (spans_of ranges) theirs) local stopped.done stopped.joined after
