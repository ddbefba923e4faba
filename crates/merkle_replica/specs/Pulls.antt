-- Pulls, and pulls by turns. A relation takes the laws of keys and values first, and then the sides as they were.
use Rattle.std.specs.Prelude.{◌≡◌, ℕ, ◌<◌, ◌≤◌, List, [], ◌∷◌, length, take}
use Rattle.key_order.specs.Interval.{Span}
use Rattle.key_order.specs.Map.{rows_in}
use Rattle.key_order.specs.Join.{IsJoin}
use Rattle.merkle_diff.specs.Entry.{Entry}
use Rattle.merkle_diff.specs.Difference.{IsDifference, SparesAgreed, IsByWalk}
use Rattle.merkle_tree_theory.specs.Ranges.{IsRangesOf}
use Rattle.merkle_replica.specs.Laws.{Laws}
use Rattle.merkle_replica.specs.Contents.{Side, with_rows, tree_map}

-- a pull's answer: its ranges, and how many rows of the peer are in them
pub record Answer (K : Type 0) : Type 0 where
  pub ranges : List (Span K)
  pub joined : ℕ

module _ {K V H : Type 0} (laws : Laws K V H) where
  -- the entries are the page ranges of the side's tree
  abbrev pub HasRanges : Side K V H → List (Entry K (List ℕ)) → Type 0
  HasRanges s entries = IsRangesOf laws.cmp (laws.key_digest s.hasher) s.base s.format laws.bytes_of (tree_map laws s) entries

  -- `found` are ranges that local may ask of the peer: the interval laws, the laws on trees and the exact walk hold of them and the two
  -- lists of page ranges
  pub record IsAnswerFor (local peer : Side K V H) (found : List (Span K)) : Type 0 where
    pub local_list : List (Entry K (List ℕ))
    pub peer_list : List (Entry K (List ℕ))
    pub of_local : HasRanges local local_list
    pub of_peer : HasRanges peer peer_list
    pub interval_laws : IsDifference laws.cmp local_list peer_list found
    pub laws_on_trees : SparesAgreed laws.cmp local_list peer_list found
    pub exact_walk : IsByWalk laws.cmp local_list peer_list found

  -- local has joined the peer's rows in the ranges, and has these rows after
  pub record IsPull (local peer : Side K V H) (answer : Answer K) (after : List (K × V)) : Type 0 where
    pub answered : IsAnswerFor local peer answer.ranges
    pub counted : answer.joined ≡ length (rows_in laws.cmp answer.ranges peer.rows)
    pub joins : IsJoin laws.cmp laws.eq laws.join local.rows (rows_in laws.cmp answer.ranges peer.rows) after

  -- a pull that stopped: local has joined the first `done` of the peer's rows in the ranges, in key order; some, but not all
  pub record IsPartOfPull (local peer : Side K V H) (answer : Answer K) (done : ℕ) (after : List (K × V)) : Type 0 where
    pub answered : IsAnswerFor local peer answer.ranges
    pub counted : answer.joined ≡ length (rows_in laws.cmp answer.ranges peer.rows)
    pub some : 1 ≤ done
    pub not_all : done < answer.joined
    pub joins : IsJoin laws.cmp laws.eq laws.join local.rows (take done (rows_in laws.cmp answer.ranges peer.rows)) after

  -- pulls by turns, local first, with these answers, which leave these rows; `met` are the two sides before each turn, that which pulls first
  abbrev pub IsByTurns : List (Answer K) → Side K V H → Side K V H → List (K × V) → List (K × V) → List (Side K V H × Side K V H) → Type 0
  IsByTurns [] local peer local' peer' met = (local' ≡ local.rows) × (peer' ≡ peer.rows) × (met ≡ [])
  IsByTurns (answer ∷ answers) local peer local' peer' met =
      (after : List (K × V)) × (rest : List (Side K V H × Side K V H)) × (met ≡ ((local, peer) ∷ rest))
      × IsPull local peer answer after × IsByTurns answers peer (with_rows local after) peer' local' rest

  -- both maps of rows are the join of those of a and b
  abbrev pub HoldTheJoin : Side K V H → Side K V H → List (K × V) → List (K × V) → Type 0
  HoldTheJoin a b a' b' = IsJoin laws.cmp laws.eq laws.join a.rows b.rows a' × IsJoin laws.cmp laws.eq laws.join a.rows b.rows b'
