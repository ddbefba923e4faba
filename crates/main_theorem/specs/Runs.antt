-- What two replicas that carried out their updates, and then came together, are at the end.
use Rattle.std.specs.Prelude.{◌≡◌, ℕ, List, [], length}
use Rattle.merkle_search_tree.specs.declared.updates.Update.{Update}
use Rattle.merkle_tree_theory.specs.Settings.{Settings}
use Rattle.merkle_replica.specs.Contents.{Side}
use Rattle.merkle_replica.specs.Faithful.{AllFaithful}
use Rattle.merkle_replica.specs.Laws.{Laws}
use Rattle.main_theorem.specs.After.{FreeUpdatesAreAccepted, IsDefinedBy, rows_after}
use Rattle.merkle_replica.specs.Agreeing.{AreEqual}
use Rattle.main_theorem.specs.Course.{IsCourse, IsEnough, AreOne}
use Rattle.main_theorem.specs.declared.course.Exchange.{Exchange}
use Rattle.main_theorem.specs.declared.theorem.Outcome.{Outcome}
use Rattle.main_theorem.specs.declared.theorem.Run.{Run}

-- each of a replica's updates is answered
abbrev pub AreAnswered : {K V H : Type 0} → {N : ℕ} → List (Update K V) → Outcome K V H N → Type 0
AreAnswered updates outcome = length outcome.accepted.items ≡ length updates

module _ {K V H : Type 0} {N : ℕ} (laws : Laws K V H) where
  -- those of a replica's updates that take no memory are accepted
  abbrev pub AcceptsFreeUpdates : Settings H → List (Update K V) → Outcome K V H N → Type 0
  AcceptsFreeUpdates s updates outcome = FreeUpdatesAreAccepted laws s [] updates outcome.accepted.items

  -- the map of its accepted updates
  abbrev pub own_map : List (Update K V) → Outcome K V H N → List (K × V)
  own_map updates outcome = rows_after laws.cmp laws.join updates outcome.accepted.items

  -- its rows are the map of its accepted updates
  abbrev pub HasItsMap : List (Update K V) → Outcome K V H N → Type 0
  HasItsMap updates outcome = AreEqual laws.cmp laws.eq outcome.replica.rows (own_map updates outcome)

  -- those of both replicas' updates that take no memory are accepted
  abbrev pub AcceptTheFree : Settings H → List (Update K V) → List (Update K V) → Run K V H N → Type 0
  AcceptTheFree s a_updates b_updates run = AcceptsFreeUpdates s a_updates run.a × AcceptsFreeUpdates s b_updates run.b

  -- before the exchange its tree was the one that the map of its accepted updates defines
  abbrev pub HadTheDefinedTree : Settings H → List (Update K V) → Outcome K V H N → Type 0
  HadTheDefinedTree s updates outcome = IsDefinedBy laws s (own_map updates outcome) outcome.before

  -- so was that of both
  abbrev pub HadTheDefinedTrees : Settings H → List (Update K V) → List (Update K V) → Run K V H N → Type 0
  HadTheDefinedTrees s a_updates b_updates run = HadTheDefinedTree s a_updates run.a × HadTheDefinedTree s b_updates run.b

  -- the rows of both are the maps of their accepted updates
  abbrev pub HaveTheirMaps : List (Update K V) → List (Update K V) → Run K V H N → Type 0
  HaveTheirMaps a_updates b_updates run = HasItsMap a_updates run.a × HasItsMap b_updates run.b

  -- whatever map its rows are, its tree is the one that the map defines
  abbrev pub HasTheDefinedTree : Settings H → Outcome K V H N → Type 0
  HasTheDefinedTree s outcome = (m : List (K × V)) → AreEqual laws.cmp laws.eq outcome.replica.rows m → IsDefinedBy laws s m outcome.replica.tree

  -- the two came together from their maps; and while digests are faithful in what was met on the way, four pulls by turns or more, or a
  -- catch-up each way, leave both with the join of the two maps, and one root hash
  abbrev pub Converge : Settings H → List (Update K V) → List (Update K V) → Exchange → Run K V H N → Type 0
  Converge s a_updates b_updates exchange run = (met : List (Side K V H × Side K V H))
      × IsCourse laws s (own_map a_updates run.a) (own_map b_updates run.b) run.exchanged run.a.replica.rows run.b.replica.rows met
      × (AllFaithful laws met → IsEnough exchange → AreOne laws (own_map a_updates run.a) (own_map b_updates run.b) run.a.replica run.b.replica)
