-- The engine: what a line is answered, and the state that it leaves.
use Rattle.std.specs.Prelude.{◌≡◌, ◌≢◌, ℕ, Bool, if◌then◌else◌, ◌<◌, List, [], ◌∷◌, ◌⊎◌, map, length, codes, Option, Result}
use Rattle.key_order.specs.Interval.{Span}
use Rattle.key_order.specs.Text.{Text}
use Rattle.merkle_digest.specs.Digest.{base64_of}
use Rattle.merkle_diff.specs.Entry.{span_of}
use Rattle.merkle_tree_theory.specs.declared.page_format.PageFormat.{PageFormat}
use Rattle.mst_pair.specs.Devices.{WritesBytes}
use Rattle.mst_pair.specs.Pages.{HasDefaults, ranges_of_rows, digest_of_rows, text_laws, pair_side}
use Rattle.merkle_replica.specs.Contents.{Contents, Side}
use Rattle.merkle_replica.specs.Pulls.{Answer, IsAnswerFor, IsPull, IsPartOfPull, IsByTurns}
use Rattle.mst_pair.specs.Replies.{reply_line, rows_text, ranges_text, pull_reply, turns_reply}
use Rattle.mst_pair.specs.Requests.{Request, put, del, keys, root, pages, diff, pull, same, turns, set_format, IsSpelled, IsBad}
use Rattle.mst_pair.specs.Replicas.{TextRow, Replicas, HasNoRow, rows, other_rows, JoinsRow, DeletesRow}
use Rattle.mst_pair.specs.declared.engine.ReplicaName.{ReplicaName}

-- ranges that local may ask of the peer: they meet the laws of `diff` on the page ranges of both
abbrev pub AreRangesToAsk : PageFormat → List TextRow → List TextRow → List (Span Text) → Type 0
AreRangesToAsk format local peer = IsAnswerFor text_laws (pair_side format local) (pair_side format peer)

-- local pulled from the peer, with this answer
abbrev pub Pulls : PageFormat → List TextRow → List TextRow → Answer Text → List TextRow → Type 0
Pulls format local peer = IsPull text_laws (pair_side format local) (pair_side format peer)

-- a pull ran out of memory: nothing changed, or the first rows in the ranges were joined
abbrev pub RunsOutInPull : PageFormat → List TextRow → List TextRow → List TextRow → Type 0
RunsOutInPull format local peer after = (after ≡ local) ⊎ ((answer : Answer Text) × (done : ℕ) × IsPartOfPull text_laws (pair_side format local) (pair_side format peer) answer done after)

-- pulls by turns, local first, with these answers
abbrev pub TakesTurns : PageFormat → List (Answer Text) → List TextRow → List TextRow → List TextRow → List TextRow → Type 0
TakesTurns format answers local peer local' peer' =
    (met : List (Side Text ℕ (List ℕ) × Side Text ℕ (List ℕ)))
    × IsByTurns text_laws answers (pair_side format local) (pair_side format peer) local' peer' met

-- pulls by turns, local first, of which those with these answers were made, and the next ran out of memory
abbrev pub StopsAfter : PageFormat → List (Answer Text) → List TextRow → List TextRow → List TextRow → List TextRow → Type 0
StopsAfter format [] local peer local' peer' = RunsOutInPull format local peer local' × (peer' ≡ peer)
StopsAfter format (answer ∷ answers) local peer local' peer' = (after : List TextRow) × Pulls format local peer answer after × StopsAfter format answers peer after peer' local'

-- d pulls by turns, local first, ran out of memory: fewer whole pulls were made, and then one stopped
abbrev pub StopsInTurns : PageFormat → ℕ → List TextRow → List TextRow → List TextRow → List TextRow → Type 0
StopsInTurns format d local peer local' peer' = (answers : List (Answer Text)) × (length answers < d) × StopsAfter format answers local peer local' peer'

-- the replica of that name may ask the other for these ranges
abbrev pub MayAskOther : Replicas → ReplicaName → List (Span Text) → Type 0
MayAskOther s name = AreRangesToAsk s.format (rows s name) (other_rows s name)

-- it pulled from the other, with this answer
abbrev pub PullsFromOther : Replicas → ReplicaName → Replicas → Answer Text → Type 0
PullsFromOther old name new answer = Pulls old.format (rows old name) (other_rows old name) answer (rows new name)

-- its pull ran out of memory
abbrev pub StopsInPull : Replicas → ReplicaName → Replicas → Type 0
StopsInPull old name new = RunsOutInPull old.format (rows old name) (other_rows old name) (rows new name)

-- the replicas pulled from each other by turns, a first, with these answers
abbrev pub PullByTurns : Replicas → Replicas → List (Answer Text) → Type 0
PullByTurns old new answers = TakesTurns old.format answers old.a old.b new.a new.b

-- the reply where memory ran out
abbrev pub no_memory : List ℕ
no_memory = reply_line (codes "no memory")

-- memory ran out, and nothing changed
abbrev pub RunsOut : Replicas → List ℕ → Replicas → Type 0
RunsOut old reply new = (reply ≡ no_memory) × (new ≡ old)

-- the reply to `del`: whether a row was taken out
abbrev pub deleted_text : Bool → List ℕ
deleted_text found = reply_line (if found then (codes "ok") else (codes "absent"))

-- from old, a request may get this reply and leave new
abbrev pub Answers : Replicas → Request → List ℕ → Replicas → Type 0
Answers old (put name key n) reply new =
    ((reply ≡ reply_line (codes "ok")) × JoinsRow (rows old name) (rows new name) key n
    × (other_rows new name ≡ other_rows old name) × (new.format ≡ old.format))
    ⊎ RunsOut old reply new
Answers old (del name key) reply new =
    ((found : Bool) × (reply ≡ deleted_text found) × DeletesRow (rows old name) (rows new name) key found
    × (other_rows new name ≡ other_rows old name) × (new.format ≡ old.format))
    ⊎ RunsOut old reply new
Answers old (keys name) reply new = (reply ≡ rows_text (rows old name)) × (new ≡ old)
Answers old (root name) reply new = (reply ≡ reply_line (base64_of (digest_of_rows old.format (rows old name)))) × (new ≡ old)
Answers old (pages name) reply new = ((reply ≡ ranges_text (map span_of (ranges_of_rows old.format (rows old name)))) × (new ≡ old)) ⊎ RunsOut old reply new
Answers old (diff name) reply new =
    ((found : List (Span Text)) × AreRangesToAsk old.format (rows old name) (other_rows old name) found × (reply ≡ ranges_text found) × (new ≡ old))
    ⊎ RunsOut old reply new
Answers old (pull name) reply new =
    (other_rows new name ≡ other_rows old name) × (new.format ≡ old.format)
    × (((answer : Answer Text) × Pulls old.format (rows old name) (other_rows old name) answer (rows new name) × (reply ≡ pull_reply answer))
    ⊎ ((reply ≡ no_memory) × RunsOutInPull old.format (rows old name) (other_rows old name) (rows new name)))
Answers old same reply new =
    (((digest_of_rows old.format old.a ≡ digest_of_rows old.format old.b) × (reply ≡ reply_line (codes "same")))
    ⊎ ((digest_of_rows old.format old.a ≢ digest_of_rows old.format old.b) × (reply ≡ reply_line (codes "differ"))))
    × (new ≡ old)
Answers old (turns d) reply new =
    (new.format ≡ old.format)
    × (((answers : List (Answer Text)) × (length answers ≡ d) × TakesTurns old.format answers old.a old.b new.a new.b × (reply ≡ turns_reply answers))
    ⊎ ((reply ≡ no_memory) × StopsInTurns old.format d old.a old.b new.a new.b))
Answers old (set_format format) reply new =
    (HasNoRow old × (reply ≡ reply_line (codes "ok")) × (new ≡ record { a = []; b = []; format = format }))
    ⊎ ((HasNoRow old → ⊥) × (reply ≡ reply_line (codes "not empty")) × (new ≡ old))

-- from old, a line may get this reply and leave new
abbrev pub RepliesTo : Replicas → List ℕ → List ℕ → Replicas → Type 0
RepliesTo old line reply new = ((q : Request) × IsSpelled q line × Answers old q reply new) ⊎ (IsBad line × (reply ≡ reply_line (codes "bad line")) × (new ≡ old))

-- a call writes the ranges of the pages that show rows, or that memory ran out
abbrev pub WritesPages : {A E : Type 0} → PageFormat → List TextRow → Result A E → Option (List ℕ) → Option (List ℕ) → Type 0
WritesPages format shown result taken taken' =
    (reply : List ℕ) × ((reply ≡ ranges_text (map span_of (ranges_of_rows format shown))) ⊎ (reply ≡ no_memory)) × WritesBytes result taken taken' reply

-- it does so of a replica, by its own rows
abbrev pub WritesItsPages : {A E : Type 0} → Contents Text ℕ (List ℕ) → Result A E → Option (List ℕ) → Option (List ℕ) → Type 0
WritesItsPages c result taken taken' = (format : PageFormat) → HasDefaults format c → WritesPages format c.rows result taken taken'

-- from old, a call carries out a request to new, and writes the reply
abbrev pub CarriesOut : {A E : Type 0} → Replicas → Request → Replicas → Result A E → Option (List ℕ) → Option (List ℕ) → Type 0
CarriesOut old request new result taken taken' = (reply : List ℕ) × Answers old request reply new × WritesBytes result taken taken' reply

-- it answers a line
abbrev pub AnswersLine : {A E : Type 0} → Replicas → List ℕ → Replicas → Result A E → Option (List ℕ) → Option (List ℕ) → Type 0
AnswersLine old line new result taken taken' = (reply : List ℕ) × RepliesTo old line reply new × WritesBytes result taken taken' reply
