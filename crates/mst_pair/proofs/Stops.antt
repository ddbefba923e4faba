-- Pulls of replicas of the program, in the words of the engine.
use Rattle.std.proofs.Common.{◌≡◌, ℕ, List, [], ◌∷◌, inl, inr, subst, map, Result, Ok, Err, IfErr, OnErr}
use Rattle.key_order.specs.Interval.{Span}
use Rattle.key_order.specs.Text.{Text}
use Rattle.merkle_tree_theory.specs.declared.page_format.PageFormat.{PageFormat}
use Rattle.merkle_replica.specs.Answers.{answer_of, IsRefused, StopsByTurns}
use Rattle.merkle_replica.specs.Contents.{Contents, Side, side}
use Rattle.mst_pair.specs.Engine.{AreRangesToAsk, RunsOutInPull, StopsAfter}
use Rattle.mst_pair.specs.Pages.{HasDefaults, text_laws, pair_side}
use Rattle.merkle_replica.specs.Pulls.{IsAnswerFor}
use Rattle.mst_pair.specs.Replicas.{TextRow}
use Rattle.merkle_replica.specs.declared.pull.Pulled.{Pulled}
use Rattle.merkle_replica.specs.declared.pull.PullError.{PullError}
use Rattle.merkle_replica.specs.declared.pull.PullError.TheVariants.{Memory, Partly}

-- what holds of the sides of two replicas with the defaults holds of those of the engine
pub under_defaults : (P : Side Text ℕ (List ℕ) → Side Text ℕ (List ℕ) → Type 0) (format : PageFormat) (a b : Contents Text ℕ (List ℕ)) → HasDefaults format a
    → HasDefaults format b → P (side a) (side b) → P (pair_side format a.rows) (pair_side format b.rows)
under_defaults P format a b da db p = subst (λ s. P (pair_side format a.rows) s) (of_defaults b db) (subst (λ s. P s (side b)) (of_defaults a da) p)
  where
    of_defaults : (c : Contents Text ℕ (List ℕ)) → HasDefaults format c → side c ≡ pair_side format c.rows
    of_defaults c d = λ i. record { hasher = d.0 i; base = d.1 i; format = d.2 i; rows = c.rows }

-- ranges that a replica may ask for, in the words of the engine
pub to_ask : (format : PageFormat) (a b : Contents Text ℕ (List ℕ)) (found : List (Span Text)) → HasDefaults format a → HasDefaults format b
    → IsAnswerFor text_laws (side a) (side b) found → AreRangesToAsk format a.rows b.rows found
to_ask format a b found da db answer = under_defaults (λ s t. IsAnswerFor text_laws s t found) format a b da db answer

-- what an error says, of the call
pub on_err_from : {T E : Type 0} (Q : E → Type 0) (P : Type 0) (r : Result T E) → ((e : E) → Q e → P) → IfErr r Q → OnErr r P
on_err_from Q P (Ok x) f h = tt
on_err_from Q P (Err e) f h = f e h

-- what two facts say of an error, of the call
pub on_err_from_both : {T E : Type 0} (Q R : E → Type 0) (P : Type 0) (r : Result T E) → ((e : E) → Q e → R e → P) → IfErr r Q → IfErr r R → OnErr r P
on_err_from_both Q R P (Ok x) f h i = tt
on_err_from_both Q R P (Err e) f h i = f e h i

-- a refused pull
pub stops_pulling : (format : PageFormat) (local peer : List TextRow) (fault : PullError Text) (after : List TextRow)
    → IsRefused text_laws (pair_side format local) (pair_side format peer) fault after → RunsOutInPull format local peer after
stops_pulling format local peer Memory after same = inl same
stops_pulling format local peer (Partly pulled done) after part = inr (answer_of pulled, done, part)

-- refused pulls by turns
pub stops_after : (format : PageFormat) (finished : List (Pulled Text)) (fault : PullError Text) (local peer local' peer' : List TextRow)
    → StopsByTurns text_laws finished fault (pair_side format local) (pair_side format peer) local' peer' → StopsAfter format (map answer_of finished) local peer local' peer'
stops_after format [] fault local peer local' peer' (refused, same) = (stops_pulling format local peer fault local' refused, same)
stops_after format (pulled ∷ finished) fault local peer local' peer' (after, made, rest) = (after, made, stops_after format finished fault peer after peer' local' rest)
