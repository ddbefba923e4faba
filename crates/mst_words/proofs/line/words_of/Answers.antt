use Rattle.std.proofs.Common.{Option, option_map, sym, ap, ◌∙◌, inl, inr}
use Rattle.std.proofs.lemmas.Iterator.{YieldsList-from_chars}
use Rattle.std.proofs.lemmas.Iterator.Consumers.{YieldsList-end, YieldsList-so_far, YieldsList-turn}
use Rattle.std.proofs.lemmas.List.{map-id}
use Rattle.std.proofs.lemmas.Result.{err_from_is_err_and}
use Rattle.mst_words.specs.Lines.{Line, closed, line_of}
use Rattle.mst_words.specs.declared.line.Place.{Place}
use Rattle.mst_words.proofs.LineLemmas.{no-words, read-more, same-error, stops-at, words-read, wrong-is-none}
use Rattle.mst_words.proofs.line.words_of.Goals as goal

pub characters-preserved : goal.characters-preserved
characters-preserved c =
    read-more c.characters.yielded c.in-Some.character (line_of c.characters.reading) (line_of c.in_ok-reading.reading) c.characters.invariant c.in_ok-reading.ensures

pub returns-in_err-reading-clause-none : goal.returns-in_err-reading-clause-none
returns-in_err-reading-clause-none c = λ told.
    let line = line_of c.characters.reading in
    let all = YieldsList-from_chars c.args.line.now c.utf8.line cc in
    let front = YieldsList-so_far all c.characters.yielded _ c.characters.yielded_by in
    let turn = YieldsList-turn all c.characters.yielded _ c.characters.yielded_by _ _ c.in-Some.character c.in-Some.is c.next.ensures.steps in
    let handed = err_from_is_err_and c.from_residual.result c.from_residual.ensures.1 in
    let why = same-error c.from_residual.result handed.0 c.in_err-reading.field-0.0 handed.1 handed.2 told in
    no-words c.args.line.now
    (stops-at _ c.characters.yielded c.in-Some.character line (sym (map-id c.characters.yielded) ∙ front) turn.0 turn.1 c.characters.invariant
    (wrong-is-none _ c.in_err-reading.field-0.0 c.in_err-reading.ensures why))

pub returns-in-Between-clause-words : goal.returns-in-Between-clause-words
returns-in-Between-clause-words c =
    let line = line_of c.characters.reading in
    let all = YieldsList-end (YieldsList-from_chars c.args.line.now c.utf8.line cc) c.characters.yielded _ c.characters.yielded_by _ _ c.in-None.is c.next.ensures.steps in
    words-read c.args.line.now c.characters.yielded line (sym (map-id c.characters.yielded) ∙ all.0) c.characters.invariant ∙ ap (λ (place : Place). closed place line) c.in-Between.is

pub returns-in_ok-end_word-in-Within-clause-words : goal.returns-in_ok-end_word-in-Within-clause-words
returns-in_ok-end_word-in-Within-clause-words c =
    let line = line_of c.characters.reading in
    let all = YieldsList-end (YieldsList-from_chars c.args.line.now c.utf8.line cc) c.characters.yielded _ c.characters.yielded_by _ _ c.in-None.is c.next.ensures.steps in
    words-read c.args.line.now c.characters.yielded line (sym (map-id c.characters.yielded) ∙ all.0) c.characters.invariant ∙ ap (λ (place : Place). closed place line) c.in-Within.is
    ∙ ap (λ (o : Option Line). option_map (λ (l : Line). l.words) o) c.in_ok-end_word-in-Within.ensures

pub returns-in-Quoted-clause-none : goal.returns-in-Quoted-clause-none
returns-in-Quoted-clause-none c = λ told.
    let line = line_of c.characters.reading in
    let all = YieldsList-end (YieldsList-from_chars c.args.line.now c.utf8.line cc) c.characters.yielded _ c.characters.yielded_by _ _ c.in-None.is c.next.ensures.steps in
    let read = words-read c.args.line.now c.characters.yielded line (sym (map-id c.characters.yielded) ∙ all.0) c.characters.invariant in
    elim c.in-Quoted.is [ inl quoted ↦ read ∙ ap (λ (place : Place). closed place line) quoted | inr escaped ↦ read ∙ ap (λ (place : Place). closed place line) escaped ]
