-- How far a run has come in its input.
use Rattle.std.specs.Prelude.{◌≡◌, ℕ, List, ◌++◌, Option, Result, Ok, Err, take}
use Rattle.std.specs.Io.KnownBytes.{Appends}
use Rattle.mst_pair.specs.Devices.{AppendsOrHides}
use Rattle.mst_pair.specs.Lines.{parts, whole_lines, lines_of}
use Rattle.mst_pair.specs.Replicas.{Replicas, empty_replicas}
use Rattle.mst_pair.specs.Run.{Run, Replies, RepliesCut}
use Rattle.mst_pair.specs.declared.session.Session.{Session}

-- how many bytes of a line are kept
abbrev pub kept_bytes : ℕ
kept_bytes = 283

-- the whole lines of the input are answered, and the first bytes of the rest are kept
pub record Reached (input written : List ℕ) (state : Replicas) (kept : List ℕ) : Type 0 where
  pub run : Run empty_replicas (whole_lines input) written state
  pub kept_is : kept ≡ take kept_bytes (parts input).rest

-- a call that goes on to this input, with `written` before it
abbrev pub GoesOnWith : {A E : Type 0} → Result A E → List ℕ → List ℕ → Option (List ℕ) → Option (List ℕ) → Replicas → List ℕ → Type 0
GoesOnWith (Ok x) input written taken taken' state kept = (more : List ℕ) × Appends taken taken' more × Reached input (written ++ more) state kept
GoesOnWith (Err e) input written taken taken' state kept = (more : List ℕ) × AppendsOrHides taken taken' more × RepliesCut (lines_of input) (written ++ more)

-- a call that answers what is left of this input
abbrev pub Finishes : {A E : Type 0} → Result A E → List ℕ → List ℕ → Option (List ℕ) → Option (List ℕ) → Type 0
Finishes (Ok x) input written taken taken' = (more : List ℕ) × Appends taken taken' more × Replies (lines_of input) (written ++ more)
Finishes (Err e) input written taken taken' = (more : List ℕ) × AppendsOrHides taken taken' more × RepliesCut (lines_of input) (written ++ more)

-- from a state that an input reached, these bytes more are taken
abbrev pub Feeds : {A E : Type 0} → Session → List ℕ → Result A E → Option (List ℕ) → Option (List ℕ) → Session → Type 0
Feeds old bytes result taken taken' new =
    (input written : List ℕ) → Reached input written old.engine old.line → GoesOnWith result (input ++ bytes) written taken taken' new.engine new.line

-- from such a state the input is at its end
abbrev pub EndsSession : {A E : Type 0} → Session → Result A E → Option (List ℕ) → Option (List ℕ) → Type 0
EndsSession old result taken taken' = (input written : List ℕ) → Reached input written old.engine old.line → Finishes result input written taken taken'
