-- Whole runs of the engine, and what a run leaves at its devices.
use Rattle.std.specs.Prelude.{◌≡◌, ℕ, List, [], ◌∷◌, ◌++◌, Option, Result, Ok, Err, codes}
use Rattle.std.specs.Io.KnownBytes.{Consumes, Appends, IsAtEnd}
use Rattle.mst_pair.specs.Devices.{ConsumesOrHides, AppendsOrHides}
use Rattle.mst_pair.specs.Lines.{lines_of, whole_lines}
use Rattle.mst_pair.specs.Replicas.{Replicas, empty_replicas}
use Rattle.mst_pair.specs.Engine.{RepliesTo}
use Rattle.mst_pair.specs.declared.run.RunFault.{RunFault}
use Rattle.mst_pair.specs.declared.run.RunFault.TheVariants.{Read, Write}

-- from old, the lines may get replies that are written like this, one after the other, and leave new
abbrev pub Run : Replicas → List (List ℕ) → List ℕ → Replicas → Type 0
Run old [] written new = (written ≡ []) × (new ≡ old)
Run old (line ∷ lines) written new = (reply : List ℕ) × (rest : List ℕ) × (mid : Replicas) × RepliesTo old line reply mid × Run mid lines rest new × (written ≡ reply ++ rest)

-- from two empty replicas, the lines may get replies that are written like this
abbrev pub Replies : List (List ℕ) → List ℕ → Type 0
Replies lines written = (new : Replicas) × Run empty_replicas lines written new

-- a beginning of a reply to the first of the lines, and nothing where there is none
abbrev pub BeginsReply : Replicas → List (List ℕ) → List ℕ → Type 0
BeginsReply s [] front = front ≡ []
BeginsReply s (line ∷ lines) front = (rest : List ℕ) × (new : Replicas) × RepliesTo s line (front ++ rest) new

-- whole replies to some first lines, and a beginning of the reply to the next
pub record RepliesCut (lines : List (List ℕ)) (written : List ℕ) : Type 0 where
  pub answered : List (List ℕ)
  pub others : List (List ℕ)
  pub whole : List ℕ
  pub front : List ℕ
  pub mid : Replicas
  pub lines_are : lines ≡ answered ++ others
  pub run : Run empty_replicas answered whole mid
  pub begins : BeginsReply mid others front
  pub written_is : written ≡ whole ++ front

-- How a run may end, by what its source tells before and after it, and what its sink tells.
-- Ok: all of the source was read, and the replies to all its lines were written. A read fault: the replies to the whole
-- lines read. A write fault: whole replies to some first lines of what was read, and a beginning of the next reply.
abbrev pub RunEnds : {A : Type 0} → Result A RunFault → Option (List ℕ) → Option (List ℕ) → Option (List ℕ) → Option (List ℕ) → Type 0
RunEnds (Ok x) left left' taken taken' = (input : List ℕ) × (written : List ℕ) × Consumes left left' input × IsAtEnd left' × Appends taken taken' written × Replies (lines_of input) written
RunEnds (Err Read) left left' taken taken' = (input : List ℕ) × (written : List ℕ) × ConsumesOrHides left left' input × Appends taken taken' written × Replies (whole_lines input) written
RunEnds (Err Write) left left' taken taken' = (input : List ℕ) × (written : List ℕ) × Consumes left left' input × AppendsOrHides taken taken' written × RepliesCut (lines_of input) written

-- what the program says of a fault
abbrev pub fault_text : RunFault → List ℕ
fault_text Read = codes "mst_pair: read failed"
fault_text Write = codes "mst_pair: write failed"
