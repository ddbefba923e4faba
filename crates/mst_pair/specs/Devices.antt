-- What a device tells of its bytes before and after a call. `None`: it tells nothing.
use Rattle.std.specs.Prelude.{◌≡◌, ℕ, List, ◌++◌, take, Option, None, Some, Bool, true, ⊤, ◌⊎◌, Result, Ok, Err}
use Rattle.std.specs.Io.KnownBytes.{Appends, Consumes}
use Rattle.mst_pair.specs.declared.sink.ToWrite.{ToWrite}
use Rattle.mst_pair.specs.declared.source.FromRead.{FromRead}

-- the bytes stay as they were, or are told no more
abbrev pub KeepsOrHides : Option (List ℕ) → Option (List ℕ) → Type 0
KeepsOrHides old None = ⊤
KeepsOrHides None (Some ys) = ⊤
KeepsOrHides (Some xs) (Some ys) = ys ≡ xs

-- the bytes begin with bs and lose them, and those after bs may be told no more
abbrev pub ConsumesOrHides : Option (List ℕ) → Option (List ℕ) → List ℕ → Type 0
ConsumesOrHides None new bs = ⊤
ConsumesOrHides (Some xs) None bs = (rest : List ℕ) × (xs ≡ bs ++ rest)
ConsumesOrHides (Some xs) (Some ys) bs = xs ≡ bs ++ ys

-- the bytes grow by bs, or are told no more
abbrev pub AppendsOrHides : Option (List ℕ) → Option (List ℕ) → List ℕ → Type 0
AppendsOrHides old None bs = ⊤
AppendsOrHides None (Some ys) bs = ⊤
AppendsOrHides (Some xs) (Some ys) bs = ys ≡ xs ++ bs

-- the reader that a source reads from
abbrev pub reader_inside : {R : Type 0} → FromRead R → R
reader_inside source = source.inner

-- the writer that a sink writes to
abbrev pub writer_inside : {W : Type 0} → ToWrite W → W
writer_inside sink = sink.inner

-- an error marks a device as failed, and nothing else does
abbrev pub MarksFailure : {A E : Type 0} → Result A E → Bool → Bool → Type 0
MarksFailure (Ok x) old new = new ≡ old
MarksFailure (Err e) old new = new ≡ true

-- so does a call that leads from one state of a device to another, of which this says whether they have failed
abbrev pub MarksFailed : {D A E : Type 0} → (D → Bool) → D → D → Result A E → Type 0
MarksFailed has_failed old new result = MarksFailure result (has_failed old) (has_failed new)

-- the writer in a sink took the first n of these bytes, and the reader in a source gave them up
abbrev pub WriterTakes : {W : Type 0} → (W → Option (List ℕ)) → ToWrite W → ToWrite W → List ℕ → ℕ → Type 0
WriterTakes contents old new bytes n = Appends (contents (writer_inside old)) (contents (writer_inside new)) (take n bytes)

abbrev pub ReaderGives : {R : Type 0} → (R → Option (List ℕ)) → FromRead R → FromRead R → List ℕ → ℕ → Type 0
ReaderGives remaining old new bytes n = Consumes (remaining (reader_inside old)) (remaining (reader_inside new)) (take n bytes)

-- the sink had failed before, or its writer may refuse the call
abbrev pub FailedOrRefuses : {W : Type 0} → (ToWrite W → Bool) → (W → W → Type 0) → ToWrite W → ToWrite W → Type 0
FailedOrRefuses has_failed may_refuse old new = (has_failed old ≡ true) ⊎ may_refuse (writer_inside old) (writer_inside new)

-- a beginning of bs was written
abbrev pub WritesPart : Option (List ℕ) → Option (List ℕ) → List ℕ → Type 0
WritesPart old new bs = (front : List ℕ) × (rest : List ℕ) × (bs ≡ front ++ rest) × AppendsOrHides old new front

-- a call that writes bs wrote all of it, or at an error a beginning of it
abbrev pub WritesBytes : {A E : Type 0} → Result A E → Option (List ℕ) → Option (List ℕ) → List ℕ → Type 0
WritesBytes (Ok x) old new bs = Appends old new bs
WritesBytes (Err e) old new bs = WritesPart old new bs

-- Text that was pending, and bs after it, was written but for what is pending now; at an error a beginning of it was.
abbrev pub Passes : {A E : Type 0} → Result A E → Option (List ℕ) → Option (List ℕ) → List ℕ → List ℕ → List ℕ → Type 0
Passes (Ok x) old new pending bs pending' = (written : List ℕ) × Appends old new written × (pending ++ bs ≡ written ++ pending')
Passes (Err e) old new pending bs pending' = WritesPart old new (pending ++ bs)
