-- What a side tells of its rows and its tree.
use Rattle.std.specs.Prelude.{◌≡◌, ℕ, List, Option, IfSome}
use Rattle.std.specs.Global.{Vec}
use Rattle.std.specs.declared.cmp.Ordering.{Ordering}
use Rattle.key_order.specs.Map.{get}
use Rattle.merkle_replica.specs.Contents.{Contents}
use Rattle.merkle_replica.specs.Laws.{Laws}
use Rattle.merkle_wire.specs.Messages.{front}
use Rattle.merkle_wire.specs.Outlines.{IsTold}
use Rattle.merkle_wire.specs.Replies.{AnswersFirst, IsAnsweredBy, IsPartOf, IsReply, RowsFit, TellsWhatFits, items_over, outline_over_bytes, part_in_bytes, value_at_bytes}
use Rattle.merkle_wire.specs.declared.gaps.OwnedGap.{OwnedGap}
use Rattle.merkle_wire.specs.declared.message.Kind.{Kind}
use Rattle.merkle_wire.specs.declared.message.Kind.TheVariants.{RowsAt, RowsIn}
use Rattle.merkle_wire.specs.declared.outlines.Telling.{Telling}
use Rattle.merkle_wire.specs.declared.question.Question.{Question}
use Rattle.merkle_wire.specs.declared.wanted.Wanted.{Wanted}

module _ {K V H : Type 0} (laws : Laws K V H) (n : ℕ) (encoding : K → List ℕ) (values : V → List ℕ) where
  -- the message asks a question, and this is the reply to it by the rows before and the tree after
  abbrev pub IsAnsweredOf : Contents K V H → Contents K V H → List ℕ → Vec ℕ → Type 0
  IsAnsweredOf before after message reply = IsAnsweredBy laws n encoding values before.rows after.tree message reply

  -- what a side would reply itself to a question, where it replies: the reply by the rows before and the tree after
  abbrev pub IsOwnReply : Contents K V H → Contents K V H → Question K → Option (Vec ℕ) → Type 0
  IsOwnReply before after question own = IfSome own (λ reply. IsReply laws n encoding values before.rows after.tree question reply.items)

-- a reply of this kind tells of the pages over the first of the gaps
abbrev pub TellsOutlines : {K V H : Type 0} → (K → K → Ordering) → (K → List ℕ) → (K → List ℕ) → (V → List ℕ) → Contents K V H → Telling → Kind → List (OwnedGap K) → Vec ℕ → Type 0
TellsOutlines cmp bytes_of encoding values side telling kind gaps reply =
    AnswersFirst kind (outline_over_bytes encoding values) (λ g. IsTold cmp side.rows telling.with_pages (items_over cmp bytes_of side.tree g)) gaps reply.items

-- a reply tells the values at the first of the keys
abbrev pub TellsValues : {K V : Type 0} → (K → K → Ordering) → (V → List ℕ) → List (K × V) → List (Wanted K) → Vec ℕ → Type 0
TellsValues cmp values rows keys reply = AnswersFirst RowsAt (value_at_bytes values) (λ w value. value ≡ get cmp rows w.key) keys reply.items

-- a reply tells the rows in the first of the gaps
abbrev pub TellsRows : {K V : Type 0} → (K → List ℕ) → (V → List ℕ) → (K → K → Ordering) → List (K × V) → List (OwnedGap K) → Vec ℕ → Type 0
TellsRows encoding values cmp rows gaps reply = AnswersFirst RowsIn (part_in_bytes encoding values) (IsPartOf cmp rows) gaps reply.items

-- a reply of rows in gaps tells all that fit
abbrev pub TellsRowsThatFit : {K V : Type 0} → (K → List ℕ) → (V → List ℕ) → ℕ → List (OwnedGap K) → Vec ℕ → Type 0
TellsRowsThatFit encoding values most gaps reply = TellsWhatFits (part_in_bytes encoding values) (RowsFit encoding values most) most gaps (front RowsIn) reply.items
