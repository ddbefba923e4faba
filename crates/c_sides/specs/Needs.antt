-- What is needed of the rows for a reply.
use Rattle.std.specs.Prelude.{◌≡◌, ℕ, List, [], ◌∷◌, ◌++◌, map, Option, Some, None, MatchOption, ⊤}
use Rattle.std.specs.Global.{Vec}
use Rattle.c_values.specs.Lists.{row_list}
use Rattle.merkle_wire.specs.declared.gaps.OwnedGap.{OwnedGap}
use Rattle.merkle_wire.specs.declared.question.Question.{Question}
use Rattle.merkle_wire.specs.declared.question.Question.TheVariants.{Root, Outlines, Nodes, RowsAt, RowsIn}
use Rattle.merkle_wire.specs.declared.wanted.Wanted.{Wanted}

-- of a key the row is needed, if it is there: the key, and a byte 2
abbrev pub key_need : Wanted (Vec ℕ) → List ℕ × List ℕ
key_need wanted = (wanted.key.items, 2 ∷ [])

-- the least byte string above a bound
abbrev pub first_key : Option (Vec ℕ) → List ℕ
first_key None = []
first_key (Some bound) = bound.items ++ 0 ∷ []

-- where the keys end: a byte 1 and the bound below which they are, or a byte 0
abbrev pub end_mark : Option (Vec ℕ) → List ℕ
end_mark None = 0 ∷ []
end_mark (Some bound) = 1 ∷ bound.items

-- of a gap its rows are needed: the first key that may be there, and where the keys end
abbrev pub gap_need : OwnedGap (Vec ℕ) → List ℕ × List ℕ
gap_need gap = (first_key gap.after, end_mark gap.before)

-- the bytes list what a question needs of the rows, in the order of the question
abbrev pub AreNeeds : Question (Vec ℕ) → List ℕ → Type 0
AreNeeds (Root settings) bytes = ⊥
AreNeeds (Outlines most gaps) bytes = ⊥
AreNeeds (Nodes most gaps) bytes = ⊥
AreNeeds (RowsAt keys) bytes = bytes ≡ row_list (map key_need keys.items)
AreNeeds (RowsIn gaps) bytes = bytes ≡ row_list (map gap_need gaps.items)

-- a question needs none of the rows
abbrev pub NeedsNone : Question (Vec ℕ) → Type 0
NeedsNone (Root settings) = ⊤
NeedsNone (Outlines most gaps) = ⊤
NeedsNone (Nodes most gaps) = ⊤
NeedsNone (RowsAt keys) = ⊥
NeedsNone (RowsIn gaps) = ⊥

-- the list of what is needed, where something is
abbrev pub NeedsWhat : Question (Vec ℕ) → Option (Vec ℕ) → Type 0
NeedsWhat asked list = MatchOption list (NeedsNone asked) (λ needs. AreNeeds asked needs.items)
