-- The front of messages.
use Rattle.std.specs.Prelude.{ℕ, List, [], ◌∷◌}
use Rattle.merkle_wire.specs.declared.message.Kind.{Kind}
use Rattle.merkle_wire.specs.declared.message.Kind.TheVariants.{AskRoot, AskOutlines, AskNodes, AskRowsAt, AskRowsIn, Root, Outlines, Nodes, RowsAt, RowsIn, Refusal}

-- the byte of a kind; that of a reply is 128 more than that of its question
abbrev pub kind_byte : Kind → ℕ
kind_byte AskRoot = 1
kind_byte AskOutlines = 2
kind_byte AskNodes = 3
kind_byte AskRowsAt = 4
kind_byte AskRowsIn = 5
kind_byte Root = 129
kind_byte Outlines = 130
kind_byte Nodes = 131
kind_byte RowsAt = 132
kind_byte RowsIn = 133
kind_byte Refusal = 255

-- the front of a message: the version, which is 1, and the kind
abbrev pub front : Kind → List ℕ
front kind = 1 ∷ kind_byte kind ∷ []
