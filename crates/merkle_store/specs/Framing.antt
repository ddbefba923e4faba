-- How messages go over a pair of pipes or a socket.
use Rattle.std.specs.Prelude.{ℕ, List, [], ◌++◌, length, Option, None, Some}
use Rattle.std.specs.Global.{Vec}
use Rattle.std.specs.Int.{w64, to_le_bytes}
use Rattle.std.specs.Io.KnownBytes.{Consumes, IsAtEnd}

-- a message after its length, which has eight bytes, the lowest first
abbrev pub frame_of : List ℕ → List ℕ
frame_of message = to_le_bytes w64 (length message) ++ message

-- what was written to one stream, and what is to be read from the other, where they are known
abbrev pub Streams : Type 0
Streams = Option (List ℕ) × Option (List ℕ)

-- nothing was read, since nothing is left to be read
abbrev pub HasEnded : Option (List ℕ) → Option (List ℕ) → Type 0
HasEnded before after = Consumes before after [] × IsAtEnd after

-- the next message was read; or none, since nothing is left to be read
abbrev pub HasCome : Option (List ℕ) → Option (List ℕ) → Option (Vec ℕ) → Type 0
HasCome before after None = HasEnded before after
HasCome before after (Some message) = Consumes before after (frame_of message.items)
