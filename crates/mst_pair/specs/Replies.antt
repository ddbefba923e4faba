-- The texts of replies.
use Rattle.std.specs.Prelude.{ℕ, List, [], ◌∷◌, ◌++◌, codes, string_bytes}
use Rattle.std.specs.List.{flat_map}
use Rattle.std.specs.Fmt.{decimal}
use Rattle.key_order.specs.Interval.{Span}
use Rattle.key_order.specs.Text.{Text}
use Rattle.mst_pair.specs.Lines.{newline}
use Rattle.merkle_replica.specs.Pulls.{Answer}
use Rattle.mst_pair.specs.Replicas.{TextRow}

-- a text as a line of a reply
abbrev pub reply_line : List ℕ → List ℕ
reply_line text = text ++ newline ∷ []

-- the last line of a list
abbrev pub end_line : List ℕ
end_line = reply_line (codes "end")

-- a row as a line: the key, and the number in decimal without leading zeros
abbrev pub row_text : TextRow → List ℕ
row_text row = reply_line (string_bytes row.0 ++ codes " " ++ decimal row.1)

-- rows, a line for each
abbrev pub rows_text : List TextRow → List ℕ
rows_text rows = flat_map row_text rows ++ end_line

-- a range of keys as a line: its first and its last key
abbrev pub range_text : Span Text → List ℕ
range_text range = reply_line (string_bytes range.first ++ codes " " ++ string_bytes range.last)

-- ranges of keys, a line for each
abbrev pub ranges_text : List (Span Text) → List ℕ
ranges_text ranges = flat_map range_text ranges ++ end_line

-- how many rows a pull joined, as a line
abbrev pub joined_text : ℕ → List ℕ
joined_text n = reply_line (codes "joined " ++ decimal n)

-- a pull: its ranges, and how many rows it joined
abbrev pub pull_reply : Answer Text → List ℕ
pull_reply answer = ranges_text answer.ranges ++ joined_text answer.joined

-- pulls by turns: how many rows each of them joined
abbrev pub turns_reply : List (Answer Text) → List ℕ
turns_reply answers = flat_map (λ answer. joined_text answer.joined) answers ++ end_line
