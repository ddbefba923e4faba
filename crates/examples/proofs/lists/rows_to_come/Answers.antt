use Rattle.std.proofs.Common.{◌≡◌, ◌++◌, ap, sym, ◌∙◌, append_assoc, length}
use Rattle.merkle_bytes.specs.Counts.{count_bytes}
use Rattle.examples.proofs.lists.rows_to_come.Goals as goal

-- the bytes tell the count that they begin with
pub returns : goal.returns
returns c =
    let read = sym c.new-reader.ensures.left ∙ c.in_ok-count.ensures.read in
    let count = c.in_ok-count.count in
    let left = c.count.new.self.left.now in record {
      told = λ rows more rest whole. (c.bytes_tell_counts.ensures count (length rows) (left ++ more) _
          (sym (append_assoc (count_bytes count) left more) ∙ ap (λ bytes. bytes ++ more) (sym read) ∙ whole ∙ append_assoc (count_bytes (length rows)) _ rest)).0;
    }
