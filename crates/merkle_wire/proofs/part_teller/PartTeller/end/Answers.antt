use Rattle.std.proofs.Common.{◌++◌, ◌∷◌, [], cond, sym, ap, ap₂, ◌∙◌, append_assoc}
use Rattle.merkle_bytes.specs.Counts.{count_bytes}
use Rattle.merkle_wire.proofs.PartsTold.{part_told}
use Rattle.merkle_wire.proofs.part_teller.PartTeller.end.Goals as goal

pub returns : goal.returns
returns g c =
    let part = c.self.inside in
    let old = c.args.bytes.now.items in
    let counted = count_bytes part.count in
    let rows = part.bytes.items in
    let flag = cond c.args.whole 1 0 ∷ [] in
    rw (sym c.self.view_is) (part_told g.K.Encode.encoding g.V.Encode.encoding g.K.Ord.cmp (record { room = part.room; count = part.count; last = part.run; bytes = rows }) c.args.whole
    c.args.bytes.now c.extend_from_slice-2.new.self
    (c.in_ok-extend_from_slice-2.ensures.items ∙ ap (λ b. c.extend_from_slice.new.self.items ++ b ∷ []) c.byte_of.ensures
    ∙ ap (λ t. t ++ flag) (c.in_ok-extend_from_slice.ensures.items ∙ ap₂ (λ t u. t ++ u) c.in_ok-encode_count.ensures c.deref.ensures.value ∙ append_assoc old counted rows)
    ∙ append_assoc old (counted ++ rows) flag))
