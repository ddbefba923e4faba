-- A line is added in four texts: the first field, a space, the second field and a newline.
use Rattle.std.proofs.Common.{◌++◌, ◌∷◌, [], codes}
use Rattle.mst_pair.specs.Lines.{newline}
use Rattle.mst_pair.proofs.Devices.{passes_err, part_less, passed_part, passed_more, passes_after}
use Rattle.mst_pair.proofs.reply.write_fields.Goals as goal

pub returns-in_err-write-clause-bytes : goal.returns-in_err-write-clause-bytes
returns-in_err-write-clause-bytes g c =
    let p = c.args.pending.now in
    let first = c.args.first.now in
    let second = c.args.second.now in
    passes_err _ _ _ _ _ _ c.from_residual.ensures.0
    (part_less _ _ p ((first ++ codes " ") ++ second) (newline ∷ [])
    (part_less _ _ p (first ++ codes " ") second (part_less _ _ p first (codes " ") c.in_err-write.ensures.bytes)))

pub returns-in_err-write-2-clause-bytes : goal.returns-in_err-write-2-clause-bytes
returns-in_err-write-2-clause-bytes g c =
    let p = c.args.pending.now in
    let first = c.args.first.now in
    let second = c.args.second.now in
    let part = passed_part _ _ _ p _ first (codes " ") c.in_ok-write.ensures.bytes c.in_err-write-2.ensures.bytes in
    passes_err _ _ _ _ _ _ c.from_residual-in_err-write-2.ensures.0 (part_less _ _ p ((first ++ codes " ") ++ second) (newline ∷ []) (part_less _ _ p (first ++ codes " ") second part))

pub returns-in_err-write-3-clause-bytes : goal.returns-in_err-write-3-clause-bytes
returns-in_err-write-3-clause-bytes g c =
    let p = c.args.pending.now in
    let first = c.args.first.now in
    let second = c.args.second.now in
    let with_space = passed_more _ _ _ p _ _ first (codes " ") c.in_ok-write.ensures.bytes c.in_ok-write-2.ensures.bytes in
    passes_err _ _ _ _ _ _ c.from_residual-in_err-write-3.ensures.0
    (part_less _ _ p ((first ++ codes " ") ++ second) (newline ∷ []) (passed_part _ _ _ p _ (first ++ codes " ") second with_space c.in_err-write-3.ensures.bytes))

pub returns-clause-bytes : goal.returns-clause-bytes
returns-clause-bytes g c =
    let p = c.args.pending.now in
    let first = c.args.first.now in
    let second = c.args.second.now in
    let with_space = passed_more _ _ _ p _ _ first (codes " ") c.in_ok-write.ensures.bytes c.in_ok-write-2.ensures.bytes in
    let with_second = passed_more _ _ _ p _ _ (first ++ codes " ") second with_space c.in_ok-write-3.ensures.bytes in
    passes_after _ _ _ _ p _ _ ((first ++ codes " ") ++ second) (newline ∷ []) with_second c.write-4.ensures.bytes
