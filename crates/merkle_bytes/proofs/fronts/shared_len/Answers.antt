use Rattle.std.proofs.Common.{◌≡◌, ◌≤◌, ◌⊎◌, length, inl, inr, arith, sym, ap, ◌∙◌}
use Rattle.merkle_bytes.proofs.KeyParts.{shared_end}
use Rattle.merkle_bytes.proofs.fronts.shared_len.Goals as goal
use Rattle.merkle_bytes.proofs.fronts.shared_len.Goals.{then-first-second, else-first-second}

pub returns : goal.returns
returns c =
    let xs = c.args.first.now in
    let ys = c.args.second.now in
    let at : c.sharing.i ≡ c.if-first-second.len = omega (arith, c.sharing-test.false) in
    let ended : (length xs ≤ c.sharing.i) ⊎ (length ys ≤ c.sharing.i) =
    elim c.if-first-second.branch [ then-first-second w ↦ inl (omega (arith, at, w.len-is)) | else-first-second w ↦ inr (omega (arith, at, w.len-is)) ] in
    sym at ∙ shared_end xs ys c.sharing.i ended c.sharing.invariant
