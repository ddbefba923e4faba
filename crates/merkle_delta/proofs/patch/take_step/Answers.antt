use Rattle.std.proofs.Common.{◌≡◌, ◌++◌, ◌+◌, ◌<◌, ◌≤◌, ◌^◌, length, take, drop, ap, ap₂, subst, sym, ◌∙◌, arith}
use Rattle.std.specs.List.{concat}
use Rattle.std.proofs.lemmas.List.{drop-drop, length-drop}
use Rattle.std.proofs.lemmas.Result.{err_from_is_err_and}
use Rattle.merkle_bytes.specs.Counts.{count_bytes}
use Rattle.merkle_delta.specs.Deltas.{IsStepTaken}
use Rattle.merkle_delta.proofs.Stepping.{bytes_taken, malformed_of, no_bytes, no_count, no_passed, no_run, run_taken}
use Rattle.merkle_delta.proofs.patch.take_step.Goals as goal
use Rattle.merkle_delta.proofs.patch.take_step.Goals.{then-passed-left-via-then-passed-left, then-passed-left-via-else-passed-left+then-taken-left}

pub returns-in_err-taken-clause-unlike : goal.returns-in_err-taken-clause-unlike
returns-in_err-taken-clause-unlike c =
    let p = err_from_is_err_and c.from_residual.result c.from_residual.ensures.1 in
    let chunks = drop c.args.at c.args.own.now in
    let few : length chunks < 2 ^ 64 = omega (arith, length-drop c.args.at c.args.own.now, c.len.ensures, c.len.type_inv) in
    rw (p.1, p.2) (λ unlike. no_count chunks c.args.reader.now.left.now few (c.in_err-taken.ensures.malformed (malformed_of c.in_err-taken.field-0.0 unlike)))

pub returns-in_err-byte_string-clause-unlike : goal.returns-in_err-byte_string-clause-unlike
returns-in_err-byte_string-clause-unlike c =
    let p = err_from_is_err_and c.from_residual-in_err-byte_string.result c.from_residual-in_err-byte_string.ensures.1 in
    let behind = c.count.new.self.left.now in
    rw (p.1, p.2) (λ unlike. no_bytes (drop c.args.at c.args.own.now) c.args.reader.now.left.now behind
    (c.in_ok-taken.ensures.read ∙ ap (λ n. count_bytes n ++ behind) c.if-taken-eq0.true)
    (c.in_err-byte_string.ensures.malformed (malformed_of c.in_err-byte_string.field-0.0 unlike)))

pub returns-then-taken-eq0-clause-taken : goal.returns-then-taken-eq0-clause-taken
returns-then-taken-eq0-clause-taken c =
    let behind = c.count.new.self.left.now in
    bytes_taken (drop c.args.at c.args.own.now) c.args.reader.now.left.now behind c.byte_string.new.self.left.now c.args.bytes.now.items
    c.extend_from_slice.new.self.items c.in_ok-byte_string.field-0.now
    (c.in_ok-taken.ensures.read ∙ ap (λ n. count_bytes n ++ behind) c.if-taken-eq0.true) c.in_ok-byte_string.ensures.read c.in_ok-extend_from_slice.ensures.items

pub returns-in_err-passed-clause-unlike : goal.returns-in_err-passed-clause-unlike
returns-in_err-passed-clause-unlike c =
    let p = err_from_is_err_and c.from_residual-in_err-passed.result c.from_residual-in_err-passed.ensures.1 in
    let chunks = drop c.args.at c.args.own.now in
    let few : length chunks < 2 ^ 64 = omega (arith, length-drop c.args.at c.args.own.now, c.len.ensures, c.len.type_inv) in
    let some : 1 ≤ c.in_ok-taken.taken = omega (arith, c.if-taken-eq0.false) in
    rw (p.1, p.2) (λ unlike. no_passed chunks c.args.reader.now.left.now c.count.new.self.left.now c.in_ok-taken.taken c.in_ok-taken.ensures.read some few
    (c.in_err-passed.ensures.malformed (malformed_of c.in_err-passed.field-0.0 unlike)))

pub returns-then-passed-left-clause-unlike : goal.returns-then-passed-left-clause-unlike
returns-then-passed-left-clause-unlike c =
    let own = c.args.own.now in
    let some : 1 ≤ c.in_ok-taken.taken = omega (arith, c.if-taken-eq0.false) in
    let many : length (drop c.args.at own) < c.in_ok-passed.passed + c.in_ok-taken.taken = elim c.then-passed-left.branch [
      | then-passed-left-via-then-passed-left w ↦ omega (arith, length-drop c.args.at own, c.len.ensures, w.if-passed-left.true)
      | then-passed-left-via-else-passed-left+then-taken-left w ↦ omega (arith, length-drop c.args.at own, c.len.ensures, w.if-passed-left.false, w.if-taken-left.true)
    ] in
    λ unlike. no_run (drop c.args.at own) c.args.reader.now.left.now c.count.new.self.left.now c.count-2.new.self.left.now c.in_ok-taken.taken c.in_ok-passed.passed
    c.in_ok-taken.ensures.read c.in_ok-passed.ensures.read some many

pub returns-clause-taken : goal.returns-clause-taken
returns-clause-taken c =
    let own = c.args.own.now in
    let at = c.args.at in
    let passed = c.in_ok-passed.passed in
    let taken = c.in_ok-taken.taken in
    let some : 1 ≤ taken = omega (arith, c.if-taken-eq0.false) in
    let few : passed + taken ≤ length (drop at own) = omega (arith, length-drop at own, c.len.ensures, c.if-passed-left.false, c.if-taken-left.false) in
    let place : drop (passed + taken) (drop at own) ≡ drop (at + passed + taken) own = drop-drop (passed + taken) at own ∙ ap (λ n. drop n own) (omega arith) in
    subst (λ behind. IsStepTaken (drop at own) c.args.reader.now.left.now c.args.bytes.now.items behind c.count-2.new.self.left.now c.add_chunks.new.bytes.items) place
    (run_taken (drop at own) c.args.reader.now.left.now c.count.new.self.left.now c.count-2.new.self.left.now c.args.bytes.now.items c.add_chunks.new.bytes.items taken passed
    c.in_ok-taken.ensures.read c.in_ok-passed.ensures.read some few
    (c.in_ok-add_chunks.ensures ∙ ap₂ (λ n chunks. c.args.bytes.now.items ++ concat (take n chunks)) (omega arith) (sym (drop-drop passed at own))))
