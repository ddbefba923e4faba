use Rattle.std.proofs.Common.{rules, ◌≡◌, [], ◌∷◌, ◌++◌, ◌<◌, ◌^◌, length, true, refl, ◌∙◌}
use Rattle.std.proofs.lemmas.Result.{err_from_is_err_and}
use Rattle.merkle_bytes.specs.Counts.{count_bytes}
use Rattle.merkle_bytes.specs.Runs.{entries_bytes}
use Rattle.merkle_bytes.proofs.Later.{refused_later, total_was}
use Rattle.merkle_bytes.proofs.Listed.{none_read, no_list, one_read, next_left, all_read}
use Rattle.merkle_bytes.proofs.runs.decode_run.Goals as goal

pub returns-in_err-count-clause-malformed : goal.returns-in_err-count-clause-malformed
returns-in_err-count-clause-malformed g c =
    let p = err_from_is_err_and c.from_residual.result c.from_residual.ensures.1 in
    let left = c.args.reader.now.left.now in
    let fits : length left < 2 ^ 64 = search rules in
    rw (p.1, p.2) (λ malformed list rest each e. no_list g.T.DecodeInRun.is_entry g.T.EncodeInRun.bytes_behind g.T.EncodeInRun.last_key g.met.T.DecodeInRun.some
    c.args.run.now left fits (c.in_err-count.ensures.malformed malformed) list rest e)

pub entries-init : goal.entries-init
entries-init g c = (
  none_read g.T.DecodeInRun.is_entry g.T.EncodeInRun.bytes_behind g.T.EncodeInRun.last_key c.args.run.now c.args.run.now c.args.reader.now.left.now
      c.count.new.self.left.now c.in_ok-count.count c.new-list.result.items c.new-list.ensures.items refl c.in_ok-count.ensures.read,
  c.count.ensures.total,
)

pub entries-preserved : goal.entries-preserved
entries-preserved g c =
    let pushed : c.push.new.self.items ≡ c.entries.list.items ++ c.in_ok-next.next ∷ [] = search rules in (
      one_read g.T.DecodeInRun.is_entry g.T.EncodeInRun.bytes_behind g.T.EncodeInRun.last_key (λ x y. g.T.PartialEq.eq x y ≡ true) g.met.T.DecodeInRun.told
          c.args.run.now c.entries.run c.decode_behind.new.run c.args.reader.now.left.now c.entries.reader.left.now c.decode_behind.new.reader.left.now
          c.in_ok-count.count c.entries._done c.entries.list.items c.push.new.self.items c.in_ok-next.next c.entries.invariant.0 c.entries-test.true c.in_ok-next.ensures.entry pushed
          c.in_ok-next.ensures.last c.in_ok-next.ensures.read,
      c.decode_behind.ensures.total ∙ c.entries.invariant.1,
    )

pub returns-in_err-next-clause-refused : goal.returns-in_err-next-clause-refused
returns-in_err-next-clause-refused g c =
    let p = err_from_is_err_and c.from_residual-in_err-next.result c.from_residual-in_err-next.ensures.1 in
    let kept = c.entries.invariant.0 in
    rw (p.1, p.2) (refused_later c.args.reader.now.total c.args.reader.now.left.now
    (count_bytes c.in_ok-count.count ++ entries_bytes g.T.EncodeInRun.bytes_behind g.T.EncodeInRun.last_key c.args.run.now c.entries.list.items) c.entries.reader.left.now c.in_err-next.field-0.0
    kept.read (total_was c.entries.reader.total c.args.reader.now.total c.entries.reader.left.now c.in_err-next.field-0.0 c.entries.invariant.1 c.in_err-next.ensures.refused))

pub returns-in_err-next-clause-malformed : goal.returns-in_err-next-clause-malformed
returns-in_err-next-clause-malformed g c =
    let p = err_from_is_err_and c.from_residual-in_err-next.result c.from_residual-in_err-next.ensures.1 in
    rw (p.1, p.2) (λ malformed all more each spelled.
    let next = next_left g.T.DecodeInRun.is_entry g.T.EncodeInRun.bytes_behind g.T.EncodeInRun.last_key c.args.run.now c.entries.run c.args.reader.now.left.now
    c.entries.reader.left.now c.in_ok-count.count c.entries._done c.entries.list.items
    c.entries.invariant.0 c.entries-test.true all more each spelled in
    c.in_err-next.ensures.malformed malformed next.0 next.1 next.2 next.3)
