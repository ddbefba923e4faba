use Rattle.std.proofs.Common.{◌∙◌, subst}
use Rattle.std.proofs.lemmas.Result.{IfOk-weaker}
use Rattle.merkle_diff.specs.DiffRange.{spans}
use Rattle.merkle_diff.specs.Merge.{SameSpans}
use Rattle.merkle_diff.specs.PageRange.{entry, entries}
use Rattle.merkle_diff.proofs.Snapshots.{drained}
use Rattle.merkle_replica.specs.Answers.{spans_of}
use Rattle.merkle_replica.proofs.Asks.{answer_to}
use Rattle.merkle_replica.proofs.SideLaws.{laws_of}
use Rattle.merkle_replica.proofs.pull.ask_of.Goals as goal

pub returns : goal.returns
returns g c = rw g.met.H.RowHasher.laws_are (
    let h = c.in_ok-found.ensures.answer in
    let e = drained entry (λ es. es) h.2.0 h.0 h.2.2 ∙ h.2.1 ∙ (rw c.in-Some.is at c.in_ok-ours.ensures.ranges) in
    let f = drained entry (λ es. es) h.3.0 h.1 h.3.2 ∙ h.3.1 ∙ c.iter.ensures in
    IfOk-weaker c.own_bounds.result _ _
    (λ r s. answer_to (laws_of g.K.Ord.cmp g.K.KeyBytes.bytes_of g.H.Hasher-1.digest_of g.V.PartialEq.eq g.V.Join.join_of g.H.Hasher-2.digest_of) g.met.K.Ord.total c.args.local.now
    (entries h.0) (entries h.1) c.args.theirs.now (spans c.in_ok-found.found.items) (spans_of r.items) c.tree.ensures.digests
    (rw c.tree.ensures.tree at c.every_tree_is_sound.ensures.sound)
    (rw c.tree-2.ensures.tree at e) f h.4
    (subst (λ w. SameSpans g.K.Ord.cmp (spans w) (spans_of r.items)) c.deref.ensures.value s))
    c.own_bounds.ensures)
