use Rattle.std.proofs.Common.{refl, sym, ap, ◌∙◌}
use Rattle.std.proofs.lemmas.Bool.{false≢true}
use Rattle.key_order.specs.Interval.{is_in}
use Rattle.merkle_diff.specs.Entry.{span_of}
use Rattle.merkle_diff.specs.PageRange.{entry}
use Rattle.merkle_search_tree.specs.Loading.{digests}
use Rattle.merkle_tree_theory.specs.Listing.{entry_rows}
use Rattle.merkle_audit.proofs.RowsBySpan.{across, digests_within}
use Rattle.merkle_audit.proofs.pages.tells_map.Goals as goal

pub returns-then-not-is_digest : goal.returns-then-not-is_digest
returns-then-not-is_digest g c = (λ t same. absurd (false≢true (sym c.if-not-is_digest.true ∙ c.is_digest.ensures.1 (c.digest.ensures ∙ c.hash.ensures ∙ sym same))), λ tells. refl)

pub returns : goal.returns
returns g c =
    let cmp = g.K.Ord.cmp in
    let o = g.met.K.Ord.total in
    let f = g.H.Hasher-2.digest_of c.args.a.now.tree.hasher in
    let h = g.H.Hasher-2.digest_of c.args.b.now.tree.hasher in
    let e = entry c.args.range.now in
    let d = entry c.args.other.now in
    let ours = ap (digests f) (c.rows_within.ensures ∙ ap (entry_rows cmp e) c.rows.ensures.rows) ∙ digests_within cmp o f (λ k. is_in cmp k (span_of e)) c.args.a.now.rows in
    let theirs = ap (digests h) (c.rows_within-2.ensures ∙ ap (entry_rows cmp d) c.rows-2.ensures.rows) ∙ digests_within cmp o h (λ k. is_in cmp k (span_of d)) c.args.b.now.rows in
    let same = sym (c.is_digest.ensures.0 c.if-not-is_digest.false) ∙ c.digest.ensures ∙ c.hash.ensures in
    (λ t one. across cmp o ours theirs (c.have_one_digest.ensures.0 t), λ tells. c.have_one_digest.ensures.1 (across cmp o (sym ours) (sym theirs) (tells same)))
