use Rattle.std.proofs.Common.{◌≡◌, ◌≢◌, ◌≤◌, ◌++◌, ◌∷◌, [], ℕ, Bool, List, length, refl, sym, subst, ◌∙◌, rules}
use Rattle.std.proofs.lemmas.Result.{err_from_is_err_and}
use Rattle.std.specs.Vec.Iter.{into_iter_items}
use Rattle.merkle_replica.proofs.SideLaws.{laws_of}
use Rattle.merkle_replica.specs.Laws.{Laws}
use Rattle.merkle_replica.proofs.ListIterators.{one_yielded, all_yielded}
use Rattle.merkle_wire.specs.Coming.{LiesIn}
use Rattle.merkle_wire.specs.Fit.{IsOutlineIn}
use Rattle.merkle_wire.specs.Gaps.{owned_gap}
use Rattle.merkle_wire.specs.ItsRows.{ForRowsOf, side_of}
use Rattle.merkle_wire.specs.Outlines.{Outline}
use Rattle.merkle_wire.specs.Replies.{outline_over_bytes}
use Rattle.merkle_wire.specs.Steps.{as_told}
use Rattle.merkle_wire.specs.Taking.{AreTaken, IsPageTaken}
use Rattle.merkle_wire.specs.declared.gaps.OwnedGap.{OwnedGap}
use Rattle.merkle_bytes.specs.Runs.{bound_key}
use Rattle.merkle_wire.proofs.Exchanges.{key_tells}
use Rattle.merkle_wire.proofs.Fitting.{one_lies}
use Rattle.merkle_wire.proofs.Fronts.{refused_for}
use Rattle.merkle_wire.proofs.LeftToAsk.{no_bytes, some_bytes}
use Rattle.merkle_wire.proofs.Others.{says_no_entry}
use Rattle.merkle_wire.proofs.Reading.{AreRead, all_came, none_more, read_more, says_more, says_no_next}
use Rattle.merkle_wire.proofs.TakenMore.{taken-more}
use Rattle.merkle_wire.proofs.TellingReplies.{outline_some}
use Rattle.merkle_wire.proofs.Unfit.{outlines_end}
use Rattle.merkle_wire.proofs.replies.take_outlines.Given.{Over}
use Rattle.merkle_wire.proofs.replies.take_outlines.Goals as goal

-- the bytes of what is told of the page over a gap
abbrev told_bytes : (g : Over) → OwnedGap g.row.K.Denot × Outline g.row.K.Denot g.row.V.Denot → List ℕ
told_bytes g = outline_over_bytes g.K.Encode.encoding g.V.Encode.encoding

-- what is told lies in the gap
abbrev Lies : (g : Over) → OwnedGap g.row.K.Denot → Outline g.row.K.Denot g.row.V.Denot → Type 0
Lies g gap told = LiesIn g.K.Ord.cmp g.row.N (owned_gap gap) told

-- there are some bytes
some_told : (g : Over) (t : OwnedGap g.row.K.Denot × Outline g.row.K.Denot g.row.V.Denot) → 1 ≤ length (told_bytes g t)
some_told g t =
    outline_some g.K.Ord.cmp g.V.PartialEq.eq g.K.Encode.encoding g.V.Encode.encoding
    (key_tells g.K.Ord.cmp g.K.Encode.encoding g.K.PartialEq.eq g.met.K.Ord.matches_eq g.met.K.Decode.told) g.met.V.Decode.told
    (bound_key g.K.Encode.encoding [] t.0.after) t.1

pub gaps-init : goal.gaps-init
gaps-init g c = record {
  left = search rules;
  count = search rules;
  told = [];
  read = record { of = sym c.new-left.ensures.items; once = λ some. absurd (some c.new-left.ensures.items); each = tt; is = c.in_ok-reader.ensures.read };
  steady = λ sound. sound;
  kept = λ _. refl;
  taken = λ _ rows of. refl;
}

pub gaps-preserved-in-Continue-branch-2 : goal.gaps-preserved-in-Continue-branch-2
gaps-preserved-in-Continue-branch-2 g c =
    let gap = c.in-Some.gap in
    let kept = c.gaps.invariant in
    let given = one_yielded c.gaps.gap-iterator c.next.new.self c.gaps.yielded c.args.gaps.items gap c.in-Some.ensures.steps kept.left kept.count in
    let none = sym c.left.ensures ∙ no_bytes c.left.result.now (sym c.is_empty.ensures ∙ c.if-is_empty.true) in
    record {
      left = given.0;
      count = given.1;
      told = kept.told;
      read = subst (λ l. AreRead c.args.kind (told_bytes g) (Lies g) c.args.reply.now (c.gaps.yielded ++ gap ∷ []) l c.gaps.reader.left.now kept.told) (sym c.in_ok-keep.ensures.kept)
          (none_more c.args.kind (told_bytes g) (Lies g) c.args.reply.now c.gaps.yielded c.gaps.left.items c.gaps.reader.left.now kept.told kept.read gap none);
      steady = kept.steady;
      kept = kept.kept;
      taken = kept.taken;
    }

pub gaps-preserved : goal.gaps-preserved
gaps-preserved g c =
    let laws = g.H.RowHasher.laws in
    let gap = c.in-Some.gap in
    let kept = c.gaps.invariant in
    let came = c.in_ok-outline in
    let one : OwnedGap g.row.K.Denot × Outline g.row.K.Denot g.row.V.Denot = (gap, as_told came.outline) in
    let own = (g.T.KeptTree.kept c.args.tree.now).digests in
    let given = one_yielded c.gaps.gap-iterator c.next.new.self c.gaps.yielded c.args.gaps.items gap c.in-Some.ensures.steps kept.left kept.count in
    let some : c.gaps.reader.left.now ≢ [] = λ e. some_bytes c.left.result.now (sym c.is_empty.ensures ∙ c.if-is_empty.false) (c.left.ensures ∙ e) in
    let before = c.take_outline.ensures.steady in
    record {
      left = given.0;
      count = given.1;
      told = kept.told ++ one ∷ [];
      read = read_more c.args.kind (told_bytes g) (Lies g) c.args.reply.now c.gaps.yielded c.gaps.left.items c.gaps.reader.left.now kept.told kept.read gap one.1
          c.read_outline.new.reader.left.now some came.ensures.lies came.ensures.read;
      steady = λ sound. kept.steady (before sound);
      kept = λ sound. c.take_outline.ensures.kept sound ∙ kept.kept (before sound);
      taken = λ sound rows of.
          let now = subst (λ t. ForRowsOf laws t.digests (λ local. IsPageTaken laws local (owned_gap gap) one.1 c.gaps.work c.take_outline.new.work)) (kept.kept (before sound))
          (c.in-Ok.ensures.taken sound) in
          taken-more laws (side_of own rows) kept.told one c.args.work.now c.gaps.work c.take_outline.new.work (kept.taken (before sound) rows of) (now rows of);
    }

-- the laws of keys, values and hasher
abbrev laws_at : (g : Over) → Laws g.row.K.Denot g.row.V.Denot g.row.H.Denot
laws_at g = laws_of g.K.Ord.cmp g.K.KeyBytes.bytes_of g.H.Hasher-1.digest_of g.V.PartialEq.eq g.V.Join.join_of g.H.Hasher-2.digest_of

pub returns-clause-taken : goal.returns-clause-taken
returns-clause-taken g c = rw g.met.H.RowHasher.laws_are (λ sound rows of.
    let kept = c.gaps.invariant in
    let done = all_yielded c.gaps.yielded (into_iter_items c.gaps.gap-iterator) c.args.gaps.items kept.left (sym kept.count ∙ c.in-None.ensures.steps.0) in
    all_came c.args.kind (told_bytes g) (Lies g) c.args.reply.now c.gaps.yielded c.gaps.left.items c.gaps.reader.left.now kept.told kept.read
    c.args.gaps.items c.in_ok-reader.reader.left.now (λ told. AreTaken (laws_at g) (side_of (g.T.KeptTree.kept c.args.tree.now).digests rows) told c.args.work.now c.gaps.work)
    done c.in_ok-reader.ensures.read c.in_ok-reader.ensures.some c.in_ok-expect_end.ensures.ended ((rw g.met.H.RowHasher.laws_are at kept.taken) sound rows of))

-- what can be told of the page over a gap
abbrev IsIn : (g : Over) → Bool → OwnedGap g.row.K.Denot → Outline g.row.K.Denot g.row.V.Denot → Type 0
IsIn g with_pages gap told = IsOutlineIn g.K.Ord.cmp g.K.Decode.is_value g.V.Decode.is_value g.row.N with_pages (owned_gap gap) told

-- it tells what stands after it
same_behind : (g : Over) (with_pages : Bool) (gap : OwnedGap g.row.K.Denot) (y z : Outline g.row.K.Denot g.row.V.Denot) (r s : List ℕ) → Lies g gap y → IsIn g with_pages gap z
    → told_bytes g (gap, y) ++ r ≡ told_bytes g (gap, z) ++ s → r ≡ s
same_behind g with_pages gap y z r s lies =
    outlines_end g.K.Ord.cmp g.V.PartialEq.eq g.K.Encode.encoding g.V.Encode.encoding
    (key_tells g.K.Ord.cmp g.K.Encode.encoding g.K.PartialEq.eq g.met.K.Ord.matches_eq g.met.K.Decode.told) g.met.V.Decode.told
    g.K.Decode.is_value g.V.Decode.is_value g.row.N with_pages gap y z r s (one_lies g.K.Ord.cmp g.row.N (owned_gap gap) y lies)

pub returns-in_err-reader-clause-refused : goal.returns-in_err-reader-clause-refused
returns-in_err-reader-clause-refused g c =
    let p = err_from_is_err_and c.from_residual.result c.from_residual.ensures.1 in
    rw (p.1, p.2) (refused_for _ _ c.in_err-reader.field-0.0 (λ none.
    says_no_entry (IsIn g c.args.with_pages) c.args.kind c.args.gaps.items c.args.reply.now (told_bytes g) (some_told g) none) c.in_err-reader.ensures.refused)

pub returns-in_err-outline-clause-refused : goal.returns-in_err-outline-clause-refused
returns-in_err-outline-clause-refused g c =
    let p = err_from_is_err_and c.from_residual-in_err-outline.result c.from_residual-in_err-outline.ensures.1 in
    let kept = c.gaps.invariant in
    let gap = c.in-Some.gap in
    let behind = into_iter_items c.next.new.self in
    let steps : into_iter_items c.gaps.gap-iterator ≡ gap ∷ behind = c.in-Some.ensures.steps.0 in
    let more : c.gaps.reader.left.now ≢ [] = λ e. some_bytes c.left.result.now (sym c.is_empty.ensures ∙ c.if-is_empty.false) (c.left.ensures ∙ e) in
    rw (p.1, p.2) (refused_for _ _ c.in_err-outline.field-0.0 (λ no_outline.
    says_no_next c.args.kind (told_bytes g) (Lies g) c.args.reply.now c.gaps.yielded c.gaps.left.items c.gaps.reader.left.now kept.told kept.read
    (IsIn g c.args.with_pages) (some_told g) (same_behind g c.args.with_pages) c.args.gaps.items more gap behind (rw steps at kept.left) (λ y rest is. no_outline y rest is))
    c.in_err-outline.ensures.refused)

pub returns-in_err-expect_end-clause-refused : goal.returns-in_err-expect_end-clause-refused
returns-in_err-expect_end-clause-refused g c =
    let p = err_from_is_err_and c.from_residual-in_err-expect_end.result c.from_residual-in_err-expect_end.ensures.1 in
    let kept = c.gaps.invariant in
    let done = all_yielded c.gaps.yielded (into_iter_items c.gaps.gap-iterator) c.args.gaps.items kept.left (sym kept.count ∙ c.in-None.ensures.steps.0) in
    rw (p.1, p.2) (refused_for _ _ c.in_err-expect_end.field-0.0 (λ more.
    says_more c.args.kind (told_bytes g) (Lies g) c.args.reply.now c.gaps.yielded c.gaps.left.items c.gaps.reader.left.now kept.told kept.read
    (IsIn g c.args.with_pages) (some_told g) (same_behind g c.args.with_pages) c.args.gaps.items more done) c.in_err-expect_end.ensures.refused)
