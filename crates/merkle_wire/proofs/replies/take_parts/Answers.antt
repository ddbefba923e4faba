use Rattle.std.specs.Prelude.{flat_map}
use Rattle.std.proofs.Common.{◌≡◌, ◌≢◌, ◌≤◌, ◌++◌, ◌∷◌, [], ℕ, List, ap, append_assoc, append-nil, length, map, refl, sym, subst, ◌∙◌, rules}
use Rattle.std.proofs.lemmas.Result.{err_from_is_err_and}
use Rattle.std.specs.Vec.Iter.{into_iter_items}
use Rattle.merkle_bytes.specs.Runs.{bound_key}
use Rattle.merkle_replica.proofs.SideLaws.{laws_of}
use Rattle.merkle_replica.specs.Laws.{Laws}
use Rattle.merkle_replica.proofs.ListIterators.{one_yielded, all_yielded}
use Rattle.merkle_wire.specs.Coming.{AscendIn}
use Rattle.merkle_wire.specs.Fit.{IsPartIn}
use Rattle.merkle_wire.specs.Gaps.{owned_gap}
use Rattle.merkle_wire.specs.ItsRows.{ForRowsOf, side_of}
use Rattle.merkle_wire.specs.Replies.{Part, part_in_bytes}
use Rattle.merkle_wire.specs.Taking.{AddsRows, AreBehind, PartsCome}
use Rattle.merkle_wire.specs.declared.gaps.OwnedGap.{OwnedGap}
use Rattle.merkle_wire.specs.declared.message.Kind.TheVariants.{RowsIn as rows_in_kind}
use Rattle.merkle_wire.specs.declared.question.Question.TheVariants.{RowsIn}
use Rattle.merkle_wire.proofs.Exchanges.{key_tells}
use Rattle.merkle_wire.proofs.Fronts.{refused_for}
use Rattle.merkle_wire.proofs.LeftToAsk.{asks_none, asks_some, no_bytes, some_bytes}
use Rattle.merkle_wire.proofs.Others.{says_no_entry}
use Rattle.merkle_wire.proofs.Reading.{all_came, no_others, none_more, read_more, says_more, says_no_next}
use Rattle.merkle_wire.proofs.TakenMore.{behind-more, rows_of_more}
use Rattle.merkle_wire.proofs.TellingReplies.{part_some}
use Rattle.merkle_wire.proofs.Unfit.{parts_end}
use Rattle.merkle_wire.proofs.replies.take_parts.Given.{Over}
use Rattle.merkle_wire.proofs.replies.take_parts.Goals as goal
use Rattle.merkle_wire.proofs.replies.take_parts.Goals.{In_ok-expect_end}

-- the bytes of a part of the rows in a gap
abbrev told_bytes : (g : Over) → OwnedGap g.row.K.Denot × Part g.row.K.Denot g.row.V.Denot → List ℕ
told_bytes g = part_in_bytes g.K.Encode.encoding g.V.Encode.encoding

-- its rows ascend in the gap
abbrev Ascends : (g : Over) → OwnedGap g.row.K.Denot → Part g.row.K.Denot g.row.V.Denot → Type 0
Ascends g gap part = AscendIn g.K.Ord.cmp (owned_gap gap) (map (λ r. r.0) part.rows)

-- it is all rows in a gap, or the first of them
abbrev IsIn : (g : Over) → OwnedGap g.row.K.Denot → Part g.row.K.Denot g.row.V.Denot → Type 0
IsIn g gap part = IsPartIn g.K.Ord.cmp g.K.Decode.is_value g.V.Decode.is_value (owned_gap gap) part

-- it has some bytes
some_told : (g : Over) (t : OwnedGap g.row.K.Denot × Part g.row.K.Denot g.row.V.Denot) → 1 ≤ length (told_bytes g t)
some_told g t =
    part_some g.K.Ord.cmp g.V.PartialEq.eq g.K.Encode.encoding g.V.Encode.encoding
    (key_tells g.K.Ord.cmp g.K.Encode.encoding g.K.PartialEq.eq g.met.K.Ord.matches_eq g.met.K.Decode.told) g.met.V.Decode.told (bound_key g.K.Encode.encoding [] t.0.after) t.1

-- and tells what stands after it
same_behind : (g : Over) (gap : OwnedGap g.row.K.Denot) (y z : Part g.row.K.Denot g.row.V.Denot) (r s : List ℕ) → Ascends g gap y → IsIn g gap z
    → told_bytes g (gap, y) ++ r ≡ told_bytes g (gap, z) ++ s → r ≡ s
same_behind g gap y z r s _ _ e =
    parts_end g.K.Ord.cmp g.V.PartialEq.eq g.K.Encode.encoding g.V.Encode.encoding
    (key_tells g.K.Ord.cmp g.K.Encode.encoding g.K.PartialEq.eq g.met.K.Ord.matches_eq g.met.K.Decode.told) g.met.V.Decode.told gap y z r s e

pub gaps-init : goal.gaps-init
gaps-init g c = record {
  left = search rules;
  count = search rules;
  told = [];
  behind = [];
  others = [];
  of = c.new-left.ensures.items;
  are = refl;
  read = record { of = refl; once = λ some. absurd (some refl); each = tt; is = c.in_ok-reader.ensures.read };
  steady = λ sound. sound;
  kept = λ _. refl;
  taken = λ _ rows of i. record c.args.work.now { rows = sym (append-nil c.args.work.now.rows) i };
}

pub gaps-preserved-in-Continue-branch-2 : goal.gaps-preserved-in-Continue-branch-2
gaps-preserved-in-Continue-branch-2 g c =
    let gap = c.in-Some.gap in
    let kept = c.gaps.invariant in
    let given = one_yielded c.gaps.gap-iterator c.next.new.self c.gaps.yielded c.args.gaps.items gap c.in-Some.ensures.steps kept.left kept.count in
    let none = sym c.left.ensures ∙ no_bytes c.left.result.now (sym c.is_empty.ensures ∙ c.if-is_empty.true) in
    record {
      left = given.0;
      count = given.1;
      told = kept.told;
      behind = kept.behind;
      others = kept.others ++ gap ∷ [];
      of = c.in_ok-keep.ensures.kept ∙ ap (λ l. l ++ gap ∷ []) kept.of ∙ append_assoc kept.behind kept.others (gap ∷ []);
      are = kept.are;
      read = none_more rows_in_kind (told_bytes g) (Ascends g) c.args.reply.now c.gaps.yielded kept.others c.gaps.reader.left.now kept.told kept.read gap none;
      steady = kept.steady;
      kept = kept.kept;
      taken = kept.taken;
    }

pub gaps-preserved : goal.gaps-preserved
gaps-preserved g c =
    let laws = g.H.RowHasher.laws in
    let gap = c.in-Some.gap in
    let kept = c.gaps.invariant in
    let came = c.in_ok-part.ensures in
    let more = came.behind in
    let one : OwnedGap g.row.K.Denot × Part g.row.K.Denot g.row.V.Denot = (gap, record { rows = c.in_ok-part.part.0.items; whole = c.in_ok-part.part.1 }) in
    let own = (g.T.KeptTree.kept c.args.tree.now).digests in
    let given = one_yielded c.gaps.gap-iterator c.next.new.self c.gaps.yielded c.args.gaps.items gap c.in-Some.ensures.steps kept.left kept.count in
    let some : c.gaps.reader.left.now ≢ [] = λ e. some_bytes c.left.result.now (sym c.is_empty.ensures ∙ c.if-is_empty.false) (c.left.ensures ∙ e) in
    let none = no_others rows_in_kind (told_bytes g) (Ascends g) c.args.reply.now c.gaps.yielded kept.others c.gaps.reader.left.now kept.told kept.read some in
    let before = c.take_rows.ensures.steady in
    record {
      left = given.0;
      count = given.1;
      told = kept.told ++ one ∷ [];
      behind = kept.behind ++ more.0;
      others = kept.others;
      of = more.2 ∙ ap (λ l. l ++ more.0) (kept.of ∙ ap (λ l. kept.behind ++ l) none ∙ append-nil kept.behind) ∙ sym (append-nil (kept.behind ++ more.0))
          ∙ ap (λ l. (kept.behind ++ more.0) ++ l) (sym none);
      are = behind-more g.K.Ord.cmp kept.told one kept.behind more.0 kept.are more.1;
      read = read_more rows_in_kind (told_bytes g) (Ascends g) c.args.reply.now c.gaps.yielded kept.others c.gaps.reader.left.now kept.told kept.read gap one.1
          c.read_part.new.reader.left.now some came.lie came.read;
      steady = λ sound. kept.steady (before sound);
      kept = λ sound. c.take_rows.ensures.kept sound ∙ kept.kept (before sound);
      taken = λ sound rows of.
          let now = subst (λ t. ForRowsOf laws t.digests (λ local. AddsRows laws local one.1.rows c.gaps.work c.take_rows.new.work)) (kept.kept (before sound))
          (c.in-Ok.ensures.taken sound) in
          rows_of_more laws (side_of own rows) (λ t. t.1.rows) kept.told one c.args.work.now c.gaps.work c.take_rows.new.work (kept.taken (before sound) rows of) (now rows of);
    }

pub gaps-preserved-in-Ok : goal.gaps-preserved-in-Ok
gaps-preserved-in-Ok g c =
    let laws = g.H.RowHasher.laws in
    let gap = c.in-Some.gap in
    let kept = c.gaps.invariant in
    let came = c.in_ok-part.ensures in
    let more = came.behind in
    let one : OwnedGap g.row.K.Denot × Part g.row.K.Denot g.row.V.Denot = (gap, record { rows = c.in_ok-part.part.0.items; whole = c.in_ok-part.part.1 }) in
    let own = (g.T.KeptTree.kept c.args.tree.now).digests in
    let given = one_yielded c.gaps.gap-iterator c.next.new.self c.gaps.yielded c.args.gaps.items gap c.in-Some.ensures.steps kept.left kept.count in
    let some : c.gaps.reader.left.now ≢ [] = λ e. some_bytes c.left.result.now (sym c.is_empty.ensures ∙ c.if-is_empty.false) (c.left.ensures ∙ e) in
    let none = no_others rows_in_kind (told_bytes g) (Ascends g) c.args.reply.now c.gaps.yielded kept.others c.gaps.reader.left.now kept.told kept.read some in
    let before = c.take_rows.ensures.steady in
    record {
      left = given.0;
      count = given.1;
      told = kept.told ++ one ∷ [];
      behind = kept.behind ++ more.0;
      others = kept.others;
      of = more.2 ∙ ap (λ l. l ++ more.0) (kept.of ∙ ap (λ l. kept.behind ++ l) none ∙ append-nil kept.behind) ∙ sym (append-nil (kept.behind ++ more.0))
          ∙ ap (λ l. (kept.behind ++ more.0) ++ l) (sym none);
      are = behind-more g.K.Ord.cmp kept.told one kept.behind more.0 kept.are more.1;
      read = read_more rows_in_kind (told_bytes g) (Ascends g) c.args.reply.now c.gaps.yielded kept.others c.gaps.reader.left.now kept.told kept.read gap one.1
          c.read_part.new.reader.left.now some came.lie came.read;
      steady = λ sound. kept.steady (before sound);
      kept = λ sound. c.take_rows.ensures.kept sound ∙ kept.kept (before sound);
      taken = λ sound rows of.
          let now = subst (λ t. ForRowsOf laws t.digests (λ local. AddsRows laws local one.1.rows c.gaps.work c.take_rows.new.work)) (kept.kept (before sound))
          (c.in-Ok.ensures.taken sound) in
          rows_of_more laws (side_of own rows) (λ t. t.1.rows) kept.told one c.args.work.now c.gaps.work c.take_rows.new.work (kept.taken (before sound) rows of) (now rows of);
    }

-- the laws of keys, values and hasher
abbrev laws_at : (g : Over) → Laws g.row.K.Denot g.row.V.Denot g.row.H.Denot
laws_at g = laws_of g.K.Ord.cmp g.K.KeyBytes.bytes_of g.H.Hasher-1.digest_of g.V.PartialEq.eq g.V.Join.join_of g.H.Hasher-2.digest_of

-- the rows came, and are taken, whatever rows the tree has the digests of
came : (g : Over) (c : In_ok-expect_end g) → g.T.KeptTree.is_sound c.gaps.tree → ForRowsOf (laws_at g) (g.T.KeptTree.kept c.args.tree.now).digests
    (λ local. PartsCome g.K.Ord.cmp g.K.Encode.encoding g.V.Encode.encoding (λ rows. AddsRows (laws_at g) local rows c.args.work.now c.gaps.work)
    c.args.gaps.items c.args.reply.now c.gaps.left.items)
came g c sound rows of =
    let kept = c.gaps.invariant in
    let done = all_yielded c.gaps.yielded (into_iter_items c.gaps.gap-iterator) c.args.gaps.items kept.left (sym kept.count ∙ c.in-None.ensures.steps.0) in (
      kept.behind,
      kept.others,
      kept.of,
      all_came rows_in_kind (told_bytes g) (Ascends g) c.args.reply.now c.gaps.yielded kept.others c.gaps.reader.left.now kept.told kept.read c.args.gaps.items c.in_ok-reader.reader.left.now
          (λ told. AreBehind g.K.Ord.cmp told kept.behind
          × AddsRows (laws_at g) (side_of (g.T.KeptTree.kept c.args.tree.now).digests rows) (flat_map (λ t. t.1.rows) told) c.args.work.now c.gaps.work)
          done c.in_ok-reader.ensures.read c.in_ok-reader.ensures.some c.in_ok-expect_end.ensures.ended (kept.are, (rw g.met.H.RowHasher.laws_are at kept.taken) sound rows of),
    )

pub returns-then-is_empty-2-clause-taken : goal.returns-then-is_empty-2-clause-taken
returns-then-is_empty-2-clause-taken g c = rw g.met.H.RowHasher.laws_are (λ sound rows of.
    (c.gaps.left.items, came g (goal.at.returns-then-is_empty-2-clause-taken g c).In_ok-expect_end sound rows of, asks_none RowsIn c.gaps.left (sym c.is_empty-2.ensures ∙ c.if-is_empty-2.true)))

pub returns-clause-taken : goal.returns-clause-taken
returns-clause-taken g c = rw g.met.H.RowHasher.laws_are (λ sound rows of.
    (c.gaps.left.items, came g (goal.at.returns-clause-taken g c).In_ok-expect_end sound rows of, asks_some RowsIn c.gaps.left (sym c.is_empty-2.ensures ∙ c.if-is_empty-2.false)))

pub returns-in_err-reader-clause-refused : goal.returns-in_err-reader-clause-refused
returns-in_err-reader-clause-refused g c =
    let p = err_from_is_err_and c.from_residual.result c.from_residual.ensures.1 in
    rw (p.1, p.2) (refused_for _ _ c.in_err-reader.field-0.0 (λ none.
    says_no_entry (IsIn g) rows_in_kind c.args.gaps.items c.args.reply.now (told_bytes g) (some_told g) none) c.in_err-reader.ensures.refused)

pub returns-in_err-part-clause-refused : goal.returns-in_err-part-clause-refused
returns-in_err-part-clause-refused g c =
    let p = err_from_is_err_and c.from_residual-in_err-part.result c.from_residual-in_err-part.ensures.1 in
    let kept = c.gaps.invariant in
    let gap = c.in-Some.gap in
    let behind = into_iter_items c.next.new.self in
    let steps : into_iter_items c.gaps.gap-iterator ≡ gap ∷ behind = c.in-Some.ensures.steps.0 in
    let more : c.gaps.reader.left.now ≢ [] = λ e. some_bytes c.left.result.now (sym c.is_empty.ensures ∙ c.if-is_empty.false) (c.left.ensures ∙ e) in
    rw (p.1, p.2) (refused_for _ _ c.in_err-part.field-0.0 (λ no_part.
    says_no_next rows_in_kind (told_bytes g) (Ascends g) c.args.reply.now c.gaps.yielded kept.others c.gaps.reader.left.now kept.told kept.read
    (IsIn g) (some_told g) (same_behind g) c.args.gaps.items more gap behind (rw steps at kept.left) (λ y rest is. no_part y rest is)) c.in_err-part.ensures.refused)

pub returns-in_err-expect_end-clause-refused : goal.returns-in_err-expect_end-clause-refused
returns-in_err-expect_end-clause-refused g c =
    let p = err_from_is_err_and c.from_residual-in_err-expect_end.result c.from_residual-in_err-expect_end.ensures.1 in
    let kept = c.gaps.invariant in
    let done = all_yielded c.gaps.yielded (into_iter_items c.gaps.gap-iterator) c.args.gaps.items kept.left (sym kept.count ∙ c.in-None.ensures.steps.0) in
    rw (p.1, p.2) (refused_for _ _ c.in_err-expect_end.field-0.0 (λ more.
    says_more rows_in_kind (told_bytes g) (Ascends g) c.args.reply.now c.gaps.yielded kept.others c.gaps.reader.left.now kept.told kept.read
    (IsIn g) (some_told g) (same_behind g) c.args.gaps.items more done) c.in_err-expect_end.ensures.refused)
