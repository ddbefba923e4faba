use Rattle.std.specs.Prelude.{⊤, flat_map}
use Rattle.std.proofs.Common.{◌≡◌, ◌≢◌, ◌≤◌, ◌++◌, ◌∷◌, [], ℕ, List, Option, append-nil, length, refl, sym, subst, ◌∙◌, rules}
use Rattle.std.proofs.lemmas.Result.{err_from_is_err_and}
use Rattle.std.specs.Vec.Iter.{into_iter_items}
use Rattle.merkle_bytes.specs.Options.{IsOption}
use Rattle.merkle_replica.proofs.SideLaws.{laws_of}
use Rattle.merkle_replica.specs.Laws.{Laws}
use Rattle.merkle_replica.proofs.ListIterators.{one_yielded, all_yielded}
use Rattle.merkle_wire.specs.ItsRows.{ForRowsOf, side_of}
use Rattle.merkle_wire.specs.Replies.{value_at_bytes}
use Rattle.merkle_wire.specs.Taking.{AddsRows, ValuesCome, value_row}
use Rattle.merkle_wire.specs.declared.message.Kind.TheVariants.{RowsAt as rows_at_kind}
use Rattle.merkle_wire.specs.declared.question.Question.TheVariants.{RowsAt}
use Rattle.merkle_wire.specs.declared.wanted.Wanted.{Wanted}
use Rattle.merkle_wire.proofs.Exchanges.{key_tells}
use Rattle.merkle_wire.proofs.Fronts.{refused_for}
use Rattle.merkle_wire.proofs.LeftToAsk.{asks_none, asks_some, no_bytes, some_bytes}
use Rattle.merkle_wire.proofs.Others.{says_no_entry}
use Rattle.merkle_wire.proofs.Reading.{AreRead, all_came, none_more, read_more, says_more, says_no_next}
use Rattle.merkle_wire.proofs.TakenMore.{rows_of_more}
use Rattle.merkle_wire.proofs.TellingReplies.{value_some, value_tells}
use Rattle.merkle_wire.proofs.replies.take_values.Given.{Over}
use Rattle.merkle_wire.proofs.replies.take_values.Goals as goal
use Rattle.merkle_wire.proofs.replies.take_values.Goals.{In_ok-expect_end}

-- the bytes of the value at a key
abbrev told_bytes : (g : Over) → Wanted g.row.K.Denot × Option g.row.V.Denot → List ℕ
told_bytes g = value_at_bytes g.V.Encode.encoding

-- of what is told of a key nothing else is to hold
abbrev Any : (g : Over) → Wanted g.row.K.Denot → Option g.row.V.Denot → Type 0
Any g wanted value = ⊤

-- it is a value, or none
abbrev IsTold : (g : Over) → Wanted g.row.K.Denot → Option g.row.V.Denot → Type 0
IsTold g wanted = IsOption g.V.Decode.is_value

-- what is told of a value has some bytes
some_told : (g : Over) (t : Wanted g.row.K.Denot × Option g.row.V.Denot) → 1 ≤ length (told_bytes g t)
some_told g t =
    value_some g.K.Ord.cmp g.V.PartialEq.eq g.K.Encode.encoding g.V.Encode.encoding
    (key_tells g.K.Ord.cmp g.K.Encode.encoding g.K.PartialEq.eq g.met.K.Ord.matches_eq g.met.K.Decode.told) g.met.V.Decode.told t.1

-- and tells what stands after it
same_behind : (g : Over) (wanted : Wanted g.row.K.Denot) (y z : Option g.row.V.Denot) (r s : List ℕ) → ⊤ → IsTold g wanted z
    → told_bytes g (wanted, y) ++ r ≡ told_bytes g (wanted, z) ++ s → r ≡ s
same_behind g wanted y z r s _ _ e =
    (value_tells g.K.Ord.cmp g.V.PartialEq.eq g.K.Encode.encoding g.V.Encode.encoding
    (key_tells g.K.Ord.cmp g.K.Encode.encoding g.K.PartialEq.eq g.met.K.Ord.matches_eq g.met.K.Decode.told) g.met.V.Decode.told y z r s e).1

pub keys-init : goal.keys-init
keys-init g c = record {
  left = search rules;
  count = search rules;
  told = [];
  read = record { of = sym c.new-left.ensures.items; once = λ some. absurd (some c.new-left.ensures.items); each = tt; is = c.in_ok-reader.ensures.read };
  steady = λ sound. sound;
  kept = λ _. refl;
  taken = λ _ rows of i. record c.args.work.now { rows = sym (append-nil c.args.work.now.rows) i };
}

pub keys-preserved-in-Continue-branch-2 : goal.keys-preserved-in-Continue-branch-2
keys-preserved-in-Continue-branch-2 g c =
    let w = c.in-Some.wanted in
    let kept = c.keys.invariant in
    let given = one_yielded c.keys.wanted-iterator c.next.new.self c.keys.yielded c.args.keys.items w c.in-Some.ensures.steps kept.left kept.count in
    let none = sym c.left.ensures ∙ no_bytes c.left.result.now (sym c.is_empty.ensures ∙ c.if-is_empty.true) in
    record {
      left = given.0;
      count = given.1;
      told = kept.told;
      read = subst (λ l. AreRead rows_at_kind (told_bytes g) (Any g) c.args.reply.now (c.keys.yielded ++ w ∷ []) l c.keys.reader.left.now kept.told) (sym c.in_ok-keep.ensures.kept)
          (none_more rows_at_kind (told_bytes g) (Any g) c.args.reply.now c.keys.yielded c.keys.left.items c.keys.reader.left.now kept.told kept.read w none);
      steady = kept.steady;
      kept = kept.kept;
      taken = kept.taken;
    }

pub keys-preserved : goal.keys-preserved
keys-preserved g c =
    let laws = g.H.RowHasher.laws in
    let w = c.in-Some.wanted in
    let kept = c.keys.invariant in
    let one : Wanted g.row.K.Denot × Option g.row.V.Denot = (w, c.in_ok-value.value) in
    let own = (g.T.KeptTree.kept c.args.tree.now).digests in
    let given = one_yielded c.keys.wanted-iterator c.next.new.self c.keys.yielded c.args.keys.items w c.in-Some.ensures.steps kept.left kept.count in
    let some : c.keys.reader.left.now ≢ [] = λ e. some_bytes c.left.result.now (sym c.is_empty.ensures ∙ c.if-is_empty.false) (c.left.ensures ∙ e) in
    let before = c.take_value.ensures.steady in
    record {
      left = given.0;
      count = given.1;
      told = kept.told ++ one ∷ [];
      read = read_more rows_at_kind (told_bytes g) (Any g) c.args.reply.now c.keys.yielded c.keys.left.items c.keys.reader.left.now kept.told kept.read w one.1
          c.read_value.new.reader.left.now some tt c.in_ok-value.ensures.read;
      steady = λ sound. kept.steady (before sound);
      kept = λ sound. c.take_value.ensures.kept sound ∙ kept.kept (before sound);
      taken = λ sound rows of.
          let now = subst (λ t. ForRowsOf laws t.digests (λ local. AddsRows laws local (value_row one) c.keys.work c.take_value.new.work)) (kept.kept (before sound))
          (c.in-Ok.ensures.taken sound) in
          rows_of_more laws (side_of own rows) value_row kept.told one c.args.work.now c.keys.work c.take_value.new.work (kept.taken (before sound) rows of) (now rows of);
    }

-- the laws of keys, values and hasher
abbrev laws_at : (g : Over) → Laws g.row.K.Denot g.row.V.Denot g.row.H.Denot
laws_at g = laws_of g.K.Ord.cmp g.K.KeyBytes.bytes_of g.H.Hasher-1.digest_of g.V.PartialEq.eq g.V.Join.join_of g.H.Hasher-2.digest_of

-- the values came, and their rows are taken, whatever rows the tree has the digests of
came : (g : Over) (c : In_ok-expect_end g) → g.T.KeptTree.is_sound c.keys.tree → ForRowsOf (laws_at g) (g.T.KeptTree.kept c.args.tree.now).digests
    (λ local. ValuesCome g.V.Encode.encoding (λ rows. AddsRows (laws_at g) local rows c.args.work.now c.keys.work) c.args.keys.items c.args.reply.now c.keys.left.items)
came g c sound rows of =
    let kept = c.keys.invariant in
    let done = all_yielded c.keys.yielded (into_iter_items c.keys.wanted-iterator) c.args.keys.items kept.left (sym kept.count ∙ c.in-None.ensures.steps.0) in
    all_came rows_at_kind (told_bytes g) (Any g) c.args.reply.now c.keys.yielded c.keys.left.items c.keys.reader.left.now kept.told kept.read c.args.keys.items c.in_ok-reader.reader.left.now
    (λ told. AddsRows (laws_at g) (side_of (g.T.KeptTree.kept c.args.tree.now).digests rows) (flat_map value_row told) c.args.work.now c.keys.work)
    done c.in_ok-reader.ensures.read c.in_ok-reader.ensures.some c.in_ok-expect_end.ensures.ended ((rw g.met.H.RowHasher.laws_are at kept.taken) sound rows of)

pub returns-then-is_empty-2-clause-taken : goal.returns-then-is_empty-2-clause-taken
returns-then-is_empty-2-clause-taken g c = rw g.met.H.RowHasher.laws_are (λ sound rows of.
    (c.keys.left.items, came g (goal.at.returns-then-is_empty-2-clause-taken g c).In_ok-expect_end sound rows of, asks_none RowsAt c.keys.left (sym c.is_empty-2.ensures ∙ c.if-is_empty-2.true)))

pub returns-clause-taken : goal.returns-clause-taken
returns-clause-taken g c = rw g.met.H.RowHasher.laws_are (λ sound rows of.
    (c.keys.left.items, came g (goal.at.returns-clause-taken g c).In_ok-expect_end sound rows of, asks_some RowsAt c.keys.left (sym c.is_empty-2.ensures ∙ c.if-is_empty-2.false)))

pub returns-in_err-reader-clause-refused : goal.returns-in_err-reader-clause-refused
returns-in_err-reader-clause-refused g c =
    let p = err_from_is_err_and c.from_residual.result c.from_residual.ensures.1 in
    rw (p.1, p.2) (refused_for _ _ c.in_err-reader.field-0.0 (λ none.
    says_no_entry (IsTold g) rows_at_kind c.args.keys.items c.args.reply.now (told_bytes g) (some_told g) none) c.in_err-reader.ensures.refused)

pub returns-in_err-value-clause-refused : goal.returns-in_err-value-clause-refused
returns-in_err-value-clause-refused g c =
    let p = err_from_is_err_and c.from_residual-in_err-value.result c.from_residual-in_err-value.ensures.1 in
    let kept = c.keys.invariant in
    let w = c.in-Some.wanted in
    let behind = into_iter_items c.next.new.self in
    let steps : into_iter_items c.keys.wanted-iterator ≡ w ∷ behind = c.in-Some.ensures.steps.0 in
    let more : c.keys.reader.left.now ≢ [] = λ e. some_bytes c.left.result.now (sym c.is_empty.ensures ∙ c.if-is_empty.false) (c.left.ensures ∙ e) in
    rw (p.1, p.2) (refused_for _ _ c.in_err-value.field-0.0 (λ no_value.
    says_no_next rows_at_kind (told_bytes g) (Any g) c.args.reply.now c.keys.yielded c.keys.left.items c.keys.reader.left.now kept.told kept.read
    (IsTold g) (some_told g) (same_behind g) c.args.keys.items more w behind (rw steps at kept.left) (λ y rest is. no_value y rest is)) c.in_err-value.ensures.refused)

pub returns-in_err-expect_end-clause-refused : goal.returns-in_err-expect_end-clause-refused
returns-in_err-expect_end-clause-refused g c =
    let p = err_from_is_err_and c.from_residual-in_err-expect_end.result c.from_residual-in_err-expect_end.ensures.1 in
    let kept = c.keys.invariant in
    let done = all_yielded c.keys.yielded (into_iter_items c.keys.wanted-iterator) c.args.keys.items kept.left (sym kept.count ∙ c.in-None.ensures.steps.0) in
    rw (p.1, p.2) (refused_for _ _ c.in_err-expect_end.field-0.0 (λ more.
    says_more rows_at_kind (told_bytes g) (Any g) c.args.reply.now c.keys.yielded c.keys.left.items c.keys.reader.left.now kept.told kept.read
    (IsTold g) (some_told g) (same_behind g) c.args.keys.items more done) c.in_err-expect_end.ensures.refused)
