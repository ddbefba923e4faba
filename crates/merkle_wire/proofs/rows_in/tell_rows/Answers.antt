use Rattle.std.proofs.Common.{refl, subst, ◌∙◌}
use Rattle.merkle_wire.specs.Messages.{front}
use Rattle.merkle_wire.specs.Replies.{IsFull}
use Rattle.merkle_wire.specs.Steps.{TellsPart}
use Rattle.merkle_wire.specs.declared.message.Kind.TheVariants.{RowsIn}
use Rattle.merkle_wire.proofs.Continued.{continued_more, continued_all, continued_full, telling_answers}
use Rattle.merkle_wire.proofs.rows_in.tell_rows.Goals as goal

pub gaps-init : goal.gaps-init
gaps-init g c = record { steady = λ sound. sound; kept = λ _. refl; told = λ _ reply t. rw c.in_ok-bytes.ensures at t }

pub gaps-preserved : goal.gaps-preserved
gaps-preserved g c =
    let so = c.gaps.invariant in
    let before = c.add_part.ensures.steady in
    record {
      steady = λ sound. so.steady (before sound);
      kept = λ sound. c.add_part.ensures.kept sound ∙ so.kept (before sound);
      told = λ sound.
          let told = subst (λ side. TellsPart g.K.Ord.cmp g.K.Encode.encoding g.V.Encode.encoding side.rows c.args.most_bytes c.gap-item.result c.gaps.bytes
          c.add_part.new.bytes) (so.kept (before sound)) (c.in_ok-add_part.ensures.part sound) in
          continued_more _ _ _ _ c.args.gaps.now (front RowsIn) c.gaps.bytes.items c.add_part.new.bytes.items c.gaps.gap-index c.gap-item.result told.0 c.gaps-test.true c.gap-item.is
          (so.told (before sound)) told.1 (subst (λ b. ¬ IsFull c.args.most_bytes b) c.deref.ensures.value (c.if-is_full.ensures.room refl), told.3) told.2;
    }

pub returns-then-is_full-clause-told : goal.returns-then-is_full-clause-told
returns-then-is_full-clause-told g c = λ sound.
    telling_answers _ _ _ _ c.args.gaps.now (front RowsIn) c.gaps.bytes.items refl
    (continued_full _ _ _ _ c.args.gaps.now (front RowsIn) c.gaps.bytes.items c.gaps.gap-index (c.gaps.invariant.told sound)
    (subst (λ b. IsFull c.args.most_bytes b) c.deref.ensures.value (c.if-is_full.ensures.full refl)))

pub returns-then-is_full-clause-fits : goal.returns-then-is_full-clause-fits
returns-then-is_full-clause-fits g c = λ sound.
    (continued_full _ _ _ _ c.args.gaps.now (front RowsIn) c.gaps.bytes.items c.gaps.gap-index (c.gaps.invariant.told sound)
    (subst (λ b. IsFull c.args.most_bytes b) c.deref.ensures.value (c.if-is_full.ensures.full refl))).fits

pub returns-clause-told : goal.returns-clause-told
returns-clause-told g c = λ sound.
    telling_answers _ _ _ _ c.args.gaps.now (front RowsIn) c.gaps.bytes.items refl
    (continued_all _ _ _ _ c.args.gaps.now (front RowsIn) c.gaps.bytes.items c.gaps.gap-index (c.gaps.invariant.told sound) c.gaps-test.false)

pub returns-clause-fits : goal.returns-clause-fits
returns-clause-fits g c = λ sound. (continued_all _ _ _ _ c.args.gaps.now (front RowsIn) c.gaps.bytes.items c.gaps.gap-index (c.gaps.invariant.told sound) c.gaps-test.false).fits
