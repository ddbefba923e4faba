use Rattle.std.proofs.Common.{refl, subst, ◌∙◌}
use Rattle.key_order.specs.Map.{get}
use Rattle.merkle_wire.specs.Messages.{front}
use Rattle.merkle_wire.specs.Replies.{IsFull}
use Rattle.merkle_wire.specs.declared.message.Kind.TheVariants.{RowsAt}
use Rattle.merkle_wire.proofs.Continued.{continued_more, continued_all, continued_full, telling_answers}
use Rattle.merkle_wire.proofs.rows_at.tell_values.Goals as goal
use Rattle.merkle_bytes.specs.Encodings.{AddsBytes}
use Rattle.merkle_bytes.specs.Options.{option_bytes}

pub keys-init : goal.keys-init
keys-init g c = record { steady = λ sound. sound; kept = λ _. refl; told = λ _ reply t. rw c.in_ok-bytes.ensures at t }

pub keys-preserved : goal.keys-preserved
keys-preserved g c =
    let so = c.keys.invariant in
    let before = c.tell_value.ensures.steady in
    record {
      steady = λ sound. so.steady (before sound);
      kept = λ sound. c.tell_value.ensures.kept sound ∙ so.kept (before sound);
      told = λ sound.
          let told = subst (λ side. AddsBytes c.keys.bytes (option_bytes g.V.Encode.encoding (get g.K.Ord.cmp side.rows c.wanted-item.result.key)) c.tell_value.new.bytes)
          (so.kept (before sound)) (c.in_ok-tell_value.ensures.told sound) in
          continued_more _ _ _ _ c.args.keys.now (front RowsAt) c.keys.bytes.items c.tell_value.new.bytes.items c.keys.wanted-index c.wanted-item.result
          (get g.K.Ord.cmp (g.S.KeptSide.contents c.args.side.now c.args.beside.now).rows c.wanted-item.result.key) c.keys-test.true c.wanted-item.is (so.told (before sound)) refl
          (subst (λ b. ¬ IsFull c.args.most_bytes b) c.deref.ensures.value (c.if-is_full.ensures.room refl), tt) told;
    }

pub returns-then-is_full-clause-told : goal.returns-then-is_full-clause-told
returns-then-is_full-clause-told g c = λ sound.
    telling_answers _ _ _ _ c.args.keys.now (front RowsAt) c.keys.bytes.items refl
    (continued_full _ _ _ _ c.args.keys.now (front RowsAt) c.keys.bytes.items c.keys.wanted-index (c.keys.invariant.told sound)
    (subst (λ b. IsFull c.args.most_bytes b) c.deref.ensures.value (c.if-is_full.ensures.full refl)))

pub returns-then-is_full-clause-fits : goal.returns-then-is_full-clause-fits
returns-then-is_full-clause-fits g c = λ sound.
    (continued_full _ _ _ _ c.args.keys.now (front RowsAt) c.keys.bytes.items c.keys.wanted-index (c.keys.invariant.told sound)
    (subst (λ b. IsFull c.args.most_bytes b) c.deref.ensures.value (c.if-is_full.ensures.full refl))).fits

pub returns-clause-told : goal.returns-clause-told
returns-clause-told g c = λ sound.
    telling_answers _ _ _ _ c.args.keys.now (front RowsAt) c.keys.bytes.items refl
    (continued_all _ _ _ _ c.args.keys.now (front RowsAt) c.keys.bytes.items c.keys.wanted-index (c.keys.invariant.told sound) c.keys-test.false)

pub returns-clause-fits : goal.returns-clause-fits
returns-clause-fits g c = λ sound. (continued_all _ _ _ _ c.args.keys.now (front RowsAt) c.keys.bytes.items c.keys.wanted-index (c.keys.invariant.told sound) c.keys-test.false).fits
