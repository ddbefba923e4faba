-- A reply of rows that are handed in is one of all rows that are kept.
use Rattle.std.proofs.Common.{◌≡◌, List, [], ◌∷◌, ◌++◌, map, sym, subst, ◌∙◌}
use Rattle.std.specs.List.{AllByRecursion}
use Rattle.c_values.specs.Keys.{key_cmp}
use Rattle.key_order.specs.Map.{get}
use Rattle.merkle_tree_theory.specs.Gap.{pairs_within}
use Rattle.merkle_wire.specs.Gaps.{owned_gap}
use Rattle.merkle_wire.specs.Replies.{IsPartOf}
use Rattle.merkle_wire.specs.declared.question.Question.TheVariants.{Root, Outlines, Nodes, RowsAt, RowsIn}
use Rattle.merkle_wire.proofs.Continued.{TellsFirst}
use Rattle.c_sides.specs.Agreeing.{ReplyAlike}

-- what is told by one relation is told by another
module _ {X Y : Type 0} (P Q : X → Y → Type 0) (R : X → Type 0) (carries : (x : X) (y : Y) → R x → P x y → Q x y) where
  each_told : (told : List (X × Y)) (left : List X) → AllByRecursion R (map (λ t. t.0) told ++ left) → AllByRecursion (λ t. P t.0 t.1) told
      → AllByRecursion (λ t. Q t.0 t.1) told
  each_told [] left r p = tt
  each_told (t ∷ ts) left r p = (carries t.0 t.1 r.0 p.0, each_told ts left r.1 p.1)

  pub told_alike : (asked : List X) (told : List (X × Y)) → AllByRecursion R asked → TellsFirst P asked told → TellsFirst Q asked told
  told_alike asked told r (left, begins, some, each) = (left, begins, some, each_told told left (subst (AllByRecursion R) begins r) each)

pub reply_alike : ReplyAlike
reply_alike (Root settings) handed kept tree reply agree is = absurd agree
reply_alike (Outlines most gaps) handed kept tree reply agree is = absurd agree
reply_alike (Nodes most gaps) handed kept tree reply agree is = absurd agree
reply_alike (RowsAt keys) handed kept tree reply agree is = (
  is.0,
  told_alike (λ wanted value. value ≡ get key_cmp handed wanted.key) (λ wanted value. value ≡ get key_cmp kept wanted.key)
      (λ wanted. get key_cmp handed wanted.key ≡ get key_cmp kept wanted.key) (λ wanted value same told. told ∙ same) keys.items is.0 agree is.1,
  is.2,
)
reply_alike (RowsIn gaps) handed kept tree reply agree is = (
  is.0,
  told_alike (IsPartOf key_cmp handed) (IsPartOf key_cmp kept)
      (λ gap. pairs_within key_cmp (owned_gap gap) handed ≡ pairs_within key_cmp (owned_gap gap) kept)
      (λ gap part same told. (told.0, sym same ∙ told.1, told.2, told.3)) gaps.items is.0 agree is.1,
  is.2,
)
