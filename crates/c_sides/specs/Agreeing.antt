-- Rows that are handed in for a question, and all rows that are kept.
use Rattle.std.specs.Prelude.{◌≡◌, ℕ, List}
use Rattle.std.specs.Global.{Vec}
use Rattle.std.specs.List.{AllByRecursion}
use Rattle.c_rows.specs.Values.{byte_laws, key_encoding, value_encoding}
use Rattle.c_values.specs.Keys.{key_cmp}
use Rattle.c_rows.specs.declared.value.ByteValue.{ByteValue}
use Rattle.key_order.specs.Map.{get}
use Rattle.merkle_tree_theory.specs.Gap.{pairs_within}
use Rattle.merkle_wire.specs.Gaps.{owned_gap}
use Rattle.merkle_wire.specs.Replies.{IsReply}
use Rattle.merkle_wire.specs.declared.question.Question.{Question}
use Rattle.merkle_wire.specs.declared.question.Question.TheVariants.{Root, Outlines, Nodes, RowsAt, RowsIn}
use Rattle.c_sides.specs.SideTree.{SyncState}

-- of what the question asks for, which is rows, those that are handed in are all that are kept
abbrev pub AgreeOn : Question (Vec ℕ) → List (Vec ℕ × ByteValue) → List (Vec ℕ × ByteValue) → Type 0
AgreeOn (Root settings) handed kept = ⊥
AgreeOn (Outlines most gaps) handed kept = ⊥
AgreeOn (Nodes most gaps) handed kept = ⊥
AgreeOn (RowsAt keys) handed kept = AllByRecursion (λ wanted. get key_cmp handed wanted.key ≡ get key_cmp kept wanted.key) keys.items
AgreeOn (RowsIn gaps) handed kept =
    AllByRecursion (λ gap. pairs_within key_cmp (owned_gap gap) handed ≡ pairs_within key_cmp (owned_gap gap) kept) gaps.items

-- a reply of rows that are handed in is one of all rows that are kept, where they agree on what the question asks for
abbrev pub ReplyAlike : Type 0
ReplyAlike = (question : Question (Vec ℕ)) (handed kept : List (Vec ℕ × ByteValue)) (tree : SyncState) (reply : Vec ℕ) → AgreeOn question handed kept
    → IsReply byte_laws 16 key_encoding value_encoding handed tree question reply.items → IsReply byte_laws 16 key_encoding value_encoding kept tree question reply.items
