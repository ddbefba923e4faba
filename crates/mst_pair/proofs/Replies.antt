-- The lines of what is shown.
use Rattle.std.proofs.Common.{◌≡◌, List, [], ◌∷◌, ◌++◌, map, ap, ◌∙◌, refl}
use Rattle.std.specs.List.{flat_map}
use Rattle.key_order.specs.Text.{Text}
use Rattle.merkle_replica.specs.Answers.{spans_of, answer_of}
use Rattle.merkle_replica.specs.Pulls.{Answer}
use Rattle.mst_pair.specs.Replies.{range_text, ranges_text, joined_text, turns_reply, end_line}
use Rattle.merkle_replica.specs.declared.pull.Pulled.{Pulled}

-- the lines of items that are seen as others
pub lines_as : {X Y A : Type 0} (f : Y → List A) (h : X → Y) (xs : List X) → flat_map (λ x. f (h x)) xs ≡ flat_map f (map h xs)
lines_as f h [] = refl
lines_as f h (x ∷ xs) = ap (λ t. f (h x) ++ t) (lines_as f h xs)

-- the same, where they are seen in two steps
pub lines_as_twice : {X Y Z A : Type 0} (f : Z → List A) (g : Y → Z) (h : X → Y) (xs : List X) → flat_map (λ x. f (g (h x))) xs ≡ flat_map f (map g (map h xs))
lines_as_twice f g h [] = refl
lines_as_twice f g h (x ∷ xs) = ap (λ t. f (g (h x)) ++ t) (lines_as_twice f g h xs)

-- the lines of ranges
pub ranges_shown : (read ranges : List (Text × Text)) → read ≡ ranges → flat_map (λ (r : Text × Text). range_text (record { first = r.0; last = r.1 })) read ++ end_line ≡ ranges_text (spans_of ranges)
ranges_shown read ranges same =
    ap (λ rs. flat_map (λ (r : Text × Text). range_text (record { first = r.0; last = r.1 })) rs ++ end_line) same
    ∙ ap (λ t. t ++ end_line) (lines_as range_text (λ (r : Text × Text). record { first = r.0; last = r.1 }) ranges)

-- the lines of pulls by turns
pub turns_shown : (read all : List (Pulled Text)) → read ≡ all → flat_map (λ (pulled : Pulled Text). joined_text pulled.joined) read ++ end_line ≡ turns_reply (map answer_of all)
turns_shown read all same =
    ap (λ ps. flat_map (λ (pulled : Pulled Text). joined_text pulled.joined) ps ++ end_line) same
    ∙ ap (λ t. t ++ end_line) (lines_as (λ (answer : Answer Text). joined_text answer.joined) answer_of all)
