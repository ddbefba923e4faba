use Rattle.std.proofs.Common.{◌≡◌, ℕ, zero, suc, ◌+◌, ◌<◌, List, [], ◌∷◌, ◌++◌, length, get_or, take, drop, sym, ap, ◌∙◌, subst, append_assoc, append-nil, refl, arith, add-one}
use Rattle.std.specs.List.{flat_map}
use Rattle.mst_pair.specs.Devices.{WritesPart}
use Rattle.mst_pair.proofs.Devices.{passes_err, part_less, passed_part, passed_more, passed_as}
use Rattle.mst_pair.proofs.reply.add_lines.Goals as goal

-- the texts of all, at one of them
texts_at : {X A : Type 0} (f : X → List A) (xs : List X) (i : ℕ) (d : X) → i < length xs → flat_map f xs ≡ (flat_map f (take i xs) ++ f (get_or xs i d)) ++ flat_map f (drop (suc i) xs)
texts_at f [] i d inside = absurd (omega arith)
texts_at f (x ∷ xs) zero d inside = refl
texts_at f (x ∷ xs) (suc i) d inside =
    let here = f x in
    ap (λ t. here ++ t) (texts_at f xs i d (omega arith)) ∙ (sym (append_assoc here _ _) ∙ ap (λ t. t ++ flat_map f (drop (suc i) xs)) (sym (append_assoc here _ _)))

-- the texts of the first ones, and of one more
texts_more : {X A : Type 0} (f : X → List A) (xs : List X) (i : ℕ) (d : X) → i < length xs → flat_map f (take i xs) ++ f (get_or xs i d) ≡ flat_map f (take (suc i) xs)
texts_more f [] i d inside = absurd (omega arith)
texts_more f (x ∷ xs) zero d inside = sym (append-nil (f x))
texts_more f (x ∷ xs) (suc i) d inside = append_assoc (f x) _ _ ∙ ap (λ t. f x ++ t) (texts_more f xs i d (omega arith))

-- this item's line could not be added
pub returns-in_err-write_line-clause-bytes : goal.returns-in_err-write_line-clause-bytes
returns-in_err-write_line-clause-bytes g c =
    let p = c.args.pending.now in
    let i = c.showing.item-index in
    let text = g.T.ReplyLine.line_text in
    let before = flat_map text (take i c.args.items.now) in
    let after = flat_map text (drop (suc i) c.args.items.now) in
    let all = texts_at text c.args.items.now i c.item-item.result c.showing-test.true ∙ ap (λ t. (before ++ t) ++ after) (ap text (sym c.item-item.is)) in
    let part = passed_part _ _ _ p _ before (text c.item-item.result) c.showing.invariant.passed c.in_err-write_line.ensures.bytes in
    passes_err _ _ _ _ _ _ c.from_residual.ensures.0 (subst (WritesPart _ _) (ap (λ t. p ++ t) (sym all)) (part_less _ _ p (before ++ text c.item-item.result) after part))

-- this item's line was added
pub showing-preserved : goal.showing-preserved
showing-preserved g c =
    let p = c.args.pending.now in
    let i = c.showing.item-index in
    let items = c.args.items.now in
    let text = g.T.ReplyLine.line_text in
    let before = flat_map text (take i items) in
    let next : before ++ text c.item-item.result ≡ flat_map text (take (i + 1) items) = ap (λ item. before ++ text item) c.item-item.is
    ∙ (texts_more text items i c.item-item.result c.showing-test.true ∙ ap (λ k. flat_map text (take k items)) (sym (add-one i))) in
    record {
      passed = passed_as _ _ p (before ++ text c.item-item.result) _ _ next (passed_more _ _ _ p _ _ before (text c.item-item.result) c.showing.invariant.passed c.in_ok-write_line.ensures.bytes);
      works = c.in_ok-write_line.ensures.failed ∙ c.showing.invariant.works;
    }
