use Rattle.std.proofs.Common.{ℕ, ◌+◌, ◌-◌, List, [], ◌∷◌, ◌++◌, map, ap, ◌∙◌}
use Rattle.std.proofs.lemmas.List.{map-append}
use Rattle.std.specs.Prelude.{string_bytes}
use Rattle.mst_bench.specs.Keys.{key_text, key_texts}
use Rattle.mst_bench.proofs.KeyTexts.{one_more}
use Rattle.mst_bench.proofs.keys.keys.Goals as goal

pub making-preserved : goal.making-preserved
making-preserved c =
    let left = c.args.count - (c.making.made + 1) in
    let state = c.next_state-state.result in
    let key = c.in_ok-key_of.field-0 in
    let made = map string_bytes c.making.keys.items in
    ap (λ (ks : List _). map string_bytes ks ++ key_texts left state) c.in_ok-push.ensures.items
    ∙ ap (λ (ts : List (List ℕ)). ts ++ key_texts left state) (map-append string_bytes c.making.keys.items (key ∷ []))
    ∙ ap (λ (t : List ℕ). (made ++ t ∷ []) ++ key_texts left state) c.in_ok-key_of.ensures
    ∙ ap (λ (s : ℕ). (made ++ key_text s ∷ []) ++ key_texts left s) c.next_state-state.ensures
    ∙ one_more c.args.count c.making.made c.making.state made _ c.making-test.true c.making.invariant
