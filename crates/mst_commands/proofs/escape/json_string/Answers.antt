use Rattle.std.proofs.Common.{List, ℕ, ◌++◌, [], ◌∷◌, codes, sym, ap, ◌∙◌, encode_utf8_all, append_assoc, string_bytes, arith}
use Rattle.std.proofs.lemmas.Str.{encode_ascii}
use Rattle.std.specs.List.{flat_map}
use Rattle.std.proofs.lemmas.List.{map-id}
use Rattle.std.proofs.lemmas.Iterator.{YieldsList-from_chars}
use Rattle.std.proofs.lemmas.Iterator.Consumers.{YieldsList-end}
use Rattle.mst_commands.specs.Escapes.{json_char}
use Rattle.mst_commands.proofs.EscapeLemmas.{spelt_more}
use Rattle.mst_commands.proofs.escape.json_string.Goals as goal

pub characters-preserved : goal.characters-preserved
characters-preserved c =
    let one = encode_utf8_all (json_char c.in-Some.character) in
    let before = encode_utf8_all (flat_map json_char c.characters.yielded) in
    c.in_ok-push_json.ensures ∙ ap (λ (bs : List ℕ). bs ++ one) c.characters.invariant ∙ append_assoc (codes "\"") before one
    ∙ ap (λ (bs : List ℕ). codes "\"" ++ bs) (spelt_more json_char c.characters.yielded c.in-Some.character)

pub returns : goal.returns
returns c =
    let all = YieldsList-end (YieldsList-from_chars c.args.text.now c.utf8.text cc) c.characters.yielded _ c.characters.yielded_by _ _ c.in-None.is c.next.ensures.steps in
    let spelt = c.characters.invariant ∙ ap (λ (cs : List ℕ). codes "\"" ++ encode_utf8_all (flat_map json_char cs)) (sym (map-id c.characters.yielded) ∙ all.0) in
    c.in_ok-push-2.ensures.bytes ∙ ap (λ (bs : List ℕ). string_bytes c.characters.line ++ bs) (encode_ascii 34 (omega arith)) ∙ ap (λ (bs : List ℕ). bs ++ 34 ∷ []) spelt
