use Rattle.std.proofs.Common.{List, ℕ, ◌++◌, sym, ap, ◌∙◌, encode_utf8_all}
use Rattle.std.specs.List.{flat_map}
use Rattle.std.proofs.lemmas.List.{map-id}
use Rattle.std.proofs.lemmas.Iterator.{YieldsList-from_chars}
use Rattle.std.proofs.lemmas.Iterator.Consumers.{YieldsList-end}
use Rattle.mst_commands.specs.Escapes.{escape_of}
use Rattle.mst_commands.proofs.EscapeLemmas.{spelt_more}
use Rattle.mst_commands.proofs.escape.escape.Goals as goal

pub characters-preserved : goal.characters-preserved
characters-preserved c =
    c.in_ok-push_escaped.ensures ∙ ap (λ (bs : List ℕ). bs ++ encode_utf8_all (escape_of c.in-Some.character)) c.characters.invariant ∙ spelt_more escape_of c.characters.yielded c.in-Some.character

pub returns : goal.returns
returns c =
    let all = YieldsList-end (YieldsList-from_chars c.args.text.now c.utf8.text cc) c.characters.yielded _ c.characters.yielded_by _ _ c.in-None.is c.next.ensures.steps in
    c.characters.invariant ∙ ap (λ (cs : List ℕ). encode_utf8_all (flat_map escape_of cs)) (sym (map-id c.characters.yielded) ∙ all.0)
