use Rattle.std.proofs.Common.{rules, ◌≡◌, subst, ◌∙◌}
use Rattle.std.proofs.IntoIterSteps.{All-taken}
use Rattle.std.proofs.lemmas.List.{map-id}
use Rattle.key_order.specs.Map.{IsMap}
use Rattle.merkle_tree_theory.specs.State.{SameSettings}
use Rattle.c_values.specs.Keys.{key_cmp}
use Rattle.c_trees.proofs.Loads.{no_ascent}
use Rattle.c_trees.proofs.byte_tree.ByteTree.load_pairs.Goals as goal

pub returns-in-Ok-clause-done : goal.returns-in-Ok-clause-done
returns-in-Ok-clause-done c =
    let made = c.in-Ok.ensures.map in
    let same : made.0 ≡ c.args.pairs.items = All-taken made.1.0 made.0 made.1.2 ∙ made.1.1.0 in
    let settings : SameSettings c.args.self.now.tree c.in-Ok.tree = search rules in
    (made.3 ∙ map-id made.0 ∙ same, subst (IsMap key_cmp) same made.2, settings)

pub returns-in-Err-NotAscending-clause-malformed : goal.returns-in-Err-NotAscending-clause-malformed
returns-in-Err-NotAscending-clause-malformed c is ascends =
    no_ascent _ c.args.pairs.items (λ it starts. starts.0) c.in-Err-NotAscending.field-0 c.in-Err-NotAscending.field-0-0 c.in-Err-NotAscending.field-0-is c.in-Err-NotAscending.ensures.refused ascends
