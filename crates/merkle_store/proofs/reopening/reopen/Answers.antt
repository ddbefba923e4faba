use Rattle.std.proofs.Common.{ap, subst, sym, ◌∙◌}
use Rattle.sqlite_trees.specs.View.{IsClean}
use Rattle.sqlite_trees.proofs.Doubt.{clean_of as sure, no_doubt}
use Rattle.sqlite_store.specs.FileStore.{view}
use Rattle.merkle_store.proofs.reopening.reopen.Goals as goal

pub over-requires : goal.over-requires
over-requires g c =
    let opened = c.in-Ok.ensures in
    record { tables = λ clean. (opened.laid_out (sure _ clean)).tables; rest = λ clean on. (opened.laid_out (sure _ clean)).rest }

pub returns-in-Ok : goal.returns-in-Ok
returns-in-Ok g c clean =
    let opened = c.in-Ok.ensures in
    let now = sure _ (subst (λ log. IsClean (view log)) c.over.ensures clean) in
    let was = opened.honest now in
    let rest = c.into_trees.ensures.log.rest (no_doubt _ was.0) was.1 in
    ap (λ log. (view log).trees) c.over.ensures ∙ (opened.laid_out now).rest.settled ∙ opened.same now ∙ sym rest.settled ∙ ap (λ log. (view log).trees) c.into_trees.ensures.same
