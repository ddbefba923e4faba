use Rattle.std.proofs.Common.{sym, subst}
use Rattle.mst_commands.specs.Imports.{AreAdded}
use Rattle.mst_commands.proofs.writing.entries_to_add.Goals as goal

-- of keys and texts
pub returns-in_default-clause-added : goal.returns-in_default-clause-added
returns-in_default-clause-added g c clean =
    let rows = c.in_ok-rows.rows.items in
    let last = c.latest_rows-last.result.items in
    let latest = c.in_ok-rows.ensures.latest clean in
    let dated = (rw c.deref.ensures.value at c.in_ok-dated.ensures.dated) latest.2.ascending in
    (rows, last, latest, c.latest_rows-last.ensures, subst (λ log. AreAdded log c.args.writer.now c.args.now rows last c.in_ok-dated.dated.items) (sym c.in_default.is) dated)

-- of a log
pub returns-clause-added : goal.returns-clause-added
returns-clause-added g c clean =
    let rows = c.in_ok-rows.rows.items in
    let last = c.latest_rows-last.result.items in
    let latest = c.in_ok-rows.ensures.latest clean in
    let timely = rw c.deref-2.ensures.value at c.in_ok-not_above.ensures.timely in
    let news = (rw c.deref-3.ensures.value at c.retain_news.ensures) latest.2.ascending in
    (rows, last, latest, c.latest_rows-last.ensures, subst (λ log. AreAdded log c.args.writer.now c.args.now rows last c.retain_news.new.news.items) (sym c.in-Some.is) (timely, news))
