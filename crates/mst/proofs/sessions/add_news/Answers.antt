use Rattle.std.proofs.lemmas.Result.{err_from_is_err_and}
use Rattle.store_file.proofs.Calls.{writes_then}
use Rattle.store_rows.specs.InStep.{AddsInStep}
use Rattle.mst.specs.Shared.{AddsNews}
use Rattle.mst.proofs.sessions.add_news.Goals as goal

pub returns-clause-added : goal.returns-clause-added
returns-clause-added g c =
    let news = c.in_ok-news.news.items in
    writes_then g.S.Store c.args.log.now c.news_in.new.log c.add_beside.new.log (AddsInStep c.args.hash_key.now news) (AddsNews c.args.came.items)
    (λ clean trees adds. (news, c.in_ok-news.ensures.news clean, adds.more)) _ _ _ c.in_ok-news.ensures.reads tt (rw c.deref.ensures.value at c.in_ok-add_beside.ensures.added) tt

pub returns-in_err-add_beside-clause-added : goal.returns-in_err-add_beside-clause-added
returns-in_err-add_beside-clause-added g c =
    let news = c.in_ok-news.news.items in
    writes_then g.S.Store c.args.log.now c.news_in.new.log c.add_beside.new.log (AddsInStep c.args.hash_key.now news) (AddsNews c.args.came.items)
    (λ clean trees adds. (news, c.in_ok-news.ensures.news clean, adds.more)) _ _ _ c.in_ok-news.ensures.reads tt (rw c.deref.ensures.value at c.in_err-add_beside.ensures.added)
    (rw (err_from_is_err_and c.from_residual-in_err-add_beside.result c.from_residual-in_err-add_beside.ensures.1).1 tt)
