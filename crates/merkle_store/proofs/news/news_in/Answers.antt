use Rattle.std.proofs.Common.{◌≡◌, ◌++◌, ◌∷◌, [], List, Result, Ok, length, append_assoc, arith, ap, sym, subst, ◌∙◌}
use Rattle.std.proofs.lemmas.Result.{err_from_is_err_and}
use Rattle.std.specs.Prelude.{⊤}
use Rattle.std.specs.Vec.Iter.{into_iter_items}
use Rattle.sqlite_trees.specs.Tree.{Trees}
use Rattle.store_file.specs.Logs.{IsClean, trees_of}
use Rattle.store_file.proofs.Calls.{reads_then}
use Rattle.merkle_store.specs.News.{AreNewsIn, IsNewsAt}
use Rattle.merkle_store.proofs.NewsIn.{all_looked_at, news_more, reads_with}
use Rattle.merkle_store.proofs.news.news_in.Goals as goal

pub entries-preserved : goal.entries-preserved
entries-preserved g c =
    let e = c.in-Some.entry in
    let kept = c.entries.invariant in
    let steps : into_iter_items c.entries.entry-iterator ≡ e ∷ into_iter_items c.next.new.self = c.in-Some.ensures.steps.0 in
    let old = trees_of g.S.Store c.args.log.now in
    let read = c.in_ok-later.ensures.reads in
    let so_far : Result ⊤ ⊤ = Ok tt in
    record {
      left = append_assoc c.entries.yielded (e ∷ []) _ ∙ rw (← steps) kept.left;
      count =
          let was = kept.count in
          let gone = c.in-Some.ensures.steps.1 in
          let short = ap length steps in
          omega arith;
      news = λ clean.
          let early : IsClean g.S.Store c.entries.log = omega (arith, read.steady.clean, clean) in
          let here : IsNewsAt old e c.in_ok-later.later = subst (λ (trees : Trees). IsNewsAt trees e c.in_ok-later.later) (kept.reads.unchanged early) (c.in_ok-later.ensures.later clean) in
          subst (AreNewsIn old (c.entries.yielded ++ e ∷ [])) (sym c.in_ok-add_if.ensures.added)
          (news_more old c.entries.yielded c.entries.news.items e c.in_ok-later.later (kept.news early) here);
      reads = reads_then g.S.Store _ _ _ so_far _ so_far kept.reads tt read tt;
      was_open = λ clean opened.
          let early : IsClean g.S.Store c.entries.log = omega (arith, read.steady.clean, clean) in
          kept.was_open early (c.is_news_in.ensures.was_open clean opened);
    }

pub returns-clause-news : goal.returns-clause-news
returns-clause-news g c clean =
    let kept = c.entries.invariant in
    subst (λ done. AreNewsIn (trees_of g.S.Store c.args.log.now) done c.entries.news.items) (all_looked_at _ _ _ kept.left (sym kept.count ∙ c.in-None.ensures.steps.0)) (kept.news clean)

pub returns-clause-reads : goal.returns-clause-reads
returns-clause-reads g c = reads_with g.S.Store _ _ _ c.entries.invariant.reads

pub returns-in_err-later-clause-reads : goal.returns-in_err-later-clause-reads
returns-in_err-later-clause-reads g c =
    let so_far : Result ⊤ ⊤ = Ok tt in
    reads_then g.S.Store _ _ _ so_far _ _ c.entries.invariant.reads tt c.in_err-later.ensures.reads
    (rw (err_from_is_err_and c.from_residual.result c.from_residual.ensures.1).1 tt)

pub returns-in_err-later-clause-was_open : goal.returns-in_err-later-clause-was_open
returns-in_err-later-clause-was_open g c clean opened =
    let early : IsClean g.S.Store c.entries.log = omega (arith, c.in_err-later.ensures.reads.steady.clean, clean) in
    c.entries.invariant.was_open early (c.is_news_in.ensures.was_open clean opened)
