use Rattle.std.proofs.Common.{◌≡◌, subst}
use Rattle.merkle_search_tree.specs.Items.{lent_gap}
use Rattle.store_file.proofs.Outcomes.{if_ok}
use Rattle.store_rows.specs.Digests.{digest_rows}
use Rattle.store_side.specs.FileTrees.{SaysFilePage}
use Rattle.store_side.proofs.Pages.{said_lacked, said_there}
use Rattle.store_side.proofs.filed.find_page_at.Goals as goal
use Rattle.store_tree.specs.Pages.{text_gap}
use Rattle.store_tree.specs.Texts.{bytes_gap}

pub returns-clause-there : goal.returns-clause-there
returns-clause-there g c clean =
    let gap = lent_gap c.args.gap.now in
    let digest = c.args.digest.now in
    let same : text_gap c.in_ok-after.after c.in_ok-before.before ≡ bytes_gap gap = λ i. record { after = c.in_ok-after.ensures i; before = c.in_ok-before.ensures i } in
    if_ok c.find_page.result _ _
    (λ is said rows was told. said_there c.args.digests.now (digest_rows c.args.digests.now rows) gap digest is
    (subst (λ gap. SaysFilePage c.args.digests.now gap digest rows is) same (said rows was)) told)
    (c.find_page.ensures.page clean)

pub returns-clause-lacked : goal.returns-clause-lacked
returns-clause-lacked g c clean =
    let gap = lent_gap c.args.gap.now in
    let digest = c.args.digest.now in
    let same : text_gap c.in_ok-after.after c.in_ok-before.before ≡ bytes_gap gap = λ i. record { after = c.in_ok-after.ensures i; before = c.in_ok-before.ensures i } in
    if_ok c.find_page.result _ _
    (λ is said rows was told. said_lacked c.args.digests.now (digest_rows c.args.digests.now rows) gap digest is
    (subst (λ gap. SaysFilePage c.args.digests.now gap digest rows is) same (said rows was)) told)
    (c.find_page.ensures.page clean)
