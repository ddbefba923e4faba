use Rattle.std.proofs.Common.{ap, subst, string_bytes, IfSome, ◌∙◌}
use Rattle.key_order.specs.Text.{text_order}
use Rattle.merkle_search_tree.specs.Items.{items}
use Rattle.merkle_wire.specs.Outlines.{IsTold, nodes_among}
use Rattle.merkle_wire.specs.Replies.{items_over}
use Rattle.merkle_wire.specs.Steps.{AddsTold}
use Rattle.store_file.specs.WireRegisters.{register_encoding}
use Rattle.store_side.specs.Answered.{ArePageRows, text_encoding}
use Rattle.store_rows.specs.Digests.{digest_rows}
use Rattle.store_side.specs.Sides.{file_tree}
use Rattle.store_side.proofs.Answering.{nodes_alike, nodes_themselves, outline_told}
use Rattle.store_side.proofs.told.add_page.Goals as goal
use Rattle.store_tree.specs.Outlines.{found_items}
use Rattle.store_tree.specs.Texts.{bytes_gap}

pub find_page_rows-requires : goal.find_page_rows-requires
find_page_rows-requires g c = record { file = (c.args.noted.now.rows, c.find_outline.ensures.kept c.args.noted.now.rows c.requires.file) }

pub returns-in_err-tell_outline-in-Some-clause-kept : goal.returns-in_err-tell_outline-in-Some-clause-kept
returns-in_err-tell_outline-in-Some-clause-kept g c =
    let rows = c.args.noted.now.rows in
    c.find_page_rows.ensures.kept rows (c.find_outline.ensures.kept rows c.requires.file)

pub returns-clause-kept : goal.returns-clause-kept
returns-clause-kept g c =
    let rows = c.args.noted.now.rows in
    c.find_page_rows.ensures.kept rows (c.find_outline.ensures.kept rows c.requires.file)

pub returns-in-Some-clause-told : goal.returns-in-Some-clause-told
returns-in-Some-clause-told g c clean =
    let hash_key = c.args.digests.now in
    let rows = c.args.noted.now.rows in
    let gap = c.args.gap.now in
    let with_pages = c.args.telling.with_pages in
    let list = items c.in_ok-list.list.items in
    let page = c.in-Some.page in
    let old = c.args.bytes.now in
    let new = c.tell_outline.new.bytes in
    let told = subst (λ xs. AddsTold text_encoding register_encoding (IsTold text_order page with_pages (items xs)) gap.after old new) c.deref-in-Some.ensures.value
    (subst (λ after. AddsTold text_encoding register_encoding (IsTold text_order page with_pages (items c.deref-in-Some.result.now)) after old new) c.as_ref.ensures.value
    c.in_ok-tell_outline-in-Some.ensures) in
    let are = subst (λ xs. ArePageRows (nodes_among (items xs)) rows page) c.deref.ensures.value
    (subst (λ found. IfSome found (ArePageRows (nodes_among (items c.deref.result.now)) rows)) c.in-Some.is
    (c.in_ok-page.ensures.rows clean rows (c.find_outline.ensures.kept rows c.requires.file))) in
    c.equal_bytes_are_told_alike.ensures page rows with_pages list (items_over text_order string_bytes (file_tree hash_key (digest_rows hash_key rows)) gap) gap.after old new
    (outline_told hash_key rows gap c.in_ok-found.found list (c.in_ok-list.ensures ∙ ap (λ g. found_items (bytes_gap g) c.in_ok-found.found) c.as_gap.ensures)
    (c.in_ok-found.ensures.outline (c.find_page_rows.ensures.steady clean) rows c.requires.file)) (nodes_alike rows page (nodes_among list) are) told

pub returns-clause-told : goal.returns-clause-told
returns-clause-told g c clean =
    let hash_key = c.args.digests.now in
    let rows = c.args.noted.now.rows in
    let gap = c.args.gap.now in
    let with_pages = c.args.telling.with_pages in
    let list = items c.in_ok-list.list.items in
    let old = c.args.bytes.now in
    let new = c.tell_outline-in-None.new.bytes in
    let told = subst (λ xs. AddsTold text_encoding register_encoding (IsTold text_order rows with_pages (items xs)) gap.after old new) c.deref-in-None.ensures.value
    (subst (λ after. AddsTold text_encoding register_encoding (IsTold text_order rows with_pages (items c.deref-in-None.result.now)) after old new) c.as_ref-in-None.ensures.value
    c.in_ok-tell_outline-in-None.ensures) in
    c.equal_bytes_are_told_alike.ensures rows rows with_pages list (items_over text_order string_bytes (file_tree hash_key (digest_rows hash_key rows)) gap) gap.after old new
    (outline_told hash_key rows gap c.in_ok-found.found list (c.in_ok-list.ensures ∙ ap (λ g. found_items (bytes_gap g) c.in_ok-found.found) c.as_gap.ensures)
    (c.in_ok-found.ensures.outline (c.find_page_rows.ensures.steady clean) rows c.requires.file)) (nodes_themselves rows (nodes_among list)) told
