use Rattle.std.proofs.Common.{◌≡◌, sym, ap, ap₂, subst, ◌∙◌}
use Rattle.std.proofs.Math.Logic.{∥∥₁_elim, ∥∥₁_map}
use Rattle.std.proofs.Math.Path.{subst₃}
use Rattle.std.proofs.lemmas.Bool.{cond-true}
use Rattle.sqlite_wal.specs.Files.{seen_image}
use Rattle.sqlite_wal.proofs.CleanLemmas.{both_clean}
use Rattle.sqlite_pool.specs.Stored.{Recovers}
use Rattle.sqlite_pool.specs.StoredLaws.{recovers_once}
use Rattle.sqlite_trees.specs.Props.{Trees-set}
use Rattle.sqlite_trees.specs.Tree.{no_trees}
use Rattle.sqlite_store.specs.Db.{IsFile}
use Rattle.sqlite_store.specs.FileStore.{state}
use Rattle.sqlite_store.specs.Listing.{file_trees}
use Rattle.sqlite_store.specs.Saved.{kept_schema}
use Rattle.sqlite_store.specs.Unopened.{state_of, wanted_by, image}
use Rattle.store_file.specs.Catalog.{laid_out}
use Rattle.store_file.specs.Files.{HoldsStore, image_of}
use Rattle.store_file.proofs.StoreLemmas.{clean_files, same_image, is_laid_out}
use Rattle.store_file.proofs.TakenFile.{is_file}
use Rattle.store_file.proofs.file.open.Goals as goal

pub open_trusted-requires-clause-sound : goal.open_trusted-requires-clause-sound
open_trusted-requires-clause-sound g c =
    λ clean.
    let start = image_of g.D.Disk c.args.files in
    let fresh = c.in_ok-fresh.fresh in
    let mid = c.read_catalog.new.self in
    let made = c.in_ok-fresh.ensures in
    let read = c.find_size.ensures in
    let later = clean_files fresh c.find_size.new.files made.files (c.read_catalog.ensures.honest clean) in
    let held = c.requires.sound (both_clean _ _ _ _ read.log.clean read.file.clean later) in
    let seen : image fresh ≡ start = ap (λ f. seen_image g.D.Disk f.0 f.1) made.files ∙ same_image read.log read.file in
    let listed = c.in-Ok.ensures.ok clean in
    let kept = c.read_catalog.ensures.kept clean in
    let sized = λ (h : HoldsStore start). c.in_ok-size.ensures.named later h ∙ sym made.size in
    let pages = λ (h : HoldsStore start).
    recovers_once (state_of fresh).page_size start _ _ (subst (λ n. Recovers n start h.holds.pages) (sized h) h.holds.found)
    (subst (λ i. Recovers (state_of fresh).page_size i listed.pages) seen listed.found) in (
      listed.pages,
      subst (λ n. Recovers n (image mid) listed.pages) (sym kept.size) listed.again,
      is_file (state_of mid).page_size (wanted_by mid) listed.pages
          (∥∥₁_map held (λ h. subst₃ IsFile (sized h ∙ sym kept.size) (sym (c.read_catalog.ensures.schema ∙ made.schema)) (pages h) h.holds.file)),
    )

pub returns-in-Ok-open_trusted-clause-honest : goal.returns-in-Ok-open_trusted-clause-honest
returns-in-Ok-open_trusted-clause-honest g c =
    λ now.
    let read = c.find_size.ensures in
    let clean = c.in-Ok-open_trusted.ensures.honest now in
    both_clean _ _ _ _ read.log.clean read.file.clean (clean_files c.in_ok-fresh.fresh c.find_size.new.files c.in_ok-fresh.ensures.files (c.read_catalog.ensures.honest clean))

pub returns-in-Ok-open_trusted-clause-laid_out : goal.returns-in-Ok-open_trusted-clause-laid_out
returns-in-Ok-open_trusted-clause-laid_out g c =
    is_laid_out c.in-Ok-open_trusted.store c.in-Ok-open_trusted.ensures.ready (c.in-Ok-open_trusted.ensures.schema ∙ c.read_catalog.ensures.schema ∙ c.in_ok-fresh.ensures.schema)

pub returns-in-Ok-open_trusted-clause-found : goal.returns-in-Ok-open_trusted-clause-found
returns-in-Ok-open_trusted-clause-found g c =
    λ now db there. ∥∥₁_elim there (Trees-set _ _) (λ x.
    let held = x.0 in
    let start = image_of g.D.Disk c.args.files in
    let fresh = c.in_ok-fresh.fresh in
    let mid = c.read_catalog.new.self in
    let made = c.in_ok-fresh.ensures in
    let read = c.find_size.ensures in
    let e = c.in-Ok-open_trusted.ensures in
    let store = c.in-Ok-open_trusted.store in
    let clean = e.honest now in
    let later = clean_files fresh c.find_size.new.files made.files (c.read_catalog.ensures.honest clean) in
    let seen : image fresh ≡ start = ap (λ f. seen_image g.D.Disk f.0 f.1) made.files ∙ same_image read.log read.file in
    let sized : held.holds.size ≡ (state_of fresh).page_size = c.in_ok-size.ensures.named later held ∙ sym made.size in
    let listed = c.in-Ok.ensures.ok clean in
    let kept = c.read_catalog.ensures.kept clean in
    let size = (state_of fresh).page_size in
    let early : held.holds.pages ≡ listed.pages =
    recovers_once size start _ _ (subst (λ n. Recovers n start held.holds.pages) sized held.holds.found) (subst (λ i. Recovers size i listed.pages) seen listed.found) in
    let same : listed.pages ≡ (state store).committed =
    recovers_once size (image mid) _ _ listed.again (subst (λ n. Recovers n (image mid) (state store).committed) kept.size (e.found now)) in
    let sizes : (state store).page_size ≡ held.holds.size = (e.kept now).size ∙ kept.size ∙ sym sized in
    let listing : kept_schema store.saved store.schema.items ≡ laid_out =
    ap (λ o. kept_schema o store.schema.items) e.ready.unaltered ∙ e.schema ∙ c.read_catalog.ensures.schema ∙ made.schema in
    cond-true _ (file_trees (state store).page_size (kept_schema store.saved store.schema.items) (state store).committed) no_trees now
    ∙ ap₂ (λ n s. file_trees n s (state store).committed) sizes listing ∙ ap (λ p. file_trees held.holds.size laid_out p) (sym (early ∙ same)) ∙ sym held.holds.reads ∙ x.1)
