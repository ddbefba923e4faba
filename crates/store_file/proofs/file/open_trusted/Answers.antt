use Rattle.std.proofs.Common.{◌≡◌, sym, ap, ap₂, subst, ◌∙◌, refl}
use Rattle.std.proofs.Math.Logic.{∥∥₁_elim, ∥∥₁_map}
use Rattle.std.proofs.Math.Path.{subst₃}
use Rattle.std.proofs.lemmas.Bool.{cond-true}
use Rattle.sqlite_wal.specs.Files.{seen_image}
use Rattle.sqlite_wal.proofs.CleanLemmas.{both_clean}
use Rattle.sqlite_pages.specs.PageMap.{PageMap}
use Rattle.sqlite_pool.specs.Stored.{Recovers}
use Rattle.sqlite_pool.specs.StoredLaws.{recovers_once}
use Rattle.sqlite_trees.specs.Props.{Trees-set}
use Rattle.sqlite_trees.specs.Tree.{no_trees}
use Rattle.sqlite_store.specs.Db.{IsFile}
use Rattle.sqlite_store.specs.FileStore.{state}
use Rattle.sqlite_store.specs.Listing.{file_trees}
use Rattle.sqlite_store.specs.Saved.{kept_schema}
use Rattle.sqlite_store.specs.Unopened.{state_of, wanted_by, image}
use Rattle.store_file.specs.Catalog.{laid_out}
use Rattle.store_file.specs.Files.{image_of}
use Rattle.store_file.proofs.StoreLemmas.{clean_files, same_image, is_laid_out}
use Rattle.store_file.proofs.TakenRecovery.{recovers_to_file}
use Rattle.store_file.proofs.file.open_trusted.Goals as goal

pub open_trusted-requires-clause-sound : goal.open_trusted-requires-clause-sound
open_trusted-requires-clause-sound g c =
    λ clean.
    let fresh = c.in_ok-fresh.fresh in
    let size = (state_of fresh).page_size in
    let made = c.in_ok-fresh.ensures in
    let read = c.find_size.ensures in
    let later = clean_files fresh c.find_size.new.files made.files clean in
    let held = c.requires.sound (both_clean _ _ _ _ read.log.clean read.file.clean later) in
    let seen : image fresh ≡ image_of g.D.Disk c.args.files = ap (λ f. seen_image g.D.Disk f.0 f.1) made.files ∙ same_image read.log read.file in
    recovers_to_file size (image fresh) (wanted_by fresh) (∥∥₁_map held (λ h.
    let sized = c.in_ok-size.ensures.named later h ∙ sym made.size in
    let r : (pages : PageMap) × Recovers size (image fresh) pages × IsFile size (wanted_by fresh) pages = (
      h.holds.pages,
      subst (λ i. Recovers size i h.holds.pages) (sym seen) (subst (λ n. Recovers n (image_of g.D.Disk c.args.files) h.holds.pages) sized h.holds.found),
      subst₃ IsFile sized (sym made.schema) refl h.holds.file,
    ) in r))

pub returns-in-Ok-clause-honest : goal.returns-in-Ok-clause-honest
returns-in-Ok-clause-honest g c =
    λ now.
    let read = c.find_size.ensures in
    both_clean _ _ _ _ read.log.clean read.file.clean (clean_files c.in_ok-fresh.fresh c.find_size.new.files c.in_ok-fresh.ensures.files (c.in-Ok.ensures.honest now))

pub returns-in-Ok-clause-laid_out : goal.returns-in-Ok-clause-laid_out
returns-in-Ok-clause-laid_out g c = is_laid_out c.in-Ok.store c.in-Ok.ensures.ready (c.in-Ok.ensures.schema ∙ c.in_ok-fresh.ensures.schema)

pub returns-in-Ok-clause-found : goal.returns-in-Ok-clause-found
returns-in-Ok-clause-found g c =
    λ now db there. ∥∥₁_elim there (Trees-set _ _) (λ x.
    let held = x.0 in
    let start = image_of g.D.Disk c.args.files in
    let fresh = c.in_ok-fresh.fresh in
    let size = (state_of fresh).page_size in
    let made = c.in_ok-fresh.ensures in
    let read = c.find_size.ensures in
    let opened = c.in-Ok.ensures in
    let store = c.in-Ok.store in
    let later = clean_files fresh c.find_size.new.files made.files (opened.honest now) in
    let seen : image fresh ≡ start = ap (λ f. seen_image g.D.Disk f.0 f.1) made.files ∙ same_image read.log read.file in
    let sized : held.holds.size ≡ size = c.in_ok-size.ensures.named later held ∙ sym made.size in
    let same : held.holds.pages ≡ (state store).committed =
    recovers_once size start _ _ (subst (λ n. Recovers n start held.holds.pages) sized held.holds.found)
    (subst (λ i. Recovers size i (state store).committed) seen (opened.found now)) in
    let sizes : (state store).page_size ≡ held.holds.size = (opened.kept now).size ∙ sym sized in
    let listing : kept_schema store.saved store.schema.items ≡ laid_out =
    ap (λ o. kept_schema o store.schema.items) opened.ready.unaltered ∙ opened.schema ∙ made.schema in
    cond-true _ (file_trees (state store).page_size (kept_schema store.saved store.schema.items) (state store).committed) no_trees now
    ∙ ap₂ (λ n s. file_trees n s (state store).committed) sizes listing ∙ ap (λ p. file_trees held.holds.size laid_out p) (sym same) ∙ sym held.holds.reads ∙ x.1)
