use Rattle.std.proofs.Common.{◌≡◌, ℕ, subst₂, ap, ◌∙◌, ◌⊎◌, rules, lit<}
use Rattle.std.proofs.Math.Logic.{∥∥₁_map}
use Rattle.sqlite_pages.specs.PageMap.{PageMap}
use Rattle.sqlite_wal.specs.Files.{seen_image}
use Rattle.sqlite_wal.specs.PageSize.{bytes_of}
use Rattle.sqlite_wal.specs.Recovery.{Image}
use Rattle.sqlite_pool.specs.Opening.{IsBlankFile}
use Rattle.sqlite_pool.specs.Stored.{Recovers}
use Rattle.sqlite_store.specs.Opening.{IsEmptyFile}
use Rattle.store_file.proofs.StoreLemmas.{clean_files, is_laid_out}
use Rattle.store_file.proofs.file.create.Goals as goal

pub returns-in-Ok-clause-honest : goal.returns-in-Ok-clause-honest
returns-in-Ok-clause-honest g c = λ now. clean_files c.in_ok-fresh.fresh c.args.files c.in_ok-fresh.ensures.files (c.in-Ok.ensures.honest now)

pub returns-in-Ok-clause-laid_out : goal.returns-in-Ok-clause-laid_out
returns-in-Ok-clause-laid_out g c = is_laid_out c.in-Ok.store c.in-Ok.ensures.ready (c.in-Ok.ensures.schema ∙ c.in_ok-fresh.ensures.schema)

pub returns-in-Ok-clause-entries : goal.returns-in-Ok-clause-entries
returns-in-Ok-clause-entries g c clean = c.in-Ok.ensures.empty clean 0 (lit< tt)

pub returns-in-Ok-clause-about : goal.returns-in-Ok-clause-about
returns-in-Ok-clause-about g c clean = c.in-Ok.ensures.empty clean 1 (lit< tt)

pub returns-in-Ok-clause-cells : goal.returns-in-Ok-clause-cells
returns-in-Ok-clause-cells g c clean = c.in-Ok.ensures.empty clean 2 (lit< tt)

pub returns-in-Ok-clause-nothing : goal.returns-in-Ok-clause-nothing
returns-in-Ok-clause-nothing g c clean =
    let made = c.in_ok-fresh.ensures in
    let new_size : bytes_of c.unwrap-size.result ≡ 4096 = search rules in
    let Nothing : ℕ → Image → Type 0 = λ n i. IsBlankFile n i ⊎ ((pages : PageMap) × Recovers n i pages × IsEmptyFile n pages) in
    ∥∥₁_map (c.in-Ok.ensures.started clean) (subst₂ Nothing (made.size ∙ new_size) (ap (λ f. seen_image g.D.Disk f.0 f.1) made.files))
