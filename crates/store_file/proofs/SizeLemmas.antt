-- The probe finds the page size of files that hold a store.
use Rattle.std.proofs.Common.{◌≡◌, ℕ, ◌%◌, Option, Some, sym, subst, ◌∙◌, inl, inr, arith, ne_eqb}
use Rattle.std.proofs.lemmas.Bool.{cases_eq}
use Rattle.sqlite_wal.specs.declared.page_size.PageSize.{PageSize}
use Rattle.sqlite_wal.specs.Format.{be32}
use Rattle.sqlite_wal.specs.Recovery.{Image, IsIgnored}
use Rattle.sqlite_wal.specs.PageSize.{bytes_of, size_in_file, Names, IsPageSize}
use Rattle.sqlite_pool.specs.Stored.{stored_size}
use Rattle.sqlite_pool.proofs.ProbeLemmas.{size_by_log, size_by_file}
use Rattle.sqlite_pool.proofs.ResealLemmas.{adopts_of}
use Rattle.store_file.specs.Files.{HoldsStore}

pub whole_size : (size : ℕ) → IsPageSize size → stored_size size ≡ size
whole_size size allowed = rw (ne_eqb (size % 16) 8 (omega (arith, allowed.3))) (omega arith)

module _ (image : Image) (found : Option PageSize) (by_log : ¬ IsIgnored image.log → Names found (be32 image.log 8)) (by_file : IsIgnored image.log → Names found (size_in_file image.db))
    (held : HoldsStore image) where
  names : ¬ (¬ Names found (stored_size held.holds.size))
  names never =
      let h = held.holds in
      let adopted = adopts_of h.size image h.pages h.found in
      let read = λ (seen : ¬ IsIgnored image.log). never (subst (Names found) (size_by_log h.size image h.pages adopted seen) (by_log seen)) in
      read (λ ignored. never (subst (Names found) (size_by_file h.size image h.pages adopted (omega (arith, held.plain)) h.file.sound ignored) (by_file ignored)))

  pub probe_size : (size : PageSize) → found ≡ Some size → held.holds.size ≡ bytes_of size
  probe_size size is =
      let whole = whole_size held.holds.size held.plain in
      elim (cases_eq held.holds.size (bytes_of size)) [ inl same ↦ same | inr other ↦ absurd (names (λ named. other (sym whole ∙ sym (rw is at named.1)))) ]
