use Rattle.std.proofs.Common.{refl}
use Rattle.store_file.proofs.StoreLemmas.{never_clean}
use Rattle.mst_files.proofs.opening.log_at.Goals as goal

pub over-requires : goal.over-requires
over-requires c = record {
  tables = λ clean. absurd (never_clean c.in_ok-opened.field-0 (λ _. refl) clean);
  rest = λ clean o. absurd (never_clean c.in_ok-opened.field-0 (λ _. refl) clean);
}
