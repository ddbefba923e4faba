use Rattle.std.proofs.Common.{refl}
use Rattle.store_file.proofs.StoreLemmas.{never_clean}
use Rattle.mst_files.proofs.making.fill_file.Goals as goal

pub over-log-requires : goal.over-log-requires
over-log-requires c = record {
  tables = λ clean. absurd (never_clean c.in_ok-create.field-0 (λ _. refl) clean);
  rest = λ clean o. absurd (never_clean c.in_ok-create.field-0 (λ _. refl) clean);
}
