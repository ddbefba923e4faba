use Rattle.std.specs.String.{string_cmp_total}
use Rattle.store_file.specs.contracts.register.RegisterEq.TheImpl.Laws.{laws-law}
use Rattle.store_file.specs.contracts.register.RegisterOrd.TheImpl.Laws.{total-law, matches_eq-law}
use Rattle.store_file.specs.contracts.registers.RegisterJoin.TheImpl.Laws.{joining-law}
use Rattle.merkle_store.proofs.Found.{found_kept}
use Rattle.merkle_store.proofs.laws.what_is_found_is_kept.Goals as goal

pub returns : goal.returns
returns c = λ writer trees rows kept key found latest. found_kept total-law _ laws-law joining-law string_cmp_total matches_eq-law key writer trees rows found kept latest
