use Rattle.std.proofs.Common.{map, ap, sym, ◌∙◌}
use Rattle.std.specs.String.{string_cmp_total}
use Rattle.store_file.specs.Entries.{note_in}
use Rattle.store_file.specs.contracts.register.RegisterEq.TheImpl.Laws.{laws-law}
use Rattle.store_file.specs.contracts.register.RegisterOrd.TheImpl.Laws.{matches_eq-law}
use Rattle.store_file.specs.contracts.registers.RegisterJoin.TheImpl.Laws.{joining-law}
use Rattle.merkle_store.proofs.Keeping.{kept_all}
use Rattle.merkle_store.proofs.laws.what_is_added_is_joined.Goals as goal

pub returns : goal.returns
returns c = λ entries old new rows now more kept joins writer hash_key noted.
    let before = sym (ap (map note_in) more.about) ∙ noted in
    kept_all _ laws-law _ joining-law string_cmp_total matches_eq-law writer old new entries rows now (kept writer hash_key before) more joins
