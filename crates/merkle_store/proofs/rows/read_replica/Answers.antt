use Rattle.std.specs.String.{string_cmp_total}
use Rattle.store_file.specs.contracts.register.RegisterEq.TheImpl.Laws.{laws-law}
use Rattle.store_file.specs.contracts.registers.RegisterJoin.TheImpl.Laws.{joining-law}
use Rattle.store_file.specs.Logs.{trees_of}
use Rattle.store_file.proofs.Outcomes.{if_ok}
use Rattle.merkle_store.proofs.Keeping.{kept_read}
use Rattle.merkle_store.proofs.rows.read_replica.Goals as goal

pub returns-clause-kept : goal.returns-clause-kept
returns-clause-kept g c clean =
    if_ok c.replica_of.result _ _ (λ replica puts writer hash_key about. kept_read _ laws-law _ joining-law string_cmp_total writer hash_key
    (trees_of g.S.Store c.args.log.now) c.in_ok-entries.entries.items replica.rows about (c.in_ok-entries.ensures.held clean) puts)
    c.replica_of.ensures.puts
