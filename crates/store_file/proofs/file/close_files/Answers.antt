use Rattle.store_file.proofs.file.close_files.Goals as goal

pub returns-then-is_store-clause-copied : goal.returns-then-is_store-clause-copied
returns-then-is_store-clause-copied g c = c.in_ok-files.ensures.copied c.if-is_store.true

pub returns-then-is_store-clause-honest : goal.returns-then-is_store-clause-honest
returns-then-is_store-clause-honest g c = c.in_ok-files.ensures.honest
