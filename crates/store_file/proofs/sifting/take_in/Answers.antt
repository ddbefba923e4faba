use Rattle.std.proofs.Common.{ap, inl, length}
use Rattle.store_file.proofs.Outcomes.{on_ok}
use Rattle.store_file.proofs.sifting.take_in.Goals as goal

pub returns-in-Ok-clause-taken : goal.returns-in-Ok-clause-taken
returns-in-Ok-clause-taken c =
    on_ok c.add_entry.result _ _ (λ more. inl (c.in-Ok.entry, (c.in-Ok.ensures.entry, c.in-Ok.ensures.formed), more, ap (λ v. length v.items) c.add_entry.ensures.bad)) c.add_entry.ensures.more
