use Rattle.std.proofs.Common.{◌≤◌, All, take}
use Rattle.key_order.specs.Text.{Text as Key}
use Rattle.store_file.specs.declared.register.Register.{Register}
use Rattle.mst_commands.proofs.writing.not_above.Given as goal

-- none so far is too late
abbrev pub invariant-entries : goal.invariant-entries
invariant-entries l = All (λ (entry : Key × Register). entry.1.time ≤ l.latest) (take l.entry-index l.entries)
