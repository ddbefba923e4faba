use Rattle.std.proofs.Common.{◌≡◌, ◌-◌, List, length, filter_map}
use Rattle.std.specs.Io.KnownBytes.{Appends}
use Rattle.key_order.specs.Text.{Text as Key}
use Rattle.store_file.specs.Reading.{IsWalked}
use Rattle.store_file.specs.declared.register.Register.{Register}
use Rattle.mst_commands.specs.Lines.{pair_within, list_of}
use Rattle.mst_commands.proofs.reading.list.Given as goal

-- the list of the rows so far was written
abbrev pub invariant-rows : goal.invariant-rows
invariant-rows g l =
    (given : List (Key × Register)) × IsWalked g.S.Store l.fn.log l.log l.walk given × Appends (g.W.Write.contents l.initial.out) (g.W.Write.contents l.out) (list_of l.listing given)
    × (l.left ≡ l.listing.limit - length (filter_map (pair_within l.listing.bounds) given))
