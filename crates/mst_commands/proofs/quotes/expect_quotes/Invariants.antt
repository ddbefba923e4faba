use Rattle.std.proofs.Common.{◌≡◌, drop}
use Rattle.mst_commands.specs.Quotes.{end_place}
use Rattle.mst_commands.specs.declared.quotes.Place.TheVariants.{Start}
use Rattle.mst_commands.proofs.quotes.expect_quotes.Given as goal

-- the bytes that are left lead from here to where all of them lead
abbrev pub invariant-bytes : goal.invariant-bytes
invariant-bytes l = end_place l.text Start ≡ end_place (drop l.byte-index l.text) l.place
