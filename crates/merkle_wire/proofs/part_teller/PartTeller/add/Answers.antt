use Rattle.std.proofs.Common.{sym, arith}
use Rattle.merkle_wire.proofs.PartsTold.{one_told}
use Rattle.merkle_wire.proofs.part_teller.PartTeller.add.Goals as goal

pub returns : goal.returns
returns g c =
    let was = c.self.inside in
    let wrote = c.in_ok-encode_behind.ensures in
    rw (sym c.self.view_is) (one_told g.K.Encode.encoding g.V.Encode.encoding (record { room = was.room; count = was.count; last = was.run; bytes = was.bytes.items }) c.args.row.now
    c.in-Some.count c.len.result c.encode_behind.new.run c.encode_behind.new.bytes.items (omega (arith, c.in-Some.ensures)) wrote.last wrote.written (omega (arith, c.len.ensures)))
