use Rattle.merkle_wire.proofs.Exchanges.{key_tells}
use Rattle.merkle_wire.proofs.ToldAlike.{items_alike}
use Rattle.merkle_wire.proofs.laws.equal_bytes_are_told_alike.Goals as goal

pub returns : goal.returns
returns g c =
    items_alike g.K.Ord.cmp g.met.K.Ord.total g.K.Encode.encoding g.V.Encode.encoding (key_tells g.K.Ord.cmp g.K.Encode.encoding g.K.PartialEq.eq g.met.K.Ord.matches_eq g.met.K.Decode.told)
