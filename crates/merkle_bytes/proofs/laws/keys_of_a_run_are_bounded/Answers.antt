use Rattle.merkle_bytes.proofs.KeySizes.{key_bounded, rows_bounded}
use Rattle.merkle_bytes.proofs.laws.keys_of_a_run_are_bounded.Goals as goal

pub returns-clause-more : goal.returns-clause-more
returns-clause-more g c = λ last key. (key_bounded last key).0

pub returns-clause-times : goal.returns-clause-times
returns-clause-times g c = λ last key. (key_bounded last key).1

pub returns-clause-rows : goal.returns-clause-rows
returns-clause-rows g c = λ last rows. rows_bounded g.K.Encode.encoding g.V.Encode.encoding last rows
