use Rattle.std.proofs.lemmas.Str.{IsUtf8-from_ascii}
use Rattle.std.proofs.lemmas.Fmt.{IsAscii-from_digits}
use Rattle.mst_pair.proofs.number.number_of.Goals as goal

-- digits are text
pub returns-in_default : goal.returns-in_default
returns-in_default c = λ n number. c.in_default.ensures.cases.0 (IsUtf8-from_ascii c.args.digits.now (IsAscii-from_digits c.args.digits.now number.numeral.1))
