use Rattle.mst_words.proofs.SpanLemmas.{span-of}
use Rattle.mst_words.proofs.span.milliseconds_of.Goals as goal

pub returns-in_default : goal.returns-in_default
returns-in_default c = λ span is. c.in_default.ensures is.0 is.1 is.2

pub returns : goal.returns
returns c = span-of c.args.word.now c.in-Some.count.now c.in-Some.unit c.many_of.result c.in-Some.ensures c.many_of.ensures
