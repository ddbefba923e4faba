use Rattle.merkle_store.proofs.serving.answer.Goals as goal

pub returns-in-Ok-tell-clause-answered : goal.returns-in-Ok-tell-clause-answered
returns-in-Ok-tell-clause-answered g c = λ sound. record {
  checksums = c.in-Ok.read.0;
  question = c.in-Ok.read.1.now;
  plain = c.in_ok-plain.plain;
  asked = c.in-Ok.ensures.asked;
  answered = c.in_ok-plain.ensures.answered sound;
  told = c.in-Ok-tell.ensures;
}
