use Rattle.mst_words.proofs.HashKeyLemmas.{no-hash-key}
use Rattle.mst_words.proofs.hash_key.hash_key_of.Goals as goal

-- what is read as no number is no key
pub returns-in_default : goal.returns-in_default
returns-in_default c = no-hash-key c.args.word.now c.in_default.ensures.value
