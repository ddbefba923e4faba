use Rattle.store_tree.proofs.Texts.{tells_alike}
use Rattle.store_tree.proofs.laws.texts_tell_alike.Goals as goal

pub returns : goal.returns
returns c = tells_alike
