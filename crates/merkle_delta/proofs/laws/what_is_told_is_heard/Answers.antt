use Rattle.merkle_delta.proofs.HeardReplies.{told_is_heard}
use Rattle.merkle_delta.proofs.laws.what_is_told_is_heard.Goals as goal

pub returns : goal.returns
returns c = told_is_heard
