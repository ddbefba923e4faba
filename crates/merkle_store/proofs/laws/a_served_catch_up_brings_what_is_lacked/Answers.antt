use Rattle.merkle_store.proofs.Bringing.{replies_bring}
use Rattle.merkle_store.proofs.laws.a_served_catch_up_brings_what_is_lacked.Goals as goal

pub returns : goal.returns
returns c local peer most its_most before after its_before its_after entries caught_up served up up_peer small none =
    replies_bring _ _ _ _ c.what_is_told_is_heard.ensures c.a_session_is_a_catch_up.ensures.brings local peer caught_up.session caught_up.question.items caught_up.exchanges entries up up_peer small
    caught_up.begins caught_up.leads served.replies none
