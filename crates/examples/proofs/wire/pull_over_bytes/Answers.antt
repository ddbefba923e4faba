use Rattle.std.proofs.Common.{subst, inl, inr, ◌∙◌}
use Rattle.merkle_replica.specs.Contents.{side}
use Rattle.merkle_replica.proofs.SideLaws.{same_side}
use Rattle.examples.specs.PullMessages.{AsksByMessage, SendsRows, JoinsSpelledRows, JoinsFirstRows}
use Rattle.examples.proofs.Outcomes.{on_ok, on_err, either}
use Rattle.examples.proofs.wire.pull_over_bytes.Goals as goal

-- each message is of a side as it was
pub returns-clause-pulled : goal.returns-clause-pulled
returns-clause-pulled c =
    let local = c.args.local.now in
    let peer = c.args.peer.now in
    let ranges = c.in_ok-page_ranges.page_ranges.items in
    let asked = c.in_ok-asked.asked.items in
    let rows = c.in_ok-rows.rows.items in
    let same_local = same_side local c.ask.new.store c.in_ok-asked.ensures.rows c.in_ok-asked.ensures.settings in
    let same_peer = same_side peer c.send_page_ranges.new.store c.in_ok-page_ranges.ensures.rows c.in_ok-page_ranges.ensures.settings in
    let asks = subst (λ bytes. AsksByMessage (side local) bytes asked) c.deref.ensures.value c.in_ok-asked.ensures.asked in
    let sends = subst (λ s. SendsRows s asked rows) same_peer (subst (λ bytes. SendsRows (side c.send_page_ranges.new.store) bytes rows) c.deref-2.ensures.value c.in_ok-rows.ensures.sent) in
    on_ok c.join.result _ _
    (λ j. c.messages_are_a_pull.ensures.pull (side local) (side peer) ranges asked rows c.join.new.store.rows c.rows.ensures.ascending c.in_ok-page_ranges.ensures.message asks sends
    (subst (λ s. JoinsSpelledRows s rows c.join.new.store.rows) same_local
    (subst (λ bytes. JoinsSpelledRows (side c.ask.new.store) bytes c.join.new.store.rows) c.deref-3.ensures.value j))) c.join.ensures.joined

-- where the first rows were joined, they are those of a pull
pub returns-clause-refused : goal.returns-clause-refused
returns-clause-refused c =
    let local = c.args.local.now in
    let peer = c.args.peer.now in
    let ranges = c.in_ok-page_ranges.page_ranges.items in
    let asked = c.in_ok-asked.asked.items in
    let rows = c.in_ok-rows.rows.items in
    let stays = c.in_ok-asked.ensures.rows in
    let same_local = same_side local c.ask.new.store stays c.in_ok-asked.ensures.settings in
    let same_peer = same_side peer c.send_page_ranges.new.store c.in_ok-page_ranges.ensures.rows c.in_ok-page_ranges.ensures.settings in
    let asks = subst (λ bytes. AsksByMessage (side local) bytes asked) c.deref.ensures.value c.in_ok-asked.ensures.asked in
    let sends = subst (λ s. SendsRows s asked rows) same_peer (subst (λ bytes. SendsRows (side c.send_page_ranges.new.store) bytes rows) c.deref-2.ensures.value c.in_ok-rows.ensures.sent) in
    on_err c.join.result _ _
    (either
    (λ same. inl (same ∙ stays))
    (λ j. inr (c.messages_are_a_pull.ensures.part (side local) (side peer) ranges asked rows c.join.new.store.rows c.rows.ensures.ascending c.in_ok-page_ranges.ensures.message asks sends
    (subst (λ s. JoinsFirstRows s rows c.join.new.store.rows) same_local
    (subst (λ bytes. JoinsFirstRows (side c.ask.new.store) bytes c.join.new.store.rows) c.deref-3.ensures.value j))))) c.join.ensures.refused
