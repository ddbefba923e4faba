use Rattle.std.proofs.Common.{◌∙◌, ◌++◌, [], Option, Some, None, refl, sym, subst, arith}
use Rattle.std.specs.List.{cons_option}
use Rattle.std.proofs.lemmas.List.{append-nil}
use Rattle.key_order.specs.Text.{Text as Key}
use Rattle.store_file.specs.declared.reader.Walk.{Walk}
use Rattle.store_file.specs.declared.register.Register.{Register}
use Rattle.store_file.specs.Logs.{IsClean}
use Rattle.store_file.specs.Reading.{TakesEntry, EndsGroup, ReadsOn, IsWalked}
use Rattle.store_file.proofs.Reading.{walks_on, walks_out, walks_all}
use Rattle.store_file.proofs.Walking.{stays_then, steady_then, no_more_then}
use Rattle.store_file.proofs.reader.next_latest.Goals as goal

pub returns-in_default-clause-walked : goal.returns-in_default-clause-walked
returns-in_default-clause-walked g c start given was =
    let s = g.S.Store in
    let old = c.entries.log in
    let new = c.next_entry.new.log in
    let did = c.in_ok-entry.ensures in
    let after : Walk = record { row = c.next_entry.new.row; ahead = c.take.new.self; count = c.entries.walk.count } in
    subst (λ (o : Option (Key × Register)). IsWalked s start new after (given ++ cons_option o [])) (sym c.take.ensures.value)
    (walks_out s start old new c.entries.walk after given c.next_entry.ensures.reads.steady (subst (ReadsOn s old new) c.in_default.is did.read)
    (subst (λ o. IsClean s new → TakesEntry (s.view old) (s.view new) o) c.in_default.is did.taken) c.take.ensures.after refl (c.entries.invariant.walked start given was))

pub returns-in_default-clause-all : goal.returns-in_default-clause-all
returns-in_default-clause-all g c none clean start given was =
    let s = g.S.Store in
    let old = c.entries.log in
    let new = c.next_entry.new.log in
    walks_all s start old new c.entries.walk given clean c.next_entry.ensures.reads.steady (c.in_ok-entry.ensures.all c.in_default.is)
    (sym c.take.ensures.value ∙ none) (c.entries.invariant.walked start given was)

pub returns-in-Some-take_in-clause-walked : goal.returns-in-Some-take_in-clause-walked
returns-in-Some-take_in-clause-walked g c start given was =
    let s = g.S.Store in
    let old = c.entries.log in
    let new = c.next_entry.new.log in
    let did = c.in_ok-entry.ensures in
    walks_on s start old new c.entries.walk c.take_in.new.walk given c.in-Some.entry (Some c.in-Some-take_in.last) c.next_entry.ensures.reads.steady (subst (ReadsOn s old new) c.in-Some.is did.read)
    (subst (λ o. IsClean s new → TakesEntry (s.view old) (s.view new) o) c.in-Some.is did.taken)
    (subst (λ o. EndsGroup o c.take_in.new.walk.ahead c.in-Some.entry (Some c.in-Some-take_in.last)) c.count_one.ensures.ahead c.in-Some-take_in.ensures.ended)
    (c.take_in.ensures.count ∙ c.in_ok-count_one.ensures.counted) (c.entries.invariant.walked start given was)

pub entries-preserved : goal.entries-preserved
entries-preserved g c =
    let s = g.S.Store in
    let view = s.view in
    let first = c.args.log.now in
    let old = c.entries.log in
    let new = c.next_entry.new.log in
    let did = c.in_ok-entry.ensures in
    let kept = c.entries.invariant in
    let early : IsClean s new → IsClean s old = λ clean. omega (arith, c.next_entry.ensures.reads.steady.clean, clean) in
    record {
      live = did.live;
      walked = λ start given was.
          subst (IsWalked s start new c.take_in.new.walk) (append-nil given)
          (walks_on s start old new c.entries.walk c.take_in.new.walk given c.in-Some.entry None c.next_entry.ensures.reads.steady (subst (ReadsOn s old new) c.in-Some.is did.read)
          (subst (λ o. IsClean s new → TakesEntry (s.view old) (s.view new) o) c.in-Some.is did.taken)
          (subst (λ o. EndsGroup o c.take_in.new.walk.ahead c.in-Some.entry None) c.count_one.ensures.ahead c.in_default-take_in.ensures.ended)
          (c.take_in.ensures.count ∙ c.in_ok-count_one.ensures.counted) (kept.walked start given was));
      same = λ clean. stays_then (view first) (view old) (view new) (kept.same (early clean)) (did.same clean);
      steady = steady_then s first old new kept.steady c.next_entry.ensures.reads.steady;
      crash = no_more_then s first old new kept.crash c.next_entry.ensures.reads.crash;
    }
