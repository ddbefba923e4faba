use Rattle.std.proofs.Common.{map, ◌∙◌, arith}
use Rattle.std.proofs.lemmas.List.{length-map}
use Rattle.key_order.proofs.Joins.{same_joins}
use Rattle.merkle_replica.specs.Answers.{answer_of}
use Rattle.examples.proofs.sync.sync.Goals as goal

-- two joins of the same maps are the same map
pub returns : goal.returns
returns g c = rw g.met.H.RowHasher.laws_are (
    let (met, turns, all) = (rw g.met.H.RowHasher.laws_are at c.in_ok-pull_by_turns.ensures.turns) in record {
      same = record {
        answers = map answer_of c.in_ok-pull_by_turns.field-0.items;
        met = met;
        four = length-map c.in_ok-pull_by_turns.field-0.items answer_of ∙ c.in_ok-pull_by_turns.ensures.length;
        pulls = turns;
        outcome = λ faith.
            let (first, second) = all faith (omega arith) in record {
              first = first;
              second = second;
              same = same_joins g.K.Ord.cmp g.met.K.Ord.total g.V.PartialEq.eq g.met.V.Eq.laws g.V.Join.join_of g.met.V.Join.joining c.args.a.now.rows c.args.b.now.rows
                  c.pull_by_turns.new.a.rows c.pull_by_turns.new.b.rows first second;
            };
      };
      stopped = tt;
      a_settings = c.in_ok-pull_by_turns.ensures.a_settings;
      b_settings = c.in_ok-pull_by_turns.ensures.b_settings;
    })
