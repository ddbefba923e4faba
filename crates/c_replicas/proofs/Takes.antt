-- Rows that came are joined to those that were there when the reply came.
use Rattle.std.proofs.Common.{ℕ, List, ap, subst, take, ◌∙◌}
use Rattle.std.specs.Global.{Vec}
use Rattle.key_order.specs.Join.{IsJoin}
use Rattle.merkle_wire.specs.declared.catching_up.Next.TheVariants.{Came}
use Rattle.c_replicas.specs.Calls.{HasTaken, JoinsOrCuts, IsOver, IsTaken, JoinsRows, SameRows, SameTalk}
use Rattle.c_rows.specs.Values.{byte_laws}
use Rattle.c_replicas.specs.declared.byte_replica.ByteReplica.{ByteReplica}
use Rattle.c_replicas.specs.declared.byte_replica.Taken.{Taken}
use Rattle.c_replicas.specs.declared.byte_replica.Taken.TheVariants.{Asks, Joined, Cut, Failed}
use Rattle.c_rows.specs.declared.value.ByteValue.{ByteValue}

module _ (old mid new : ByteReplica) (same : SameRows old mid) where
  joins_since : (rows : List (Vec ℕ × ByteValue)) → JoinsRows rows mid new → JoinsRows rows old new
  joins_since rows joins = record {
    rows = subst (λ before. IsJoin byte_laws.cmp byte_laws.eq byte_laws.join before rows new.replica.rows) same.rows joins.rows;
    settings = (joins.settings.0 ∙ same.settings.0, joins.settings.1 ∙ same.settings.1, joins.settings.2 ∙ same.settings.2);
  }

  over_since : IsOver mid → SameTalk mid new → IsOver new
  over_since over talk = (talk.0 ∙ over.0, ap (λ message. message.items) talk.1 ∙ over.1)

  -- what is done with a reply is what is done with the rows that came
  pub came_taken : (reply : List ℕ) (rows : Vec (Vec ℕ × ByteValue)) (taken : Taken) → HasTaken reply (Came rows) old → IsOver mid
      → JoinsOrCuts rows.items taken mid new → IsTaken reply taken old new
  came_taken reply rows Asks came over join = absurd join
  came_taken reply rows (Joined count) came over join = record {
    rows = rows;
    taken = came;
    counted = join.0;
    joins = joins_since rows.items join.1;
    over = over_since over join.2;
  }
  came_taken reply rows (Cut count) came over join = record {
    rows = rows;
    taken = came;
    part = join.0;
    joins = joins_since (take count rows.items) join.1;
    none = λ zero. join.2 zero ∙ same.rows;
    over = over_since over join.3;
  }
  came_taken reply rows (Failed status) came over join = absurd join
