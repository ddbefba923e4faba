-- Catch-ups of two replicas of which it was first decided whether digests are faithful.
use Rattle.std.specs.Prelude.{◌≡◌, Bool, IsTrue}
use Rattle.key_order.specs.Join.{IsJoin}
use Rattle.merkle_replica.specs.Contents.{Contents, side}
use Rattle.merkle_replica.specs.Laws.{Laws}
use Rattle.merkle_wire.specs.Sessions.{IsMessagesRefused}
use Rattle.examples.specs.declared.audited.AuditedError.{AuditedError}
use Rattle.examples.specs.declared.audited.AuditedError.TheVariants.{Audit, CatchUp}

module _ {K V H : Type 0} (laws : Laws K V H) (replica peer after : Contents K V H) where
  -- where the answer is true, the rows are the join of both sides' rows
  abbrev pub IsTrueOfAJoin : Bool → Type 0
  IsTrueOfAJoin answer = IsTrue answer → IsJoin laws.cmp laws.eq laws.join replica.rows peer.rows after.rows

  -- the rows are as before, or a catch-up by messages ended early
  abbrev pub StopsAudited : AuditedError → Type 0
  StopsAudited Audit = after.rows ≡ replica.rows
  StopsAudited (CatchUp error) = IsMessagesRefused laws (side replica) (side peer) error after.rows
