use Rattle.std.proofs.Common.{◌≡◌, Some, None, ap, sym, ◌∙◌}
use Rattle.merkle_replica.proofs.Descents.{some_is}
use Rattle.merkle_replica.proofs.replica.Replica.has_digest.Goals as goal

pub returns-in-Some : goal.returns-in-Some
returns-in-Some g c = rw g.met.H.RowHasher.laws_are ((
  λ t. sym (rw g.met.H.RowHasher.laws_are at c.in-Some.ensures) ∙ ap Some (c.eq.ensures.same_bytes.0 t),
  λ e. c.eq.ensures.same_bytes.1 (some_is _ _ ((rw g.met.H.RowHasher.laws_are at c.in-Some.ensures) ∙ e)),
))

pub returns-in-None : goal.returns-in-None
returns-in-None g c = rw g.met.H.RowHasher.laws_are (
    (λ t. absurd (cc), λ e. let never : None ≡ Some c.args.digest.now = (rw g.met.H.RowHasher.laws_are at c.in-None.ensures) ∙ e in absurd (cc)))
