use Rattle.std.proofs.Common.{ap, flat_map, refl}
use Rattle.std.proofs.lemmas.Result.{IfOk-weaker}
use Rattle.merkle_replica.specs.Faithful.{IsFaithful}
use Rattle.merkle_audit.proofs.Sides.{as_before}
use Rattle.merkle_audit.proofs.faithful.is_faithful_session.Goals as goal

pub returns-clause-told : goal.returns-clause-told
returns-clause-told g c =
    let nodes = c.in_ok-have_faithful_nodes.ensures in
    IfOk-weaker c.are_faithful.result _ _ (λ is told yes. record {
      faithful = as_before c.args.local.now c.args.peer.now c.args.local.now c.have_faithful_nodes.new.peer refl (refl, refl, refl) nodes.rows nodes.settings
          (IsFaithful g.H.RowHasher.laws) (told yes);
      nodes = nodes.told c.if-not-branch.false;
      values = c.digest_their_values_alike.ensures.0 c.if-not-digest_their_values_alike.false;
    }) c.are_faithful.ensures.told

pub returns-clause-apart : goal.returns-clause-apart
returns-clause-apart g c =
    IfOk-weaker c.are_faithful.result _ _ (λ is told yes ds es one. ap (flat_map (λ d. d)) (c.in_ok-have_faithful_nodes.ensures.told c.if-not-branch.false ds es one)) c.are_faithful.ensures.told
