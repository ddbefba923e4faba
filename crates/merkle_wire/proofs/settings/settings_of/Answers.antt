use Rattle.merkle_wire.specs.Sessions.{IsKeyOf}
use Rattle.merkle_wire.proofs.OwnKeys.{settings_with_key}
use Rattle.merkle_wire.proofs.settings.settings_of.Goals as goal

pub returns-clause-keys : goal.returns-clause-keys
returns-clause-keys g c = λ sound.
    settings_with_key (IsKeyOf g.K.Ord.cmp (g.T.KeptTree.kept c.args.tree.now).digests.map) c.in_ok-settings.settings c.in_ok-key.key
    c.in_ok-settings.ensures.few c.in_ok-settings.ensures.sample (c.in_ok-key.ensures.key sound)
