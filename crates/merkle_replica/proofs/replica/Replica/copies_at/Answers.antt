use Rattle.std.proofs.Common.{rules, [], sym, subst}
use Rattle.std.proofs.lemmas.List.{take_all}
use Rattle.key_order.specs.Map.{IsPresent, get}
use Rattle.merkle_replica.specs.CatchUp.{AreCopies}
use Rattle.merkle_replica.specs.Descent.{keys_of}
use Rattle.merkle_replica.proofs.RowCopies.{copies_step, key_at}
use Rattle.merkle_replica.proofs.replica.Replica.copies_at.Goals as goal

pub keys-init : goal.keys-init
keys-init g c = subst (AreCopies g.K.Ord.cmp g.V.PartialEq.eq c.args.self.now.rows []) (sym c.in_ok-copies.ensures.items) tt

pub copy_at-requires : goal.copy_at-requires
copy_at-requires g c =
    (search rules, (key_at (λ k. IsPresent (get g.K.Ord.cmp c.args.self.now.rows k)) c.args.keys.now c.keys.key-index c.key-item.result c.keys-test.true c.key-item.is c.requires.there))

pub keys-preserved : goal.keys-preserved
keys-preserved g c =
    copies_step g.K.Ord.cmp g.met.K.Ord.total g.V.PartialEq.eq c.args.self.now.rows c.args.keys.now c.keys.key-index c.key-item.result c.keys.copies.items c.push.new.self.items c.in_ok-copy_at.field-0
    c.keys-test.true c.key-item.is c.in_ok-push.ensures.items c.keys.invariant c.in_ok-copy_at.ensures

pub returns : goal.returns
returns g c =
    subst (λ ks. AreCopies g.K.Ord.cmp g.V.PartialEq.eq c.args.self.now.rows (keys_of ks) c.keys.copies.items) (take_all c.keys.key-index c.args.keys.now c.keys-test.false) c.keys.invariant
