use Rattle.std.proofs.Common.{◌+◌, ◌∷◌, [], take, ap, sym, subst, ◌∙◌}
use Rattle.std.proofs.lemmas.List.{map-append}
use Rattle.merkle_replica.specs.CatchUp.{IsOnceEach}
use Rattle.merkle_replica.specs.Descent.{keys_of}
use Rattle.merkle_replica.proofs.OnceEach.{once_step, once_stays, key_of}
use Rattle.merkle_replica.proofs.wanted.once_each.Goals as goal
use Rattle.merkle_replica.proofs.wanted.once_each.Goals.{then-begins_anew+in_ok-push, else-begins_anew}

pub keys-preserved : goal.keys-preserved
keys-preserved g c =
    let cmp = g.K.Ord.cmp in
    let o = g.met.K.Ord.total in
    let ks = c.args.sorted.now in
    let i = c.keys.i in
    elim c.if-begins_anew.branch [
      | then-begins_anew+in_ok-push w ↦
          let k = w.index-sorted-i.result in
          subst (λ once. IsOnceEach cmp (keys_of (take (i + 1) ks)) (keys_of once)) (sym (ap (λ v. v.items) w.once-is ∙ w.in_ok-push.ensures.items))
          (subst (IsOnceEach cmp (keys_of (take (i + 1) ks))) (sym (map-append (λ k. k.now) c.keys.once.items (k ∷ [])))
          (once_step cmp o ks i (keys_of c.keys.once.items) c.requires c.keys-test.true c.keys.invariant k c.begins_anew.result w.index-sorted-i.is c.begins_anew.ensures.above w.if-begins_anew.true))
      | else-begins_anew w ↦
          let k = key_of ks i c.keys-test.true in
          subst (λ once. IsOnceEach cmp (keys_of (take (i + 1) ks)) (keys_of once)) (sym (ap (λ v. v.items) w.once-is))
          (once_stays cmp o ks i (keys_of c.keys.once.items) c.requires c.keys-test.true c.keys.invariant k.0 c.begins_anew.result k.1
          c.begins_anew.ensures.above c.begins_anew.ensures.first w.if-begins_anew.false)
    ]
