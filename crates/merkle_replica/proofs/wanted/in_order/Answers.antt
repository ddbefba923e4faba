use Rattle.std.proofs.Common.{rules, subst, ap, sym}
use Rattle.std.proofs.lemmas.Fn.{always_returns_same}
use Rattle.std.proofs.lemmas.Result.{IfOk-weaker}
use Rattle.std.specs.Ordering.{is_lt}
use Rattle.merkle_replica.specs.CatchUp.{NoneFalls, IsOnceEach}
use Rattle.merkle_replica.specs.Descent.{keys_of}
use Rattle.merkle_replica.proofs.OnceEach.{lower_key, keys_compare, sorted_keys, once_permuted}
use Rattle.merkle_replica.proofs.wanted.in_order.Goals as goal

pub once_each-requires : goal.once_each-requires
once_each-requires g c =
    let cmp = g.K.Ord.cmp in
    let o = g.met.K.Ord.total in
    subst (λ ks. NoneFalls cmp (keys_of ks)) (sym c.deref.ensures.value)
    (sorted_keys cmp o c.sort_by.new.self.items
    (c.in_ok-sort_by.ensures.sorted (lower_key cmp o) (keys_compare cmp o) (always_returns_same _ _ _ (λ a r f called. (ap is_lt (search rules), search rules)))))

pub returns : goal.returns
returns g c =
    let cmp = g.K.Ord.cmp in
    let o = g.met.K.Ord.total in
    IfOk-weaker c.once_each.result _ _
    (λ once r. once_permuted cmp o c.args.keys.items c.sort_by.new.self.items (keys_of once.items) c.sort_by.ensures.permutation
    (subst (λ ks. IsOnceEach cmp (keys_of ks) (keys_of once.items)) c.deref.ensures.value r))
    c.once_each.ensures
