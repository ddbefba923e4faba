use Rattle.std.proofs.Common.{OnOk, ap, subst, ◌∙◌}
use Rattle.merkle_digest.specs.SipHash.{siphash128}
use Rattle.c_values.specs.Trees.{IsSetTo}
use Rattle.c_trees.proofs.byte_tree.ByteTree.upsert.Goals as goal

pub returns-clause-done : goal.returns-clause-done
returns-clause-done c =
    let old = c.args.self.now.tree in let key = c.args.key.now in
    let hashed = c.hash_bytes-digest.ensures ∙ ap (λ h. siphash128 h.key c.args.value.now) c.args.self.now.same_hasher in
    subst (λ digest. OnOk c.upsert_digest.result (IsSetTo key digest old c.upsert_digest.new.self.tree)) hashed c.upsert_digest.ensures.done
