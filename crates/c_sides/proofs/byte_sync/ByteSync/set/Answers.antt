use Rattle.std.proofs.Common.{ap, map, refl, ◌∙◌}
use Rattle.c_values.specs.Keys.{bytes_cmp, by_key, pairs_of}
use Rattle.key_order.specs.Map.{set}
use Rattle.merkle_digest.specs.SipHash.{siphash128}
use Rattle.merkle_tree_theory.specs.State.{map_of}
use Rattle.c_values.proofs.Pairs.{pairs_set}
use Rattle.c_sides.proofs.byte_sync.ByteSync.set.Goals as goal

pub returns-in-Ok-clause-done : goal.returns-in-Ok-clause-done
returns-in-Ok-clause-done c =
    let old = c.args.self.now.tree in let key = c.in_ok-own_key.own_key in let bytes = c.in_ok-bytes.bytes.items in
    let same_key = c.in_ok-own_key.ensures.items in let same_value = c.in_ok-bytes.ensures.items in
    record {
      tree = record {
        rows = ap (map by_key) c.in-Ok.ensures.set ∙ pairs_set (map_of old) key (siphash128 old.hasher bytes)
            ∙ (λ i. set bytes_cmp (pairs_of old) (same_key i) (siphash128 old.hasher (same_value i)));
        settings = c.upsert.ensures.settings;
      };
      talk = (refl, refl, refl);
    }
