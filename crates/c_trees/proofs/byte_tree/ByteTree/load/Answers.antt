use Rattle.std.proofs.Common.{rules, ◌<◌, ◌^◌, map, length, ap, subst, ◌∙◌}
use Rattle.key_order.specs.Map.{IsMap}
use Rattle.merkle_digest.specs.SipHash.{siphash128}
use Rattle.merkle_search_tree.specs.Loading.{digests}
use Rattle.c_values.specs.Keys.{bytes_cmp, by_key}
use Rattle.c_trees.proofs.Loads.{on_ok, pairs_ascend, rows_ascend}
use Rattle.c_trees.proofs.Ranges.{one_list_of_rows}
use Rattle.c_trees.proofs.byte_tree.ByteTree.load.Goals as goal

pub returns-clause-done : goal.returns-clause-done
returns-clause-done c =
    let old = c.args.self.now in let pairs = c.in_ok-pairs.pairs.items in
    let spelled = c.in_ok-pairs.ensures.rows in
    on_ok c.load_pairs.result (λ has. (
      spelled.0,
      (spelled.1, rows_ascend (siphash128 old.hasher.key) pairs spelled.0 spelled.2 has.1),
      ap (map by_key) has.0 ∙ spelled.2 ∙ ap (λ hasher. digests (siphash128 hasher.key) spelled.0) old.same_hasher,
      has.2,
    )) c.load_pairs.ensures.done

pub returns-clause-malformed : goal.returns-clause-malformed
returns-clause-malformed c is given are =
    let pairs = c.in_ok-pairs.pairs.items in
    let spelled = c.in_ok-pairs.ensures.rows in
    let short : length c.args.rows.now < 2 ^ 64 = search rules in
    let same = one_list_of_rows c.args.rows.now given spelled.0 short are.0 spelled.1 in
    c.load_pairs.ensures.malformed is (pairs_ascend (siphash128 c.args.self.now.hasher.key) pairs spelled.0 spelled.2 (subst (IsMap bytes_cmp) same are.1))
