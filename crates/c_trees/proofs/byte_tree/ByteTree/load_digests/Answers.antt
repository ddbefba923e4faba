use Rattle.std.proofs.Common.{rules, ◌<◌, ◌^◌, map, length, sym, ap, subst}
use Rattle.key_order.specs.Map.{IsMap}
use Rattle.c_trees.specs.Lists.{AreDigests}
use Rattle.c_values.specs.Keys.{bytes_cmp, by_key}
use Rattle.c_trees.proofs.Loads.{by_bytes_ascend, from_bytes_ascend, on_ok}
use Rattle.c_trees.proofs.Ranges.{one_list_of_digests}
use Rattle.c_trees.proofs.byte_tree.ByteTree.load_digests.Goals as goal

pub returns-clause-done : goal.returns-clause-done
returns-clause-done c =
    let pairs = c.in_ok-pairs.pairs.items in let spelled = c.in_ok-pairs.ensures in
    on_ok c.load_pairs.result (λ has.
    (subst (AreDigests c.args.list.now) (ap (map by_key) (sym has.0)) (spelled.rows, spelled.each, by_bytes_ascend pairs has.1), has.2)) c.load_pairs.ensures.done

pub returns-clause-malformed : goal.returns-clause-malformed
returns-clause-malformed c is given are =
    let pairs = c.in_ok-pairs.pairs.items in let spelled = c.in_ok-pairs.ensures in
    let short : length c.args.list.now < 2 ^ 64 = search rules in
    let same = one_list_of_digests c.args.list.now given (map by_key pairs) short are.1 spelled.each are.0 spelled.rows in
    c.load_pairs.ensures.malformed is (from_bytes_ascend pairs (subst (IsMap bytes_cmp) same are.2))
