use Rattle.std.proofs.Common.{rules, ◌<◌, ◌^◌, length, sym}
use Rattle.std.specs.List.{flat_map}
use Rattle.merkle_search_tree.specs.Loading.{row_count}
use Rattle.c_trees.specs.Wire.{digest_bytes, digest_mark}
use Rattle.c_trees.proofs.Lists.{same_body}
use Rattle.c_trees.proofs.Ranges.{counted_digests, some_digest}
use Rattle.c_trees.proofs.reading.decode_digests.Goals as goal

pub returns-in_default-clause-malformed : goal.returns-in_default-clause-malformed
returns-in_default-clause-malformed c is given each e = c.body_of.ensures.none c.in_default.is (row_count given) (flat_map digest_bytes given) e

pub returns-clause-malformed : goal.returns-clause-malformed
returns-clause-malformed c is given each e =
    let short : length c.args.bytes.now < 2 ^ 64 = search rules in
    let spelled = counted_digests c.args.bytes.now given short e in
    let same = same_body digest_bytes some_digest digest_mark c.in-Some.count c.in-Some.body.now c.args.bytes.now given (search rules) short c.in-Some.ensures.body spelled in
    c.digests_of.ensures.malformed is given each (sym same.0) same.1
