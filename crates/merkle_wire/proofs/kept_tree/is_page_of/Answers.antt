use Rattle.std.proofs.Common.{◌≡◌, true, false, Option, None, Some, sym, ◌∙◌}
use Rattle.std.specs.Prelude.{IsSome}
use Rattle.key_order.proofs.SameMaps.{same_map-own}
use Rattle.merkle_replica.specs.Contents.{tree_map}
use Rattle.merkle_replica.proofs.SideLaws.{laws_of}
use Rattle.merkle_search_tree.specs.Items.{lent_gap}
use Rattle.merkle_wire.proofs.PagesAt.{page_in_each}
use Rattle.merkle_wire.proofs.kept_tree.is_page_of.Goals as goal
use Rattle.merkle_wire.specs.ItsRows.{digests_of, side_of}

is_there : {X : Type 0} (o : Option X) → IsSome o → o ≡ None → ⊥
is_there None some none = cc
is_there (Some x) some none = cc

-- the tree is that of the side's map, and the page one of its pages
pub returns-clause-there : goal.returns-clause-there
returns-clause-there g c = rw g.met.H.RowHasher.laws_are (λ yes rows kept.
    let sound = c.every_tree_is_sound.ensures.sound in
    let (met, there, same) = c.has_page.ensures.only yes in
    (met, (c.args.tree.now.root, (sound.canonical, kept), there), same))

pub returns-clause-lacked : goal.returns-clause-lacked
returns-clause-lacked g c = rw g.met.H.RowHasher.laws_are (λ no rows kept has.
    let laws = laws_of g.K.Ord.cmp g.K.KeyBytes.bytes_of g.H.Hasher-1.digest_of g.V.PartialEq.eq g.V.Join.join_of g.H.Hasher-2.digest_of in
    let own = side_of (digests_of c.args.tree.now) rows in
    let sound = c.every_tree_is_sound.ensures.sound in
    let (found, fills, is) = page_in_each laws g.met.K.Ord.total own
    (λ t u f h. c.a_map_has_one_tree.ensures.pages own.hasher own.base (tree_map laws own) (tree_map laws own) t u (same_map-own g.K.Ord.cmp g.met.K.Ord.total (tree_map laws own)) f h)
    (c.equal_pages_have_equal_maps.ensures.digests own.format) (lent_gap c.args.gap.now) c.args.digest.now has c.args.tree.now.root sound.ascending (sound.canonical, kept) in
    let yes : c.has_page.result ≡ true = c.has_page.ensures.all (is_there c.args.tree.now.root_hash c.requires) found fills is in
    let never : true ≡ false = sym yes ∙ no in
    cc)
