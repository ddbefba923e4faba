use Rattle.std.proofs.Common.{◌≡◌, ℕ, List, ap, sym, subst, ◌∙◌}
use Rattle.key_order.proofs.SameMaps.{same_is_map}
use Rattle.merkle_diff.specs.PageRange.{entries}
use Rattle.merkle_diff.specs.Entry.{Entry}
use Rattle.merkle_search_tree.specs.Loading.{digests}
use Rattle.merkle_search_tree.specs.Pages.{page_ranges}
use Rattle.merkle_tree_theory.specs.Page.{pairs}
use Rattle.merkle_audit.specs.Pages.{TellAll, row_digests}
use Rattle.merkle_audit.proofs.FaithfulPages.{first_alone, its_tree, no_rows, pages_tell, second_alone, told_pages}
use Rattle.merkle_audit.proofs.pages.compare.Goals as goal

-- the lists are those of the own trees, which are the trees of the digests of the rows
pub returns : goal.returns
returns g c = rw g.met.H.RowHasher.laws_are (
    let cmp = g.K.Ord.cmp in
    let o = g.met.K.Ord.total in
    let bytes_of = g.K.KeyBytes.bytes_of in
    let digest_of = g.H.Hasher-1.digest_of in
    let value_digest = g.H.Hasher-2.digest_of in
    let a = c.args.a.now in
    let b = c.args.b.now in
    let law = c.a_map_has_one_tree.ensures in
    let sound_a = rw c.tree.ensures.tree at c.every_tree_is_sound.ensures.sound in
    let sound_b = rw c.tree-2.ensures.tree at c.every_tree_is_sound-2.ensures.sound in
    let ma = row_digests value_digest a in
    let mb = row_digests value_digest b in
    let own_a = its_tree cmp o digest_of bytes_of law.digests law.ranges a.tree.hasher a.tree.base a.tree.format ma a.tree.root
    (same_is_map cmp o (λ d e. d ≡ e) (pairs a.tree.root) ma c.tree.ensures.digests sound_a.ascending) (sound_a.canonical, c.tree.ensures.digests) in
    let own_b = its_tree cmp o digest_of bytes_of law.digests law.ranges b.tree.hasher b.tree.base b.tree.format mb b.tree.root
    (same_is_map cmp o (λ d e. d ≡ e) (pairs b.tree.root) mb c.tree-2.ensures.digests sound_b.ascending) (sound_b.canonical, c.tree-2.ensures.digests) in
    let ours = ap entries c.deref.ensures.value ∙ (rw c.tree-3.ensures.tree at (rw c.in-Some.is at c.in_ok-ours.ensures.ranges)) in
    let theirs = ap entries c.deref-2.ensures.value ∙ (rw c.tree-4.ensures.tree at (rw c.in-Some-2.is at c.in_ok-theirs.ensures.ranges)) in
    let Tells : List (Entry g.row.K.Denot (List ℕ)) → List (Entry g.row.K.Denot (List ℕ)) → Type 0 = TellAll cmp value_digest a b bytes_of in
    let told = told_pages cmp o (digest_of a.tree.hasher) (digest_of b.tree.hasher) a.tree.base b.tree.base a.tree.format b.tree.format bytes_of ma mb a.tree.root b.tree.root own_a own_b in
    let faithful_maps = pages_tell cmp o (digest_of a.tree.hasher) (digest_of b.tree.hasher) a.tree.base b.tree.base a.tree.format b.tree.format bytes_of ma mb a.tree.root b.tree.root own_a own_b in
    let faithful_first = first_alone cmp o (digest_of a.tree.hasher) (digest_of b.tree.hasher) a.tree.base b.tree.base a.tree.format b.tree.format bytes_of ma mb a.tree.root b.tree.root own_a own_b in
    let faithful_second = second_alone cmp o (digest_of a.tree.hasher) (digest_of b.tree.hasher) a.tree.base b.tree.base a.tree.format b.tree.format bytes_of ma mb
    a.tree.root b.tree.root own_a own_b in (
      λ t.
          let all = subst (λ es. Tells es (page_ranges bytes_of b.tree)) ours (subst (λ fs. Tells (entries c.deref.result.now) fs) theirs (c.tell_all.ensures.0 t)) in
          told all.maps (λ none. all.first_alone (no_rows (value_digest a.tree.hasher) a.rows none)) (λ none. all.second_alone (no_rows (value_digest b.tree.hasher) b.rows none)),
      λ faithful.
          let all : Tells (page_ranges bytes_of a.tree) (page_ranges bytes_of b.tree) = record {
            maps = faithful_maps faithful;
            first_alone = λ none. faithful_first faithful (ap (digests (value_digest a.tree.hasher)) none);
            second_alone = λ none. faithful_second faithful (ap (digests (value_digest b.tree.hasher)) none);
          } in
          c.tell_all.ensures.1 (subst (λ es. Tells es (entries c.deref-2.result.now)) (sym ours) (subst (λ fs. Tells (page_ranges bytes_of a.tree) fs) (sym theirs) all)),
    ))
