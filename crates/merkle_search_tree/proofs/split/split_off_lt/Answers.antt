use Rattle.std.proofs.Common.{◌≡◌, ap, sym, subst, length, arith}
use Rattle.std.specs.Vec.Iter.{into_iter_items}
use Rattle.merkle_tree_theory.specs.Tree.{below, held_of}
use Rattle.merkle_search_tree.specs.Parting.{PartingsFit}
use Rattle.merkle_search_tree.specs.Split.{HaveRoom, InParts}
use Rattle.merkle_search_tree.proofs.Partings.{first-parting}
use Rattle.merkle_search_tree.proofs.split.split_off_lt.Goals as goal

pub path-init : goal.path-init
path-init g c =
    let cmp = g.K.Ord.cmp in
    let key = c.args.key.now in
    let whole = held_of c.args.held.now in
    let is = sym (ap held_of c.replace-path.ensures.value) in
    let gives : into_iter_items c.into_iter-parting-iterator.result ≡ c.in_ok-partings.partings.items = c.into_iter-parting-iterator.ensures.into_iter_gives.0 in
    let len : c.len.result ≡ length (into_iter_items c.into_iter-parting-iterator.result) = omega (arith, c.len.ensures, c.in_ok-partings.partings.ok.0, ap length gives) in (
      subst (λ h. PartingsFit cmp key h (into_iter_items c.into_iter-parting-iterator.result)) is (subst (PartingsFit cmp key whole) (sym gives) c.in_ok-partings.ensures.fits),
      subst (λ h. InParts cmp key whole h c.in_ok-sides.sides) is (c.in_ok-sides.ensures.parts cmp key whole),
      subst (λ n. HaveRoom n c.in_ok-sides.sides) len c.in_ok-sides.ensures.room,
    )

pub path-preserved : goal.path-preserved
path-preserved g c =
    let cmp = g.K.Ord.cmp in
    let key = c.args.key.now in
    let t = c.in-Some-path.page.value in
    let cs = into_iter_items c.next.new.self in
    let its = c.in-Some.ensures.steps.0 in
    let inv = c.path.invariant in
    let is : held_of c.path.path ≡ below t = ap held_of c.in-Some-path.is in
    let fits = first-parting cmp key (held_of c.path.path) t c.in-Some.parting cs _ is its inv.0 in (
      subst (λ h. PartingsFit cmp key h cs) (sym (c.part_page.ensures.gap cmp key fits.0)) fits.1,
      c.part_page.ensures.parts cmp key (held_of c.args.held.now) fits.0 (subst (λ h. InParts cmp key (held_of c.args.held.now) h c.path.sides) is inv.1),
      c.part_page.ensures.room (length cs) (subst (λ n. HaveRoom n c.path.sides) (ap length its) inv.2),
    )
