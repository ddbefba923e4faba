use Rattle.std.proofs.Common.{◌≡◌, ℕ, List, ◌++◌, ◌∷◌, [], ap, sym, subst, ◌∙◌}
use Rattle.std.proofs.lemmas.Bool.{eqb-true}
use Rattle.std.proofs.lemmas.List.{nil_from_length}
use Rattle.std.specs.Cmp.{IsTotalOrder}
use Rattle.std.specs.Global.{Vec}
use Rattle.std.specs.Prelude.{vec_len}
use Rattle.key_order.specs.Map.{IsMap}
use Rattle.merkle_digest.specs.Level.{level_of}
use Rattle.merkle_replica.specs.Contents.{Side, side}
use Rattle.merkle_replica.specs.Descent.{gaps_of}
use Rattle.merkle_tree_theory.specs.Gap.{Gap}
use Rattle.merkle_tree_theory.specs.Page.{pairs}
use Rattle.merkle_tree_theory.specs.Sound.{IsSound}
use Rattle.merkle_tree_theory.specs.State.{State}
use Rattle.merkle_search_tree.specs.declared.gap.Gap.{Gap as BorrowedGap}
use Rattle.merkle_audit.specs.Nodes.{AreFaithfulIn, AreLookedAt}
use Rattle.merkle_audit.proofs.PagesOverGaps.{AreCovered, all_covered, none_left, still_covered}
use Rattle.merkle_audit.proofs.nodes.all_are_faithful.Goals as goal
use Rattle.merkle_audit.proofs.nodes.all_are_faithful.Given.{Over}

-- the levels of keys in a tree
abbrev level_in : (g : Over) (tree : State g.row.K.Denot g.row.H.Denot) → g.row.K.Denot → ℕ
level_in g tree k = level_of (g.H.Hasher-1.digest_of tree.hasher k) tree.base

-- the gaps of the pages right below cover the pages of a sound tree that are left
below_cover : (g : Over) (local : Side g.row.K.Denot g.row.V.Denot g.row.H.Denot) (tree : State g.row.K.Denot g.row.H.Denot) → IsSound g.K.Ord.cmp g.H.Hasher-1.digest_of g.K.KeyBytes.bytes_of tree
    → (gaps next : List (Gap g.row.K.Denot)) → AreCovered g.H.RowHasher.laws local tree gaps → AreLookedAt g.H.RowHasher.laws local tree gaps next → AreCovered g.H.RowHasher.laws local tree next
below_cover g local tree sound =
    let laws = g.H.RowHasher.laws in
    let o : IsTotalOrder laws.cmp = rw g.met.H.RowHasher.laws_are g.met.K.Ord.total in
    let up : IsMap laws.cmp (pairs tree.root) = rw g.met.H.RowHasher.laws_are sound.ascending in
    still_covered laws local tree o up (level_in g tree) sound.canonical

-- where no gap is left, each page was looked at
over : (g : Over) (local : Side g.row.K.Denot g.row.V.Denot g.row.H.Denot) (tree : State g.row.K.Denot g.row.H.Denot) (gaps : Vec (BorrowedGap g.row.K.Denot)) → vec_len gaps ≡ 0
    → AreCovered g.H.RowHasher.laws local tree (gaps_of gaps.items) → AreFaithfulIn g.H.RowHasher.laws local tree.root
over g local tree gaps none covered =
    none_left g.H.RowHasher.laws local tree
    (subst (λ gs. AreCovered g.H.RowHasher.laws local tree (gaps_of gs)) (nil_from_length gaps.items (sym gaps.ok.0 ∙ none)) covered)

pub levels-init : goal.levels-init
levels-init g c =
    let tree = c.args.peer.now.tree in
    let sound : IsSound g.K.Ord.cmp g.H.Hasher-1.digest_of g.K.KeyBytes.bytes_of tree = rw c.tree.ensures.tree at c.every_tree_is_sound.ensures.sound in
    subst (AreCovered g.H.RowHasher.laws (side c.args.local.now) tree)
    (sym (ap gaps_of (c.in_ok-push.ensures.items ∙ ap (λ gs. gs ++ c.everywhere.result ∷ []) c.new-gaps.ensures.items) ∙ ap (λ h. h ∷ []) c.everywhere.ensures))
    (all_covered g.H.RowHasher.laws (side c.args.local.now) tree (level_in g tree) sound.canonical)

pub returns-then-is_empty : goal.returns-then-is_empty
returns-then-is_empty g c = λ t.
    over g (side c.args.local.now) c.args.peer.now.tree c.levels.gaps (eqb-true (vec_len c.levels.gaps) 0 (sym c.if-is_empty.ensures)) c.levels.invariant

pub returns : goal.returns
returns g c = λ t.
    over g (side c.args.local.now) c.args.peer.now.tree c.levels.gaps (eqb-true (vec_len c.levels.gaps) 0 (sym c.is_empty-2.ensures ∙ t)) c.levels.invariant

pub levels-preserved : goal.levels-preserved
levels-preserved g c =
    let laws = g.H.RowHasher.laws in
    let local = side c.args.local.now in
    let tree = c.args.peer.now.tree in
    let below = c.in-Some.below in
    let told : AreLookedAt laws local tree (gaps_of c.deref.result.now) (gaps_of below.items) = rw c.in-Some.is at c.in_ok-look_at.ensures in
    let looked = subst (λ gs. AreLookedAt laws local tree (gaps_of gs) (gaps_of below.items)) c.deref.ensures.value told in
    below_cover g local tree (rw c.tree.ensures.tree at c.every_tree_is_sound.ensures.sound) (gaps_of c.levels.gaps.items) (gaps_of below.items) c.levels.invariant looked
