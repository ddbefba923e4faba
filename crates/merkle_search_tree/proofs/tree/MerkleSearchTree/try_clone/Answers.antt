use Rattle.std.proofs.Common.{◌≡◌, sym, subst}
use Rattle.key_order.specs.Order.{Same}
use Rattle.std.specs.Int.NonZero.{non_zero_u8_get}
use Rattle.merkle_tree_theory.specs.Copy.{IsCopy}
use Rattle.merkle_tree_theory.specs.State.{State}
use Rattle.merkle_tree_theory.proofs.Copies.{copy-same, copy-weaker}
use Rattle.merkle_tree_theory.proofs.SameRanges.{same-pairs}
use Rattle.merkle_tree_theory.proofs.Sound.{copy_sound}
use Rattle.merkle_search_tree.proofs.tree.MerkleSearchTree.try_clone.Goals as goal

pub invariant_of-result : goal.invariant_of-result
invariant_of-result g c =
    let s = c.self.inside in
    let view : State g.row.K.Denot g.row.H.Denot = record { hasher = s.hasher; base = non_zero_u8_get s.level_base; format = s.page_format; root = s.root; root_hash = s.root_hash } in
    let copy = copy-weaker g.K.Clone.is_clone (Same g.K.Ord.cmp) g.met.K.SameClone.clone_is_same _ (λ d e. d ≡ e) (λ x y e. sym e) s.root c.in_ok-root.root c.in_ok-root.ensures.copy in
    copy_sound g.K.Ord.cmp g.met.K.Ord.total g.K.PartialEq.eq g.met.K.Ord.matches_eq g.H.Hasher.digest_of g.met.H.Hasher.respects_eq g.K.KeyBytes.bytes_of g.met.K.KeyBytes.bytes_respect_eq
    view c.self.invariant c.in_ok-hasher.hasher c.in_ok-root.root c.in_ok-root_hash.root_hash
    (c.requires.hashers s.hasher c.in_ok-hasher.hasher c.in_ok-hasher.ensures.cases) c.in_ok-root_hash.ensures copy

pub returns-clause-pages : goal.returns-clause-pages
returns-clause-pages g c =
    subst (λ (v : State g.row.K.Denot g.row.H.Denot). IsCopy (Same g.K.Ord.cmp) (λ d e. d ≡ e) v.root c.in_ok-root.root) c.self.view_is
    (copy-weaker g.K.Clone.is_clone (Same g.K.Ord.cmp) g.met.K.SameClone.clone_is_same _ (λ d e. d ≡ e) (λ x y e. sym e) c.self.inside.root c.in_ok-root.root c.in_ok-root.ensures.copy)

pub returns-clause-map : goal.returns-clause-map
returns-clause-map g c = same-pairs g.K.Ord.cmp c.args.self.now.root c.in_ok-root.root (copy-same g.K.Ord.cmp c.args.self.now.root c.in_ok-root.root (returns-clause-pages g c))
