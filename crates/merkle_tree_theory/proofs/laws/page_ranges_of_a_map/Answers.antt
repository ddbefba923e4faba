use Rattle.std.proofs.Common.{◌≡◌, ap, subst, sym, ◌∙◌}
use Rattle.std.specs.Ordering.{is_eq}
use Rattle.merkle_diff.specs.TreeShape.{IsTreeShaped}
use Rattle.merkle_digest.specs.Level.{level_of}
use Rattle.merkle_tree_theory.specs.Page.{pairs}
use Rattle.key_order.proofs.SameMaps.{ascends}
use Rattle.merkle_tree_theory.proofs.RangesOfMap.{lists}
use Rattle.merkle_tree_theory.proofs.NoDifference.{nothing_to_ask, same_lists, same-entries-back}
use Rattle.merkle_tree_theory.proofs.RangeShape.{tree_shaped}
use Rattle.merkle_tree_theory.proofs.Sound.{same_bytes}
use Rattle.merkle_tree_theory.proofs.laws.page_ranges_of_a_map.Goals as goal

pub returns-clause-shaped : goal.returns-clause-shaped
returns-clause-shaped g c hasher base format m es ascending (t, is_tree, e) =
    subst (IsTreeShaped g.K.Ord.cmp) (sym e)
    (tree_shaped g.K.Ord.cmp g.met.K.Ord.total (λ k. level_of (g.H.Hasher.digest_of hasher k) base) format g.K.KeyBytes.bytes_of t is_tree.0
    (ascends g.K.Ord.cmp g.met.K.Ord.total (λ x y. x ≡ y) (pairs t) m is_tree.1 ascending))

pub returns-clause-listing : goal.returns-clause-listing
returns-clause-listing g c hasher base format m es ascending is_ranges =
    lists g.K.Ord.cmp g.met.K.Ord.total (g.H.Hasher.digest_of hasher) base format g.K.KeyBytes.bytes_of m es ascending is_ranges

pub returns-clause-nothing_to_ask_b_for : goal.returns-clause-nothing_to_ask_b_for
returns-clause-nothing_to_ask_b_for g c hasher base format a b es fs same is_es is_fs =
    nothing_to_ask g.K.Ord.cmp es fs
    (same_lists g.K.Ord.cmp g.met.K.Ord.total (g.H.Hasher.digest_of hasher) base (λ x y q. ap (λ d. level_of d base) (g.met.H.Hasher.respects_eq hasher x y (g.met.K.Ord.matches_eq x y ∙ ap is_eq q)))
    format g.K.KeyBytes.bytes_of (same_bytes g.K.Ord.cmp g.K.PartialEq.eq g.met.K.Ord.matches_eq g.K.KeyBytes.bytes_of g.met.K.KeyBytes.bytes_respect_eq) a b es fs same is_es is_fs)

pub returns-clause-nothing_to_ask_a_for : goal.returns-clause-nothing_to_ask_a_for
returns-clause-nothing_to_ask_a_for g c hasher base format a b es fs same is_es is_fs =
    nothing_to_ask g.K.Ord.cmp fs es (same-entries-back g.K.Ord.cmp g.met.K.Ord.total es fs
    (same_lists g.K.Ord.cmp g.met.K.Ord.total (g.H.Hasher.digest_of hasher) base (λ x y q. ap (λ d. level_of d base) (g.met.H.Hasher.respects_eq hasher x y (g.met.K.Ord.matches_eq x y ∙ ap is_eq q)))
    format g.K.KeyBytes.bytes_of (same_bytes g.K.Ord.cmp g.K.PartialEq.eq g.met.K.Ord.matches_eq g.K.KeyBytes.bytes_of g.met.K.KeyBytes.bytes_respect_eq) a b es fs same is_es is_fs))
