use Rattle.key_order.proofs.Bools.{is_equal}
use Rattle.merkle_tree_theory.proofs.Sound.{same_bytes}
use Rattle.std.proofs.Common.{sym, ◌∙◌}
use Rattle.merkle_tree_theory.proofs.Faithful.{faithful_pages, roots_tell}
use Rattle.merkle_tree_theory.proofs.laws.exact_keys_make_pages_faithful.Goals as goal

pub returns-clause-pages : goal.returns-clause-pages
returns-clause-pages g c hasher base a b f h no_collision =
    faithful_pages g.K.Ord.cmp g.K.KeyBytes.bytes_of g.row.N (g.H.Hasher.digest_of hasher) base
    (same_bytes g.K.Ord.cmp g.K.PartialEq.eq g.met.K.Ord.matches_eq g.K.KeyBytes.bytes_of g.met.K.KeyBytes.bytes_respect_eq)
    (λ x y e. is_equal (g.K.Ord.cmp x y) (sym (g.met.K.Ord.matches_eq x y) ∙ g.met.K.KeyBytesExact.bytes_tell_keys x y e)) a b f h no_collision

pub returns-clause-maps : goal.returns-clause-maps
returns-clause-maps g c hasher base a b t u f h no_collision is_t is_u e =
    roots_tell g.K.Ord.cmp g.met.K.Ord.total g.K.KeyBytes.bytes_of (g.H.Hasher.digest_of hasher) base a b (returns-clause-pages g c hasher base a b f h no_collision) t u is_t is_u e
