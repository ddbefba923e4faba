use Rattle.std.proofs.Common.{ℕ, sym, subst, rules}
use Rattle.key_order.specs.Map.{IsMap}
use Rattle.merkle_digest.specs.Level.{level_of}
use Rattle.merkle_tree_theory.specs.Edge.{IsRootOf}
use Rattle.merkle_tree_theory.proofs.Edges.{bare-hold}
use Rattle.merkle_search_tree.proofs.load.finished.Goals as goal

pub with_root-requires : goal.with_root-requires
with_root-requires g c =
    let s = c.args.builder in
    let kept = c.requires in
    let lev : g.row.K.Denot → ℕ = λ k. level_of (g.H.Hasher.digest_of s.hasher k) s.base in
    let root : IsRootOf lev c.args.loading.edge.items c.in_ok-root.root = c.in_ok-root.ensures lev kept.fits in (
      search rules,
      (
        search rules,
        record {
          ascending = subst (IsMap g.K.Ord.cmp) (sym root.2) kept.ascending;
          canonical = root.0;
          caches = bare-hold s.format g.K.KeyBytes.bytes_of c.in_ok-root.root root.1;
          root_hash_holds = tt;
        },
      ),
    )
