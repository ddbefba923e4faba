use Rattle.std.proofs.Common.{◌≡◌, ℕ, true, false, ap, sym, subst, ◌∙◌, rules}
use Rattle.std.specs.Int.NonZero.{non_zero_u8_get}
use Rattle.key_order.specs.Map.{IsMap}
use Rattle.merkle_digest.specs.Level.{level_of}
use Rattle.merkle_tree_theory.specs.Settings.{Settings}
use Rattle.merkle_tree_theory.specs.Edge.{edge_pairs, is_above, IsEdge, Appends}
use Rattle.merkle_search_tree.specs.Loading.{row_count}
use Rattle.merkle_search_tree.proofs.LoadOrder.{map-more, no-more, count-more}
use Rattle.merkle_search_tree.proofs.load.push_row.Goals as goal

pub returns-then-not-is_above-clause-refused : goal.returns-then-not-is_above-clause-refused
returns-then-not-is_above-clause-refused g c =
    let s = c.args.builder.now in
    let kept = c.requires in
    let lev : g.row.K.Denot → ℕ = λ k. level_of (g.H.Hasher-1.digest_of s.hasher k) s.base in
    let pairs = edge_pairs c.args.loading.now.edge.items in
    let is : c.is_above.result ≡ is_above g.K.Ord.cmp c.args.key pairs =
    subst (λ ts. IsEdge lev 256 ts → c.is_above.result ≡ is_above g.K.Ord.cmp c.args.key (edge_pairs ts)) c.deref.ensures.value (c.is_above.ensures lev) kept.fits in
    let no : c.is_above.result ≡ false = search rules in
    ((kept.ascending, no-more g.K.Ord.cmp pairs c.args.key (sym is ∙ no)), kept.counted)

pub returns-clause-loading : goal.returns-clause-loading
returns-clause-loading g c =
    let s = c.args.builder.now in
    let kept = c.requires in
    let lev : g.row.K.Denot → ℕ = λ k. level_of (g.H.Hasher-1.digest_of s.hasher k) s.base in
    let pairs = edge_pairs c.args.loading.now.edge.items in
    let is : c.is_above.result ≡ is_above g.K.Ord.cmp c.args.key pairs =
    subst (λ ts. IsEdge lev 256 ts → c.is_above.result ≡ is_above g.K.Ord.cmp c.args.key (edge_pairs ts)) c.deref.ensures.value (c.is_above.ensures lev) kept.fits in
    let yes : c.is_above.result ≡ true = search rules in
    let at : lev c.args.key ≡ c.level-key_level.result =
    sym (c.level-key_level.ensures ∙ ap (λ h. level_of h (non_zero_u8_get c.builder.inside.level_base)) c.hash-2.ensures
    ∙ ap (λ (b : Settings g.row.H.Denot). level_of (g.H.Hasher-1.digest_of b.hasher c.args.key) b.base) c.builder.view_is) in
    let done : Appends lev c.args.key c.new-digest.result c.args.loading.now.edge.items c.append.new.edge.items = c.in_ok-append.ensures lev at kept.fits in
    record {
      ascending = subst (IsMap g.K.Ord.cmp) (sym done.1) (map-more g.K.Ord.cmp g.met.K.Ord.total pairs c.args.key c.new-digest.result kept.ascending (sym is ∙ yes));
      fits = done.0;
      counted = c.saturating_add-loading.ensures ∙ count-more pairs (c.args.key, c.new-digest.result) c.args.loading.now.count kept.counted ∙ ap row_count (sym done.1);
    }
