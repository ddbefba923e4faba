use Rattle.std.proofs.Common.{◌≡◌, ◌≢◌, ◌++◌, None, true, false, not, ap, sym, subst, ◌∙◌}
use Rattle.std.specs.Prelude.{is_some}
use Rattle.std.specs.Int.NonZero.{non_zero_u8_get}
use Rattle.merkle_digest.specs.Level.{level_of}
use Rattle.merkle_tree_theory.specs.Outline.{cached_items, outline_over, outline_where}
use Rattle.merkle_tree_theory.specs.State.{State}
use Rattle.merkle_tree_theory.proofs.Inside.{outline_is, hashed_page}
use Rattle.merkle_tree_theory.proofs.PageOverGap.{over_inside}
use Rattle.merkle_search_tree.specs.Items.{lent_gap, items}
use Rattle.merkle_search_tree.proofs.tree.MerkleSearchTree.outline.Goals as goal

pub returns-clause-items : goal.returns-clause-items
returns-clause-items g c =
    let s = c.self.inside in
    let h = c.self.invariant in
    let b = g.K.KeyBytes.bytes_of in
    let cmp = g.K.Ord.cmp in
    let gap = lent_gap c.args.gap in
    let lev = λ (k : g.row.K.Denot). level_of (g.H.Hasher.digest_of s.hasher k) (non_zero_u8_get s.level_base) in
    let hashed : is_some s.root_hash ≡ true = c.is_none.ensures ∙ ap not c.if-is_none.false in
    let page = c.in-Some.page.now in
    let (i, n) = over_inside cmp gap s.root page (sym c.in-Some.ensures) in
    let good = hashed_page cmp g.met.K.Ord.total lev s.page_format b s.root_hash s.root hashed h.root_hash_holds h.caches h.canonical h.ascending page i n in
    subst (λ (v : State g.row.K.Denot g.row.H.Denot). (v.root_hash ≢ None) × (items c.list_items.new.list.items ≡ outline_over v.format b cmp v.root gap)) c.self.view_is (
      λ none. let never : false ≡ true = sym (ap is_some none) ∙ hashed in cc,
      c.in_ok-list_items.ensures ∙ ap (λ xs. items xs ++ cached_items gap page) c.new-list.ensures.items ∙ outline_is cmp g.met.K.Ord.total lev s.page_format b gap page good
          ∙ ap (outline_where s.page_format b gap) c.in-Some.ensures,
    )
