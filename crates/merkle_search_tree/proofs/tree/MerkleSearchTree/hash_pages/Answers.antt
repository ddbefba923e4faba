use Rattle.std.proofs.Common.{rules, ap, ◌∙◌}
use Rattle.std.specs.Int.NonZero.{non_zero_u8_get}
use Rattle.merkle_digest.specs.Level.{level_of}
use Rattle.merkle_tree_theory.specs.Cache.{uncached_pages}
use Rattle.merkle_tree_theory.specs.Page.{pairs}
use Rattle.merkle_tree_theory.specs.State.{State, map_of}
use Rattle.merkle_tree_theory.proofs.FillingDigests.{pairs-filled, IsCanonicalRoot-filled, CachesHold-filled, cache-filled, missing-filled}
use Rattle.merkle_search_tree.proofs.tree.MerkleSearchTree.hash_pages.Goals as goal

pub fill-digest-requires : goal.fill-digest-requires
fill-digest-requires g c = let fits = g.met.H.Hasher.fits in let holds = c.self.invariant.caches in search rules

pub invariant_of-self : goal.invariant_of-self
invariant_of-self g c =
    let s = c.self.inside in
    let h = c.self.invariant in
    let b = g.K.KeyBytes.bytes_of in
    rw (c.fill-digest.ensures.pages, c.new.ensures, c.fill-digest.ensures.digest) (record {
      ascending = rw (pairs-filled s.page_format b s.root) h.ascending;
      canonical = IsCanonicalRoot-filled (λ k. level_of (g.H.Hasher.digest_of s.hasher k) (non_zero_u8_get s.level_base)) s.page_format b s.root h.canonical;
      caches = CachesHold-filled s.page_format b s.root;
      root_hash_holds = cache-filled s.page_format b s.root;
    })

pub returns-clause-hashed : goal.returns-clause-hashed
returns-clause-hashed g c = ap uncached_pages c.fill-digest.ensures.pages ∙ missing-filled c.self.inside.page_format g.K.KeyBytes.bytes_of c.self.inside.root

pub returns-clause-map : goal.returns-clause-map
returns-clause-map g c =
    ap pairs c.fill-digest.ensures.pages ∙ pairs-filled c.self.inside.page_format g.K.KeyBytes.bytes_of c.self.inside.root ∙ ap (λ (v : State g.row.K.Denot g.row.H.Denot). map_of v) c.self.view_is
