use Rattle.merkle_digest.specs.Level.{level_of}
use Rattle.merkle_tree_theory.proofs.OutlineDescents.{outline_down, whole_down, get_filling, get_inside}
use Rattle.merkle_tree_theory.proofs.PageOverGap.{filled_opens}
use Rattle.merkle_tree_theory.proofs.laws.outlines_lead_down.Goals as goal

pub returns-clause-opens : goal.returns-clause-opens
returns-clause-opens g c t s gap m f = filled_opens g.K.Ord.cmp g.met.K.Ord.total gap s t m f

pub returns-clause-outline : goal.returns-clause-outline
returns-clause-outline g c hasher base format t s gap m canonical f =
    outline_down g.K.Ord.cmp g.met.K.Ord.total format g.K.KeyBytes.bytes_of t m (λ k. level_of (g.H.Hasher.digest_of hasher k) base) canonical s gap f

pub returns-clause-whole : goal.returns-clause-whole
returns-clause-whole g c hasher base format t m canonical = whole_down g.K.Ord.cmp g.met.K.Ord.total format g.K.KeyBytes.bytes_of t m (λ k. level_of (g.H.Hasher.digest_of hasher k) base) canonical

pub returns-clause-gap : goal.returns-clause-gap
returns-clause-gap g c t s gap k d m f i e = get_filling g.K.Ord.cmp g.met.K.Ord.total t s gap k d f i e

pub returns-clause-page : goal.returns-clause-page
returns-clause-page g c t s k d m inside f = get_inside g.K.Ord.cmp g.met.K.Ord.total s t k d inside m f
