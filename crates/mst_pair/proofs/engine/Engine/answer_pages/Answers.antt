use Rattle.std.proofs.Common.{◌≡◌, ◌⊎◌, ap, inl, inr}
use Rattle.mst_pair.specs.Replicas.{Replicas}
use Rattle.mst_pair.proofs.engine.Engine.answer_pages.Goals as goal

-- the rows are shown, or memory ran out, and nothing changed
shown : {P : Type 0} (Lacks : Type 0) (old new : Replicas) → new ≡ old → P ⊎ Lacks → (P × (new ≡ old)) ⊎ (Lacks × (new ≡ old))
shown Lacks old new same (inl p) = inl (p, same)
shown Lacks old new same (inr lacks) = inr (lacks, same)

pub returns-in-A-clause-bytes : goal.returns-in-A-clause-bytes
returns-in-A-clause-bytes g c = rw (c.in-A.is, ← c.self.view_is) (
    let (reply, text, wrote) = c.write_pages.ensures.bytes c.self.inside.format c.self.invariant.0 in
    (reply, shown _ _ _ (ap (λ rows. record { a = rows; b = c.self.inside.b.rows; format = c.self.inside.format }) c.write_pages.ensures.rows) text, wrote)
    )

pub returns-in-B-clause-bytes : goal.returns-in-B-clause-bytes
returns-in-B-clause-bytes g c = rw (c.in-B.is, ← c.self.view_is) (
    let (reply, text, wrote) = c.write_pages-in-B.ensures.bytes c.self.inside.format c.self.invariant.1 in
    (reply, shown _ _ _ (ap (λ rows. record { a = c.self.inside.a.rows; b = rows; format = c.self.inside.format }) c.write_pages-in-B.ensures.rows) text, wrote)
    )
