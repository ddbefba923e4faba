-- To hash a tree changes none of the digests of which it is the tree.
use Rattle.std.proofs.Common.{◌≡◌, ℕ, List, ap, ◌∙◌}
use Rattle.merkle_tree_theory.specs.Hashed.{hashed_tree}
use Rattle.merkle_tree_theory.specs.State.{State, map_of}
use Rattle.merkle_tree_theory.proofs.FillingDigests.{pairs-filled}
use Rattle.merkle_wire.specs.ItsRows.{digests_of}

pub hashed_digests : {K H : Type 0} (bytes_of : K → List ℕ) (old new : State K H) → new ≡ hashed_tree bytes_of old → digests_of new ≡ digests_of old
hashed_digests bytes_of old new t =
    let m : map_of new ≡ map_of old = ap map_of t ∙ pairs-filled old.format bytes_of old.root in
    (λ i. record { hasher = (t i).hasher; base = (t i).base; format = (t i).format; map = m i })
