-- What peers learn of each other.
use Rattle.std.specs.Prelude.{◌≡◌, ℕ, List, IfOk, Result}
use Rattle.std.specs.Global.{Vec}
use Rattle.merkle_tree_theory.specs.Stream.{page_digest}
use Rattle.merkle_replica.specs.Answers.{MayAskPeer}
use Rattle.merkle_replica.specs.Contents.{Contents}
use Rattle.merkle_replica.specs.Laws.{Laws}

-- the root pages of the trees of both replicas have equal digests
abbrev pub HaveOneRootHash : {K V H : Type 0} → (K → List ℕ) → Contents K V H → Contents K V H → Type 0
HaveOneRootHash bytes_of a b = page_digest a.tree.format bytes_of a.tree.root ≡ page_digest b.tree.format bytes_of b.tree.root

-- where they don't, a call that answers ranges answers some that local may ask the peer for
abbrev pub AsksWhereTheyDiffer : {K V H E : Type 0} → Laws K V H → Contents K V H → Contents K V H → Result (Vec (K × K)) E → Type 0
AsksWhereTheyDiffer laws local peer result =
    ¬ (HaveOneRootHash laws.bytes_of local peer) → IfOk result (λ ranges. MayAskPeer laws local peer ranges.items)
