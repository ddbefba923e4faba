-- What holds of whatever rows digests are those of.
use Rattle.std.proofs.Common.{List, sym, ◌∙◌}
use Rattle.std.specs.Cmp.{IsTotalOrder}
use Rattle.merkle_replica.specs.Contents.{tree_map}
use Rattle.merkle_replica.specs.Laws.{Laws}
use Rattle.merkle_replica.proofs.Descents.{same_get}
use Rattle.merkle_wire.specs.ItsRows.{AreDigestsOf, Digests, side_of}
use Rattle.merkle_wire.specs.Sessions.{IsKeyOf}
use Rattle.merkle_wire.proofs.ExchangeKeys.{of_tree}

module _ {K V H : Type 0} (laws : Laws K V H) where
  -- a key with a digest is one of the rows'
  pub key_of_rows : IsTotalOrder laws.cmp → (own : Digests K H) (rows : List (K × V)) → AreDigestsOf laws own rows → (k : K) → IsKeyOf laws.cmp own.map k → IsKeyOf laws.cmp rows k
  key_of_rows o own rows of k (d, there) =
      let local = side_of own rows in
      of_tree laws o local local k d (sym (same_get laws.cmp o own.map (tree_map laws local) of k) ∙ there)
