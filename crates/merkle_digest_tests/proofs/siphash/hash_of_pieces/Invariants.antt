use Rattle.std.proofs.Common.{map, take}
use Rattle.std.specs.List.{concat}
use Rattle.merkle_digest.specs.SipHash.{zero_key}
use Rattle.merkle_digest.specs.Sip24.{Holds}
use Rattle.merkle_digest_tests.proofs.siphash.hash_of_pieces.Given as goal

-- the hasher holds the pieces so far
abbrev pub invariant-pieces : goal.invariant-pieces
invariant-pieces l = Holds l.sip zero_key (concat (map (λ piece. piece.now) (take l.piece-index l.pieces)))
