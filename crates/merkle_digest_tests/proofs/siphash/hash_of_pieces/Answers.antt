use Rattle.std.proofs.Common.{[]}
use Rattle.std.proofs.lemmas.List.{take_more, map-append, append-nil}
use Rattle.std.proofs.lemmas.List.Folds.{concat-append}
use Rattle.merkle_digest.specs.SipHash.{zero_key}
use Rattle.merkle_digest_tests.proofs.siphash.hash_of_pieces.Goals as goal

pub pieces-preserved : goal.pieces-preserved
pieces-preserved c =
    rw (take_more c.args.pieces.now c.pieces.piece-index (record { ref_ptr = (0, 0); now = [] }) c.pieces-test.true, map-append, concat-append, append-nil)
    (c.write.ensures zero_key _ c.pieces.invariant)
