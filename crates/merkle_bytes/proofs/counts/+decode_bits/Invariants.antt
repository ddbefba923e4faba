use Rattle.merkle_bytes.proofs.counts.+decode_bits.Given as goal

abbrev pub decreases-decode_bits : goal.decreases-decode_bits
decreases-decode_bits l = l.more
