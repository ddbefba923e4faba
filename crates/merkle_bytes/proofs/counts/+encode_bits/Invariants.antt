use Rattle.merkle_bytes.proofs.counts.+encode_bits.Given as goal

abbrev pub decreases-encode_bits : goal.decreases-encode_bits
decreases-encode_bits l = l.more
