-- SipHash-2-4 with 128 bits of output (Aumasson and Bernstein, "SipHash: a fast short-input PRF"), of a whole message.
-- A word is a number below 2 ^ 64, and a key and a message are lists of bytes.
use Rattle.std.specs.Prelude.{ℕ, zero, suc, ◌+◌, ◌-◌, ◌*◌, ◌/◌, ◌%◌, ◌^◌, List, [], ◌∷◌, ◌++◌, length, take, drop, replicate, fold, bit_xor}
use Rattle.std.specs.Int.{w64, rotate_left, from_le_bytes, to_le_bytes}
use Rattle.merkle_digest.specs.declared.siphash.state.SipState.{SipState}

-- the sum of two words, modulo 2 ^ 64
abbrev pub add64 : ℕ → ℕ → ℕ
add64 x y = (x + y) % 2 ^ 64

-- the word of eight bytes, the lowest first
unfoldable pub word : List ℕ → ℕ
word bytes = from_le_bytes w64 bytes

-- the word after the first n words of a list of bytes
abbrev pub word_at : List ℕ → ℕ → ℕ
word_at bytes n = word (take 8 (drop (8 * n) bytes))

-- the state before the first word, under a key of 16 bytes
unfoldable pub start : List ℕ → SipState
start key = record {
  v0 = bit_xor (word_at key 0) 0x736f6d6570736575;
  v1 = bit_xor (bit_xor (word_at key 1) 0x646f72616e646f6d) 0xee;
  v2 = bit_xor (word_at key 0) 0x6c7967656e657261;
  v3 = bit_xor (word_at key 1) 0x7465646279746573;
}

-- one round
unfoldable pub round : SipState → SipState
round s =
    let a0 = add64 s.v0 s.v1 in
    let a1 = bit_xor (rotate_left w64 s.v1 13) a0 in
    let a2 = add64 s.v2 s.v3 in
    let a3 = bit_xor (rotate_left w64 s.v3 16) a2 in
    let b0 = add64 (rotate_left w64 a0 32) a3 in
    let b3 = bit_xor (rotate_left w64 a3 21) b0 in
    let b2 = add64 a2 a1 in
    let b1 = bit_xor (rotate_left w64 a1 17) b2 in
    record { v0 = b0; v1 = b1; v2 = rotate_left w64 b2 32; v3 = b3 }

-- the state after one more word: two rounds
unfoldable pub absorb_word : SipState → ℕ → SipState
absorb_word s m =
    let mixed = round (round (record s { v3 = bit_xor s.v3 m })) in
    record mixed { v0 = bit_xor mixed.v0 m }

-- the first n words of a message
unfoldable pub first_words : List ℕ → ℕ → List ℕ
first_words message zero = []
first_words message (suc n) = first_words message n ++ word_at message n ∷ []

-- the last word: the bytes after the last whole word, zeros, and the length modulo 256 in the top byte
unfoldable pub last_word : List ℕ → ℕ
last_word message =
    word (drop (8 * (length message / 8)) message ++ replicate (7 - length message % 8) 0 ++ length message % 256 ∷ [])

-- the words of a message
abbrev pub words : List ℕ → List ℕ
words message = first_words message (length message / 8) ++ last_word message ∷ []

-- four rounds
abbrev pub four_rounds : SipState → SipState
four_rounds s = round (round (round (round s)))

-- the four words of a state as one
abbrev pub folded : SipState → ℕ
folded s = bit_xor (bit_xor (bit_xor s.v0 s.v1) s.v2) s.v3

-- the 16 bytes of output of the state after the last word: two halves, with four rounds before each
unfoldable pub output : SipState → List ℕ
output s =
    let first = four_rounds (record s { v2 = bit_xor s.v2 0xee }) in
    let second = four_rounds (record first { v1 = bit_xor first.v1 0xdd }) in
    to_le_bytes w64 (folded first) ++ to_le_bytes w64 (folded second)

-- the hash of a message under a key
unfoldable pub siphash128 : List ℕ → List ℕ → List ℕ
siphash128 key message = output (fold absorb_word (start key) (words message))

-- the key of 16 zero bytes
abbrev pub zero_key : List ℕ
zero_key = replicate 16 0
