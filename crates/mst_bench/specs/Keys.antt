-- The keys of the sample.
use Rattle.std.specs.Prelude.{ℕ, zero, suc, ◌-◌, ◌*◌, ◌/◌, ◌%◌, ◌^◌, List, [], ◌∷◌, ◌++◌, false, bit_xor, codes}
use Rattle.std.specs.Fmt.{format_spec, padded_integral, radix_digits}

-- the state of the generator xorshift64 after this one (Marsaglia, "Xorshift RNGs")
abbrev pub next_state : ℕ → ℕ
next_state state =
    let a = bit_xor state (state * 2 ^ 13 % 2 ^ 64) in
    let b = bit_xor a (a / 2 ^ 7) in
    bit_xor b (b * 2 ^ 17 % 2 ^ 64)

-- the 16 lower-case hex digits of a number below 2 ^ 64, with zeros at their front
abbrev pub hex : ℕ → List ℕ
hex n = padded_integral (format_spec 32 0 4 16 (2 ^ 64 - 1)) false [] (radix_digits 16 false n)

-- the key of a state: `k` and its hex digits
abbrev pub key_text : ℕ → List ℕ
key_text state = codes "k" ++ hex state

-- the keys of the first n states after this one
abbrev pub key_texts : ℕ → ℕ → List (List ℕ)
key_texts zero state = []
key_texts (suc n) state = key_text (next_state state) ∷ key_texts n (next_state state)
