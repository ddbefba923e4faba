-- The stream of a page in format 2 tells its parts.
use Rattle.std.proofs.Common.{◌≡◌, ℕ, ◌<◌, ◌^◌, List, [], ◌∷◌, ◌++◌, length, Option, refl, ap, sym, ◌∙◌, append_assoc, append-nil, arith}
use Rattle.std.specs.Int.{w64, to_le_bytes}
use Rattle.key_order.proofs.ListParts.{join_tells}
use Rattle.key_order.proofs.Numbers.{number_tells}
use Rattle.merkle_digest.specs.SipHash.{siphash128, output, zero_key}
use Rattle.merkle_tree_theory.specs.Tree.{Tree, page, Row, high, node, Held, nothing, below}
use Rattle.merkle_tree_theory.specs.Page.{row_nodes}
use Rattle.merkle_tree_theory.specs.declared.page_format.PageFormat.{PageFormat}
use Rattle.merkle_tree_theory.specs.declared.page_format.PageFormat.TheVariants.{V2}
use Rattle.merkle_tree_theory.specs.Stream.{page_digest, row_stream, held_stream, stream_of, key_bytes}
use Rattle.merkle_tree_theory.proofs.EqualStreams.{SameBelow, SameParts}

-- a hash has 16 bytes
pub hash_length : (key message : List ℕ) → length (siphash128 key message) ≡ 16
unfolding siphash128 output
hash_length key message = refl

module _ {K : Type 0} (format : PageFormat) (bytes_of : K → List ℕ) where
  pub digest_length : (t : Tree K (List ℕ)) → length (page_digest format bytes_of t) ≡ 16
  digest_length (page l c r) = hash_length zero_key _

module _ {K : Type 0} (bytes_of : K → List ℕ) (n : ℕ) where
  -- each node's key has fewer than 2 ^ 64 bytes, and its value digest n
  abbrev pub RowMeasured : Row K (List ℕ) → Type 0
  RowMeasured (high h) = Unit {0}
  RowMeasured (node h k d r) = (length (bytes_of k) < 2 ^ 64) × (length d ≡ n) × RowMeasured r

  held_tells : (h h' : Held K (List ℕ)) (us vs : List ℕ) → held_stream V2 bytes_of h ++ us ≡ held_stream V2 bytes_of h' ++ vs → SameBelow V2 bytes_of h h' × (us ≡ vs)
  held_tells nothing nothing us vs e = (tt, cc)
  held_tells nothing (below t') us vs e = absurd (cc)
  held_tells (below t) nothing us vs e = absurd (cc)
  held_tells (below t) (below t') us vs e =
      let rest : page_digest V2 bytes_of t ++ us ≡ page_digest V2 bytes_of t' ++ vs = cc in
      join_tells (page_digest V2 bytes_of t) (page_digest V2 bytes_of t') us vs (digest_length V2 bytes_of t ∙ sym (digest_length V2 bytes_of t')) rest

  key_tells : (xs ys us vs : List ℕ) → length xs < 2 ^ 64 → length ys < 2 ^ 64 → key_bytes V2 xs ++ us ≡ key_bytes V2 ys ++ vs → (xs ≡ ys) × (us ≡ vs)
  key_tells xs ys us vs a b e =
      let w = join_tells (to_le_bytes w64 (length xs)) (to_le_bytes w64 (length ys)) (xs ++ us) (ys ++ vs) refl
      (sym (append_assoc (to_le_bytes w64 (length xs)) xs us) ∙ e ∙ append_assoc (to_le_bytes w64 (length ys)) ys vs) in
      join_tells xs ys us vs (number_tells (length xs) (length ys) a b w.0) w.1

  -- the parts of a row with this many nodes
  pub row_tells : (r r' : Row K (List ℕ)) → length (row_nodes r) ≡ length (row_nodes r') → RowMeasured r → RowMeasured r'
      → row_stream V2 bytes_of r ≡ row_stream V2 bytes_of r' → SameParts V2 bytes_of r r'
  row_tells (high h) (high h') c m m' e = (held_tells h h' [] [] (append-nil (held_stream V2 bytes_of h) ∙ e ∙ sym (append-nil (held_stream V2 bytes_of h')))).0
  row_tells (high h) (node h' k' d' r') c m m' e = absurd (omega (arith, c))
  row_tells (node h k d r) (high h') c m m' e = absurd (omega (arith, c))
  row_tells (node h k d r) (node h' k' d' r') c m m' e =
      let apart = λ (x : Held K (List ℕ)) (y : K) (z : List ℕ) (w : List ℕ). ap (λ v. v ++ w)
      (append_assoc (held_stream V2 bytes_of x) (key_bytes V2 (bytes_of y)) z)
      ∙ append_assoc (held_stream V2 bytes_of x) (key_bytes V2 (bytes_of y) ++ z) w ∙ ap (λ v. held_stream V2 bytes_of x ++ v) (append_assoc (key_bytes V2 (bytes_of y)) z w) in
      let a = held_tells h h' (key_bytes V2 (bytes_of k) ++ (d ++ row_stream V2 bytes_of r)) (key_bytes V2 (bytes_of k') ++ (d' ++ row_stream V2 bytes_of r'))
      (sym (apart h k d (row_stream V2 bytes_of r)) ∙ e ∙ apart h' k' d' (row_stream V2 bytes_of r')) in
      let b = key_tells (bytes_of k) (bytes_of k') (d ++ row_stream V2 bytes_of r) (d' ++ row_stream V2 bytes_of r') m.0 m'.0 a.1 in
      let g = join_tells d d' (row_stream V2 bytes_of r) (row_stream V2 bytes_of r') (m.1 ∙ sym m'.1) b.1 in
      let same : length (row_nodes r) ≡ length (row_nodes r') = omega (arith, c) in
      (a.0, b.0, g.0, row_tells r r' same m.2 m'.2 g.1)

  -- equal streams tell the level, the number of nodes and the parts of a page
  pub page_tells : (l l' : ℕ) (r r' : Row K (List ℕ)) (c c' : Option (List ℕ)) → length (row_nodes r) < 2 ^ 64 → length (row_nodes r') < 2 ^ 64 → RowMeasured r → RowMeasured r'
      → stream_of V2 bytes_of (page l c r) ≡ stream_of V2 bytes_of (page l' c' r') → (l ≡ l') × (length (row_nodes r) ≡ length (row_nodes r')) × SameParts V2 bytes_of r r'
  page_tells l l' r r' c c' b b' m m' e =
      let first : l ≡ l' = cc in
      let rest : to_le_bytes w64 (length (row_nodes r)) ++ row_stream V2 bytes_of r ≡ to_le_bytes w64 (length (row_nodes r')) ++ row_stream V2 bytes_of r' = cc in
      let w = join_tells (to_le_bytes w64 (length (row_nodes r))) (to_le_bytes w64 (length (row_nodes r'))) (row_stream V2 bytes_of r) (row_stream V2 bytes_of r') refl rest in
      let same = number_tells (length (row_nodes r)) (length (row_nodes r')) b b' w.0 in
      (first, same, row_tells r r' same m m' w.1)
