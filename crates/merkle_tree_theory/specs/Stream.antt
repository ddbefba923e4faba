-- The stream of a page in a format, and the digest of a page, which is SipHash-2-4-128 of its stream under the zero key.
use Rattle.std.specs.Prelude.{◌≡◌, ℕ, List, [], ◌∷◌, ◌++◌, length}
use Rattle.std.specs.Int.{w64, to_le_bytes}
use Rattle.merkle_digest.specs.SipHash.{siphash128, zero_key}
use Rattle.merkle_tree_theory.specs.Tree.{Tree, page, Row, high, node, Held, nothing, below}
use Rattle.merkle_tree_theory.specs.Page.{row_nodes}
use Rattle.merkle_tree_theory.specs.declared.page_format.PageFormat.{PageFormat}
use Rattle.merkle_tree_theory.specs.declared.page_format.PageFormat.TheVariants.{V1, V2}

-- what stands before the first node of a page of this level and with this many nodes: in format 2 a mark, the level and the number of nodes
abbrev pub head_bytes : PageFormat → ℕ → ℕ → List ℕ
head_bytes V1 l n = []
head_bytes V2 l n = 2 ∷ l ∷ to_le_bytes w64 n

-- what stands for a page that is not there: in format 2 the mark of none
abbrev pub none_bytes : PageFormat → List ℕ
none_bytes V1 = []
none_bytes V2 = 0 ∷ []

-- what stands for a page with this digest: its digest, in format 2 after the mark of one
abbrev pub below_bytes : PageFormat → List ℕ → List ℕ
below_bytes V1 digest = digest
below_bytes V2 digest = 1 ∷ digest

-- what stands for a key with these bytes: the bytes, in format 2 after their number
abbrev pub key_bytes : PageFormat → List ℕ → List ℕ
key_bytes V1 bytes = bytes
key_bytes V2 bytes = to_le_bytes w64 (length bytes) ++ bytes

module _ {K : Type 0} (format : PageFormat) (bytes_of : K → List ℕ) where
  abbrev mutual
    -- the stream of a page in a format
    pub stream_of : Tree K (List ℕ) → List ℕ
    stream_of (page l c r) = head_bytes format l (length (row_nodes r)) ++ row_stream r

    -- for each node what stands for the page below it, what stands for its key, and its value digest, and at the end what stands for
    -- the high page
    pub row_stream : Row K (List ℕ) → List ℕ
    row_stream (high h) = held_stream h
    row_stream (node h k d r) = held_stream h ++ key_bytes format (bytes_of k) ++ d ++ row_stream r

    pub held_stream : Held K (List ℕ) → List ℕ
    held_stream nothing = none_bytes format
    held_stream (below t) = below_bytes format (siphash128 zero_key (stream_of t))

  -- the digest of a page, whatever caches there are
  abbrev pub page_digest : Tree K (List ℕ) → List ℕ
  page_digest t = siphash128 zero_key (stream_of t)

  -- two pages have one digest
  abbrev pub SameDigest : Tree K (List ℕ) → Tree K (List ℕ) → Type 0
  SameDigest t u = page_digest t ≡ page_digest u
