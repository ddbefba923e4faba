-- Keys that are byte strings, and the map of a tree of them.
use Rattle.std.specs.Prelude.{ℕ, List, map}
use Rattle.std.specs.Global.{Vec}
use Rattle.std.specs.Cmp.Lexicographic.{slice_cmp}
use Rattle.std.specs.Ordering.{nat_cmp}
use Rattle.std.specs.declared.cmp.Ordering.{Ordering}
use Rattle.merkle_tree_theory.specs.State.{State, map_of}

-- the bytes of a key
abbrev pub key_items : Vec ℕ → List ℕ
key_items key = key.items

-- byte strings in the order of their bytes
abbrev pub bytes_cmp : List ℕ → List ℕ → Ordering
bytes_cmp = slice_cmp nat_cmp

-- keys in the order of their bytes
abbrev pub key_cmp : Vec ℕ → Vec ℕ → Ordering
key_cmp a b = bytes_cmp (key_items a) (key_items b)

-- a key by its bytes, with the digest of its value
abbrev pub by_key : Vec ℕ × List ℕ → List ℕ × List ℕ
by_key pair = (pair.0.items, pair.1)

-- the map of a tree: its keys in order, each with the digest of its value
abbrev pub pairs_of : {H : Type 0} → State (Vec ℕ) H → List (List ℕ × List ℕ)
pairs_of tree = map by_key (map_of tree)
