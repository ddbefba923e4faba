-- What comes with a reply: it is of the first of what was asked for, and lies in the gap.
use Rattle.std.specs.Prelude.{◌≡◌, ◌≢◌, ℕ, ◌+◌, List, [], ◌∷◌, length, map, Option, Some, None, ⊤, ◌++◌, flat_map}
use Rattle.std.specs.List.{AllByRecursion}
use Rattle.std.specs.declared.cmp.Ordering.{Ordering}
use Rattle.key_order.specs.Order.{AnyByRecursion, Same}
use Rattle.merkle_tree_theory.specs.Gap.{Gap, IsAfter, IsBefore, IsInGap}
use Rattle.merkle_wire.specs.Gaps.{owned_gap}
use Rattle.merkle_wire.specs.Outlines.{Outline, rows_told, digests_told, page_told}
use Rattle.merkle_wire.specs.declared.gaps.OwnedGap.{OwnedGap}
use Rattle.merkle_wire.specs.declared.question.Question.{Question}
use Rattle.merkle_wire.specs.declared.question.Question.TheVariants.{Root, Outlines, Nodes, RowsAt, RowsIn}
use Rattle.merkle_wire.specs.Messages.{front}
use Rattle.merkle_wire.specs.declared.message.Kind.{Kind}
use Rattle.merkle_wire.specs.Replies.{outline_over_bytes}

-- of the first of what was asked for this came with a reply of a kind, of one at least, each so that P holds, and of all of it Q; `left` are the others
abbrev pub EntriesCome : {X Y : Type 0} → Kind → (X × Y → List ℕ) → (X → Y → Type 0) → (List (X × Y) → Type 0) → List X → List ℕ → List X → Type 0
EntriesCome {X} {Y} kind bytes P Q asked reply left = (told : List (X × Y)) × (reply ≡ front kind ++ flat_map bytes told) × (told ≢ [])
    × (asked ≡ map (λ t. t.0) told ++ left) × AllByRecursion (λ t. P t.0 t.1) told × Q told

-- the digest of a page, where there is one: it has 16 bytes
abbrev pub IsPageDigest : Option (List ℕ) → Type 0
IsPageDigest None = ⊤
IsPageDigest (Some d) = length d ≡ 16

module _ {K : Type 0} (cmp : K → K → Ordering) where
  -- the keys ascend between two bounds: each is above the one before it, the first above the first bound, and all are below the second
  abbrev pub AscendBetween : Option K → Option K → List K → Type 0
  AscendBetween after before [] = ⊤
  AscendBetween after before (k ∷ ks) = IsAfter cmp after k × IsBefore cmp before k × AscendBetween (Some k) before ks

  -- the keys ascend within the gap
  abbrev pub AscendIn : Gap K → List K → Type 0
  AscendIn g = AscendBetween g.after g.before

  -- what was told of the page over a gap has keys that ascend in it, one at least where it has pages beside them, and digests of n bytes, of pages 16
  abbrev pub LiesIn : {V : Type 0} → ℕ → Gap K → Outline K V → Type 0
  LiesIn n g (rows_told rows) = AscendIn g (map (λ r. r.0) rows)
  LiesIn n g (digests_told nodes) = AscendIn g (map (λ d. d.0) nodes) × AllByRecursion (λ d. length d.1 ≡ n) nodes
  LiesIn n g (page_told digest keys pages) = (keys ≢ []) × AscendIn g keys × (length digest ≡ 16) × AllByRecursion IsPageDigest pages × (length pages ≡ length keys + 1)

  -- outlines of the pages over the first of the gaps came, which lie in them
  abbrev pub OutlinesCome : {V : Type 0} → (K → List ℕ) → (V → List ℕ) → ℕ → Kind → (List (OwnedGap K × Outline K V) → Type 0) → List (OwnedGap K) → List ℕ → List (OwnedGap K) → Type 0
  OutlinesCome encoding values n kind = EntriesCome kind (outline_over_bytes encoding values) (λ g. LiesIn n (owned_gap g))

  -- the question asks for the key: it is in one of its gaps, or is one of its keys
  abbrev pub IsAskedFor : Question K → K → Type 0
  IsAskedFor (Root settings) k = ⊥
  IsAskedFor (Outlines most gaps) k = AnyByRecursion (λ g. IsInGap cmp k (owned_gap g)) gaps.items
  IsAskedFor (Nodes most gaps) k = AnyByRecursion (λ g. IsInGap cmp k (owned_gap g)) gaps.items
  IsAskedFor (RowsAt keys) k = AnyByRecursion (λ w. Same cmp k w.key) keys.items
  IsAskedFor (RowsIn gaps) k = AnyByRecursion (λ g. IsInGap cmp k (owned_gap g)) gaps.items
