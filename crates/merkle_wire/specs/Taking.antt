-- What the asking side makes of what came, by what it has itself.
use Rattle.std.specs.Prelude.{◌≡◌, ℕ, List, [], ◌∷◌, ◌++◌, map, Bool, true, false, not, nat_eq, Option, Some, None, ◌⊎◌, ⊤, flat_map, ◌≢◌}
use Rattle.std.specs.List.{filter}
use Rattle.std.specs.Cmp.Lexicographic.{pointwise}
use Rattle.std.specs.declared.cmp.Ordering.{Ordering}
use Rattle.key_order.specs.Map.{get, last_key}
use Rattle.merkle_replica.specs.Contents.{Side, tree_map}
use Rattle.merkle_replica.specs.Descent.{HasPage}
use Rattle.merkle_replica.specs.Laws.{Laws}
use Rattle.merkle_tree_theory.specs.Canonical.{IsTreeOf}
use Rattle.merkle_tree_theory.specs.Gap.{Gap, SameGap, everywhere, part_before, part_behind}
use Rattle.merkle_tree_theory.specs.Lookup.{Fills}
use Rattle.merkle_tree_theory.specs.Stream.{page_digest}
use Rattle.merkle_tree_theory.specs.Tree.{Tree}
use Rattle.merkle_wire.specs.Gaps.{owned_gap}
use Rattle.merkle_wire.specs.Outlines.{Outline, rows_told, digests_told, page_told, digest_of_all}
use Rattle.merkle_wire.specs.Replies.{Part, value_at_bytes, part_in_bytes, root_bytes}
use Rattle.merkle_wire.specs.declared.gaps.OwnedGap.{OwnedGap}
use Rattle.merkle_wire.specs.declared.wanted.Wanted.{Wanted}
use Rattle.merkle_wire.specs.Coming.{EntriesCome, AscendIn, OutlinesCome}
use Rattle.merkle_wire.specs.declared.message.Kind.TheVariants.{RowsAt as rows_at_kind, RowsIn as rows_in_kind, Outlines as outlines_kind, Nodes as nodes_kind}
use Rattle.std.specs.Global.{Vec}
use Rattle.merkle_wire.specs.declared.question.Question.{Question}
use Rattle.merkle_wire.specs.declared.question.Question.TheVariants.{Root, Outlines, Nodes, RowsAt, RowsIn}
use Rattle.merkle_wire.specs.Underway.{Found}

-- whether the digest is there and is this one
abbrev pub is_digest : Option (List ℕ) → List ℕ → Bool
is_digest None d = false
is_digest (Some e) d = pointwise nat_eq e d

-- the row that is told by a key with its value, where there is one
abbrev pub value_row : {K V : Type 0} → Wanted K × Option V → List (K × V)
value_row (w, None) = []
value_row (w, Some v) = (w.key, v) ∷ []

module _ {K V H : Type 0} (laws : Laws K V H) (local : Side K V H) where
  -- whether the side has the key with this digest of its value
  abbrev pub has_digest : K → List ℕ → Bool
  has_digest k d = is_digest (get laws.cmp (tree_map laws local) k) d

  -- the keys of the nodes that it doesn't have
  abbrev pub new_keys : List (K × List ℕ) → List K
  new_keys nodes = map (λ n. n.0) (filter (λ n. not (has_digest n.0 n.1)) nodes)

  -- rows are taken: those that it doesn't have are added to what was found
  abbrev pub AddsRows : List (K × V) → Found K V → Found K V → Type 0
  AddsRows rows before after = after ≡ record before { rows = before.rows ++ filter (λ row. not (has_digest row.0 (laws.value_digest local.hasher row.1))) rows }

  -- nodes are taken: the keys of those that it doesn't have are added
  abbrev pub AddsKeys : List (K × List ℕ) → Found K V → Found K V → Type 0
  AddsKeys nodes before after = after ≡ record before { wanted = before.wanted ++ new_keys nodes }

  -- it has all keys, with digests whose digest is this one
  abbrev pub HasNodes : List K → List ℕ → Type 0
  HasNodes keys digest = (ds : List (List ℕ)) × (map (get laws.cmp (tree_map laws local)) keys ≡ map Some ds) × (digest_of_all ds ≡ digest)

  -- a page of its tree fills the gap, and has this digest
  abbrev pub HasPageAt : Gap K → List ℕ → Type 0
  HasPageAt gap digest = (root : Tree K (List ℕ)) × (page : Tree K (List ℕ)) × IsTreeOf laws.cmp (laws.key_digest local.hasher) local.base root (tree_map laws local)
      × Fills laws.cmp gap page root × (page_digest local.format laws.bytes_of page ≡ digest)

  -- the digest of the peer's root page is taken: the gap of all keys is added, but where there is none, or the side has a page with this digest
  abbrev pub IsRootTaken : Option (List ℕ) → Found K V → Found K V → Type 0
  IsRootTaken None before after = after ≡ before
  IsRootTaken (Some digest) before after = (HasPage laws local digest × (after ≡ before)) ⊎ ((¬ HasPageAt everywhere digest)
      × ((after ≡ record before { whole = before.whole ++ everywhere ∷ [] }) ⊎ (after ≡ record before { below = before.below ++ everywhere ∷ [] })))

  -- a page with this digest fills the gap: `new` is none where the side has a page with it, and the gap, up to equal keys, where its own page there hasn't the digest
  abbrev pub IsNewGap : Gap K → Option (List ℕ) → List (Gap K) → Type 0
  IsNewGap gap None new = new ≡ []
  IsNewGap gap (Some d) new = ((new ≡ []) × HasPage laws local d) ⊎ (((own : Gap K) × (new ≡ own ∷ []) × SameGap laws.cmp gap own) × ¬ HasPageAt gap d)

  -- `new` are such gaps of those into which the keys part a gap, by the digests of the pages that fill them
  abbrev pub AreNewGaps : Gap K → List K → List (Option (List ℕ)) → List (Gap K) → Type 0
  AreNewGaps gap [] (page ∷ []) new = IsNewGap gap page new
  AreNewGaps gap (k ∷ ks) (page ∷ pages) new = (first : List _) × (rest : List _) × IsNewGap (part_before gap k) page first × AreNewGaps (part_behind gap k) ks pages rest × (new ≡ first ++ rest)
  AreNewGaps gap _ _ new = ⊥

  -- what was told of the page over a gap is taken: what the side doesn't have is added to what was found
  abbrev pub IsPageTaken : Gap K → Outline K V → Found K V → Found K V → Type 0
  IsPageTaken gap (rows_told rows) before after = AddsRows rows before after
  IsPageTaken gap (digests_told nodes) before after = AddsKeys nodes before after
  IsPageTaken gap (page_told digest keys pages) before after = (gaps : List (Gap K)) × (nodes : List (Gap K)) × AreNewGaps gap keys pages gaps
      × (((nodes ≡ []) × HasNodes keys digest) ⊎ (((own : Gap K) × (nodes ≡ own ∷ []) × SameGap laws.cmp gap own) × ¬ HasNodes keys digest))
      × (after ≡ record before { below = before.below ++ gaps; nodes = before.nodes ++ nodes })

  -- so was what was told of the pages over several gaps
  abbrev pub AreTaken : List (OwnedGap K × Outline K V) → Found K V → Found K V → Type 0
  AreTaken [] before after = after ≡ before
  AreTaken (t ∷ ts) before after = (mid : Found K V) × IsPageTaken (owned_gap t.0) t.1 before mid × AreTaken ts mid after

-- the gap after the last of the rows, up to equal keys, where they are not all
abbrev pub IsBehind : {K V : Type 0} → (K → K → Ordering) → Gap K → Part K V → List (OwnedGap K) → Type 0
IsBehind {K} {V} cmp gap part left = (part.whole ≡ true × left ≡ []) ⊎ ((row : K × V) × (rows : List (K × V)) × (own : OwnedGap K)
    × (part.whole ≡ false) × (part.rows ≡ row ∷ rows) × SameGap cmp (part_behind gap (last_key row.0 rows)) (owned_gap own) × (left ≡ own ∷ []))

-- the gaps after parts, one after the other
abbrev pub AreBehind : {K V : Type 0} → (K → K → Ordering) → List (OwnedGap K × Part K V) → List (OwnedGap K) → Type 0
AreBehind cmp [] left = left ≡ []
AreBehind cmp (t ∷ ts) left = (first : List _) × (rest : List _) × IsBehind cmp (owned_gap t.0) t.1 first × AreBehind cmp ts rest × (left ≡ first ++ rest)

-- values at the first of the keys came, and of the rows that they tell P holds
abbrev pub ValuesCome : {K V : Type 0} → (V → List ℕ) → (List (K × V) → Type 0) → List (Wanted K) → List ℕ → List (Wanted K) → Type 0
ValuesCome values P = EntriesCome rows_at_kind (value_at_bytes values) (λ w value. ⊤) (λ told. P (flat_map value_row told))

-- rows in the first of the gaps came, which ascend in them, and P holds of them; `left` are the gaps after rows that are not all of theirs, and the others
abbrev pub PartsCome : {K V : Type 0} → (K → K → Ordering) → (K → List ℕ) → (V → List ℕ) → (List (K × V) → Type 0) → List (OwnedGap K) → List ℕ → List (OwnedGap K) → Type 0
PartsCome {K} cmp encoding values P gaps reply left = (behind : List (OwnedGap K)) × (rest : List (OwnedGap K)) × (left ≡ behind ++ rest)
    × EntriesCome rows_in_kind (part_in_bytes encoding values) (λ g part. AscendIn cmp (owned_gap g) (map (λ r. r.0) part.rows))
    (λ told. AreBehind cmp told behind × P (flat_map (λ t. t.1.rows) told)) gaps reply rest

-- the question asks for what is left, where anything is
abbrev pub AsksAgain : {K X : Type 0} → (Vec X → Question K) → List X → Option (Question K) → Type 0
AsksAgain ask left again = ((left ≡ []) × (again ≡ None)) ⊎ ((rest : Vec _) × (rest.items ≡ left) × (left ≢ []) × (again ≡ Some (ask rest)))

module _ {K V H : Type 0} (laws : Laws K V H) (n : ℕ) (encoding : K → List ℕ) (values : V → List ℕ) (local : Side K V H) where
  -- what came with a reply to a question is taken, and of rows those that the side doesn't have; what is left is to be asked again
  abbrev pub HasTakenReply : Question K → List ℕ → Found K V → Found K V → Option (Question K) → Type 0
  HasTakenReply (Root settings) reply before after again = (count : ℕ) × (digest : Option (List ℕ))
      × (reply ≡ root_bytes count digest) × IsRootTaken laws local digest before after × (again ≡ None)
  HasTakenReply (Outlines most gaps) reply before after again = (left : List (OwnedGap K))
      × OutlinesCome laws.cmp encoding values n outlines_kind (λ told. AreTaken laws local told before after) gaps.items reply left × AsksAgain (Outlines most) left again
  HasTakenReply (Nodes most gaps) reply before after again = (left : List (OwnedGap K))
      × OutlinesCome laws.cmp encoding values n nodes_kind (λ told. AreTaken laws local told before after) gaps.items reply left × AsksAgain (Nodes most) left again
  HasTakenReply (RowsAt keys) reply before after again = (left : List _) × ValuesCome values (λ rows. AddsRows laws local rows before after) keys.items reply left × AsksAgain RowsAt left again
  HasTakenReply (RowsIn gaps) reply before after again = (left : List _)
      × PartsCome laws.cmp encoding values (λ rows. AddsRows laws local rows before after) gaps.items reply left × AsksAgain RowsIn left again
