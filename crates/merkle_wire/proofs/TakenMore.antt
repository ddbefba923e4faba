-- What was taken, one more after the others.
use Rattle.std.proofs.Common.{◌≡◌, ℕ, List, [], ◌∷◌, ◌++◌, map, refl, ap, sym, subst, ◌∙◌, append_assoc, append-nil, not, cond, Bool, true, false}
use Rattle.std.specs.List.{filter, flat_map}
use Rattle.std.specs.declared.cmp.Ordering.{Ordering}
use Rattle.std.proofs.lemmas.List.Elements.{filter-append}
use Rattle.std.proofs.lemmas.Grind.{flat_map-append}
use Rattle.std.proofs.lemmas.List.{map-append}
use Rattle.merkle_replica.specs.Contents.{Side}
use Rattle.merkle_replica.specs.Laws.{Laws}
use Rattle.merkle_tree_theory.specs.Gap.{Gap}
use Rattle.merkle_wire.specs.Underway.{Found}
use Rattle.merkle_wire.specs.Gaps.{owned_gap}
use Rattle.merkle_wire.specs.Outlines.{Outline}
use Rattle.merkle_wire.specs.Replies.{Part}
use Rattle.merkle_wire.specs.Taking.{AddsRows, IsPageTaken, AreTaken, IsBehind, AreBehind, has_digest, new_keys}
use Rattle.merkle_wire.specs.declared.gaps.OwnedGap.{OwnedGap}
use Rattle.merkle_wire.proofs.Lacking.{has_row, new_rows}

module _ {K V : Type 0} (cmp : K → K → Ordering) where
  pub behind-more : (ts : List (OwnedGap K × Part K V)) (t : OwnedGap K × Part K V) (left more : List (OwnedGap K))
      → AreBehind cmp ts left → IsBehind cmp (owned_gap t.0) t.1 more → AreBehind cmp (ts ++ t ∷ []) (left ++ more)
  behind-more [] t left more e h = (more, [], h, refl, ap (λ l. l ++ more) e ∙ sym (append-nil more))
  behind-more (s ∷ ts) t left more (first, rest, i, b, e) h = (first, rest ++ more, i, behind-more ts t rest more b h, ap (λ l. l ++ more) e ∙ append_assoc first rest more)

module _ {K V H : Type 0} (laws : Laws K V H) (local : Side K V H) where
  pub taken-more : (ts : List (OwnedGap K × Outline K V)) (t : OwnedGap K × Outline K V) (before mid after : Found K V)
      → AreTaken laws local ts before mid → IsPageTaken laws local (owned_gap t.0) t.1 mid after → AreTaken laws local (ts ++ t ∷ []) before after
  taken-more [] t before mid after e h = (after, subst (λ f. IsPageTaken laws local (owned_gap t.0) t.1 f after) e h, refl)
  taken-more (s ∷ ts) t before mid after (first, i, rest) h = (first, i, taken-more ts t first mid after rest h)

  -- rows that are new are so among others
  pub new_rows-append : (xs ys : List (K × V)) → new_rows laws local (xs ++ ys) ≡ new_rows laws local xs ++ new_rows laws local ys
  new_rows-append xs ys = filter-append (λ (row : K × V). not (has_row laws local row)) xs ys

  -- more rows are taken
  pub rows-more : (before mid after : Found K V) (rows more : List (K × V)) → mid ≡ record before { rows = before.rows ++ new_rows laws local rows }
      → after ≡ record mid { rows = mid.rows ++ new_rows laws local more } → after ≡ record before { rows = before.rows ++ new_rows laws local (rows ++ more) }
  rows-more before mid after rows more m a =
      a ∙ ap {A = Found K V} (λ f. record f { rows = f.rows ++ new_rows laws local more }) m
      ∙ (λ i. record before { rows = (append_assoc before.rows (new_rows laws local rows) (new_rows laws local more) ∙ ap (λ t. before.rows ++ t) (sym (new_rows-append rows more))) i })

  -- so are those that one more entry tells
  pub rows_of_more : {X : Type 0} (tells : X → List (K × V)) (ts : List X) (t : X) (before mid after : Found K V)
      → AddsRows laws local (flat_map tells ts) before mid → AddsRows laws local (tells t) mid after → AddsRows laws local (flat_map tells (ts ++ t ∷ [])) before after
  rows_of_more tells ts t before mid after m a =
      subst (λ rows. AddsRows laws local rows before after) (ap (λ rows. flat_map tells ts ++ rows) (sym (append-nil (tells t))) ∙ sym (flat_map-append tells ts (t ∷ [])))
      (rows-more before mid after (flat_map tells ts) (tells t) m a)

  pub new_keys-append : (xs ys : List (K × List ℕ)) → new_keys laws local (xs ++ ys) ≡ new_keys laws local xs ++ new_keys laws local ys
  new_keys-append xs ys =
      ap (map (λ n. n.0)) (filter-append (λ (n : K × List ℕ). not (has_digest laws local n.0 n.1)) xs ys)
      ∙ map-append (λ (n : K × List ℕ). n.0) (filter (λ n. not (has_digest laws local n.0 n.1)) xs) (filter (λ n. not (has_digest laws local n.0 n.1)) ys)

  pub new_key : (node : K × List ℕ) → new_keys laws local (node ∷ []) ≡ cond (not (has_digest laws local node.0 node.1)) (node.0 ∷ []) []
  new_key node = chosen (not (has_digest laws local node.0 node.1))
    where
      chosen : (b : Bool) → map (λ (n : K × List ℕ). n.0) (cond b (node ∷ []) []) ≡ cond b (node.0 ∷ []) []
      chosen true = refl
      chosen false = refl

  pub keys-more : (before mid after : Found K V) (nodes more : List (K × List ℕ)) → mid ≡ record before { wanted = before.wanted ++ new_keys laws local nodes }
      → after ≡ record mid { wanted = mid.wanted ++ new_keys laws local more } → after ≡ record before { wanted = before.wanted ++ new_keys laws local (nodes ++ more) }
  keys-more before mid after nodes more m a =
      a ∙ ap {A = Found K V} (λ f. record f { wanted = f.wanted ++ new_keys laws local more }) m
      ∙ (λ i. record before { wanted = (append_assoc before.wanted (new_keys laws local nodes) (new_keys laws local more) ∙ ap (λ t. before.wanted ++ t) (sym (new_keys-append nodes more))) i })

-- the gaps below a page are taken, and then the gap of the page itself, or none
pub page_taken : {K V : Type 0} (before mid now : Found K V) (gaps nodes : List (Gap K)) → mid ≡ record before { below = before.below ++ gaps } → now ≡ record mid { nodes = mid.nodes ++ nodes }
    → now ≡ record before { below = before.below ++ gaps; nodes = before.nodes ++ nodes }
page_taken {K} {V} before mid now gaps nodes m n = n ∙ ap {A = Found K V} (λ f. record f { nodes = f.nodes ++ nodes }) m
