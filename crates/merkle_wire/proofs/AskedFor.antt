-- What was taken of a reply was asked for.
use Rattle.std.proofs.Common.{◌≡◌, ℕ, Bool, true, false, cond, List, [], ◌∷◌, ◌++◌, map, Option, Some, None, ap, sym, subst, ◌∙◌, append_assoc, append-nil, inl, inr}
use Rattle.std.specs.Cmp.{IsTotalOrder}
use Rattle.std.specs.List.{AllByRecursion, filter, flat_map}
use Rattle.std.specs.List.Sorted.{IsPermutation}
use Rattle.std.specs.declared.cmp.Ordering.{Ordering}
use Rattle.key_order.specs.Order.{AnyByRecursion, Below, Same}
use Rattle.key_order.proofs.ListParts.{each-append}
use Rattle.key_order.proofs.Orders.{low_low, same_from, up_self}
use Rattle.merkle_replica.specs.Contents.{Side}
use Rattle.merkle_replica.specs.Laws.{Laws}
use Rattle.merkle_tree_theory.specs.Gap.{Gap, IsAfter, IsBefore, IsInGap}
use Rattle.merkle_wire.specs.Underway.{IsAskedOf, IsTakenFrom, Found, Underway}
use Rattle.merkle_wire.specs.Coming.{AscendBetween, AscendIn, LiesIn, IsAskedFor}
use Rattle.merkle_wire.specs.Gaps.{owned_gap}
use Rattle.merkle_wire.specs.Next.{IsNext, AsksOrGoesOn, OnlyAskedFor}
use Rattle.merkle_wire.specs.Outlines.{Outline, rows_told, digests_told, page_told}
use Rattle.merkle_wire.specs.Replies.{Part}
use Rattle.merkle_wire.specs.Taking.{IsRootTaken, IsPageTaken, AreTaken, value_row, HasTakenReply}
use Rattle.merkle_wire.specs.declared.catching_up.Next.{Next}
use Rattle.merkle_wire.specs.declared.catching_up.Next.TheVariants.{Ask, Came}
use Rattle.merkle_wire.specs.declared.gaps.OwnedGap.{OwnedGap}
use Rattle.merkle_wire.specs.declared.question.Question.{Question}
use Rattle.merkle_wire.specs.declared.question.Question.TheVariants.{Root, Outlines, Nodes, RowsAt, RowsIn}
use Rattle.merkle_wire.specs.declared.wanted.Wanted.{Wanted}
use Rattle.merkle_wire.proofs.Lacking.{IsInOneOf, all_whole, new_rows}

module _ {X : Type 0} where
  each : (P Q : X → Type 0) → ((x : X) → P x → Q x) → (xs : List X) → AllByRecursion P xs → AllByRecursion Q xs
  each P Q f [] ps = tt
  each P Q f (x ∷ xs) ps = (f x ps.0, each P Q f xs ps.1)

  -- what holds of each holds of those that pass a test
  each_passed : (P : X → Type 0) (test : X → Bool) (xs : List X) → AllByRecursion P xs → AllByRecursion P (filter test xs)
  each_passed P test [] ps = tt
  each_passed P test (x ∷ xs) ps = chosen (test x) (each_passed P test xs ps.1)
    where
      chosen : (b : Bool) → AllByRecursion P (filter test xs) → AllByRecursion P (cond b (x ∷ filter test xs) (filter test xs))
      chosen true rest = (ps.0, rest)
      chosen false rest = rest

  any-before : (P : X → Type 0) (xs ys : List X) → AnyByRecursion P xs → AnyByRecursion P (xs ++ ys)
  any-before P [] ys a = absurd a
  any-before P (x ∷ xs) ys (inl p) = inl p
  any-before P (x ∷ xs) ys (inr a) = inr (any-before P xs ys a)

module _ {K : Type 0} (cmp : K → K → Ordering) (o : IsTotalOrder cmp) where
  after_later : (a : Option K) (k j : K) → IsAfter cmp a k → Below cmp k j → IsAfter cmp a j
  after_later None k j up l = tt
  after_later (Some a) k j up l = low_low cmp o a k j up l

  -- rows whose keys ascend between bounds are between them
  all_between : {V : Type 0} (a b : Option K) (rows : List (K × V)) → AscendBetween cmp a b (map (λ r. r.0) rows) → AllByRecursion (λ r. IsAfter cmp a r.0 × IsBefore cmp b r.0) rows
  all_between a b [] up = tt
  all_between a b (r ∷ rows) up = (
    (up.0, up.1),
    each (λ s. IsAfter cmp (Some r.0) s.0 × IsBefore cmp b s.0) (λ s. IsAfter cmp a s.0 × IsBefore cmp b s.0)
        (λ s p. (after_later a r.0 s.0 up.0 p.0, p.1)) rows (all_between (Some r.0) b rows up.2),
  )

module _ {K V H : Type 0} (laws : Laws K V H) (o : IsTotalOrder laws.cmp) (local : Side K V H) where
  -- the rows that are new of rows in a gap are in it
  new_in_gap : (g : Gap K) (rows : List (K × V)) → AscendIn laws.cmp g (map (λ r. r.0) rows) → AllByRecursion (λ r. IsInGap laws.cmp r.0 g) (new_rows laws local rows)
  new_in_gap g rows up = each_passed (λ r. IsInGap laws.cmp r.0 g) _ rows (all_between laws.cmp o g.after g.before rows up)

  -- the rows that are added hold to P
  abbrev pub AddsOnly : (K → Type 0) → Found K V → Found K V → Type 0
  AddsOnly P before after = (new : List (K × V)) × AllByRecursion (λ r. P r.0) new × (after.rows ≡ before.rows ++ new)

  adds_none : (P : K → Type 0) (before after : Found K V) → after.rows ≡ before.rows → AddsOnly P before after
  adds_none P before after e = ([], tt, e ∙ sym (append-nil before.rows))

  taken_in_gap : (n : ℕ) (g : Gap K) (told : Outline K V) (before after : Found K V) → LiesIn laws.cmp n g told → IsPageTaken laws local g told before after
      → AddsOnly (λ k. IsInGap laws.cmp k g) before after
  taken_in_gap n g (rows_told rows) before after lies taken = (new_rows laws local rows, new_in_gap g rows lies, ap (λ f. f.rows) taken)
  taken_in_gap n g (digests_told nodes) before after lies taken = adds_none (λ k. IsInGap laws.cmp k g) before after (ap (λ f. f.rows) taken)
  taken_in_gap n g (page_told digest keys pages) before after lies taken = adds_none (λ k. IsInGap laws.cmp k g) before after (ap (λ f. f.rows) taken.4)

  taken_in_gaps : (n : ℕ) (told : List (OwnedGap K × Outline K V)) (before after : Found K V) → AllByRecursion (λ t. LiesIn laws.cmp n (owned_gap t.0) t.1) told → AreTaken laws local told before after
      → AddsOnly (IsInOneOf laws.cmp (map (λ t. t.0) told)) before after
  taken_in_gaps n [] before after lies taken = adds_none (λ k. ⊥) before after (ap (λ f. f.rows) taken)
  taken_in_gaps n (t ∷ ts) before after lies taken =
      let first = taken_in_gap n (owned_gap t.0) t.1 before taken.0 lies.0 taken.1 in
      let rest = taken_in_gaps n ts taken.0 after lies.1 taken.2 in (
        first.0 ++ rest.0,
        each-append _ first.0 rest.0 (each _ _ (λ r p. inl p) first.0 first.1) (each _ _ (λ r p. inr p) rest.0 rest.1),
        rest.2 ∙ ap (λ t. t ++ rest.0) first.2 ∙ append_assoc before.rows first.0 rest.0,
      )

  in_more_gaps : (gaps first left : List (OwnedGap K)) (before after : Found K V) → gaps ≡ first ++ left → AddsOnly (IsInOneOf laws.cmp first) before after
      → AddsOnly (IsInOneOf laws.cmp gaps) before after
  in_more_gaps gaps first left before after e a =
      (a.0, subst (λ gs. AllByRecursion (λ r. IsInOneOf laws.cmp gs r.0) a.0) (sym e) (each _ _ (λ r. any-before (λ g. IsInGap laws.cmp r.0 (owned_gap g)) first left) a.0 a.1), a.2)

  rows_at_keys : (told : List (Wanted K × Option V)) → AllByRecursion (λ r. AnyByRecursion (λ w. Same laws.cmp r.0 w.key) (map (λ t. t.0) told)) (flat_map value_row told)
  rows_at_keys [] = tt
  rows_at_keys ((w, None) ∷ ts) = each _ _ (λ r p. inr p) (flat_map value_row ts) (rows_at_keys ts)
  rows_at_keys ((w, Some v) ∷ ts) = (inl (same_from laws.cmp o w.key w.key (up_self laws.cmp o w.key) (up_self laws.cmp o w.key)), each _ _ (λ r p. inr p) (flat_map value_row ts) (rows_at_keys ts))

  rows_in_parts : (told : List (OwnedGap K × Part K V)) → AllByRecursion (λ t. AscendIn laws.cmp (owned_gap t.0) (map (λ r. r.0) t.1.rows)) told
      → AllByRecursion (λ r. IsInOneOf laws.cmp (map (λ t. t.0) told) r.0) (flat_map (λ t. t.1.rows) told)
  rows_in_parts [] up = tt
  rows_in_parts (t ∷ ts) up =
      each-append _ t.1.rows (flat_map (λ t. t.1.rows) ts) (each _ _ (λ r p. inl p) t.1.rows (all_between laws.cmp o t.0.after t.0.before t.1.rows up.0))
      (each _ _ (λ r p. inr p) (flat_map (λ t. t.1.rows) ts) (rows_in_parts ts up.1))

  root_adds_none : (digest : Option (List ℕ)) (before after : Found K V) → IsRootTaken laws local digest before after → after.rows ≡ before.rows
  root_adds_none None before after e = ap (λ f. f.rows) e
  root_adds_none (Some d) before after (inl p) = ap (λ f. f.rows) p.1
  root_adds_none (Some d) before after (inr (lacks, inl p)) = ap (λ f. f.rows) p
  root_adds_none (Some d) before after (inr (lacks, inr p)) = ap (λ f. f.rows) p

  -- a reply adds rows that were asked for alone
  pub taken_asked : (n : ℕ) (encoding : K → List ℕ) (values : V → List ℕ) (asked : Question K) (reply : List ℕ) (before after : Found K V) (again : Option (Question K))
      → HasTakenReply laws n encoding values local asked reply before after again → AddsOnly (IsAskedFor laws.cmp asked) before after
  taken_asked n encoding values (Root settings) reply before after again t = adds_none (λ k. ⊥) before after (root_adds_none t.1 before after t.3)
  taken_asked n encoding values (Outlines most gaps) reply before after again t =
      in_more_gaps gaps.items (map (λ t. t.0) t.1.0) t.0 before after t.1.3 (taken_in_gaps n t.1.0 before after t.1.4 t.1.5)
  taken_asked n encoding values (Nodes most gaps) reply before after again t =
      in_more_gaps gaps.items (map (λ t. t.0) t.1.0) t.0 before after t.1.3 (taken_in_gaps n t.1.0 before after t.1.4 t.1.5)
  taken_asked n encoding values (RowsAt keys) reply before after again t =
      let told = t.1.0 in (
        new_rows laws local (flat_map value_row told),
        subst (λ ks. AllByRecursion (λ r. AnyByRecursion (λ w. Same laws.cmp r.0 w.key) ks) (new_rows laws local (flat_map value_row told))) (sym t.1.3)
            (each _ _ (λ r. any-before (λ w. Same laws.cmp r.0 w.key) (map (λ t. t.0) told) t.0) _ (each_passed _ _ (flat_map value_row told) (rows_at_keys told))),
        ap (λ f. f.rows) t.1.5,
      )
  taken_asked n encoding values (RowsIn gaps) reply before after again t =
      let (behind, rest, is_left, (told, is, some, begins, up, (are_behind, taken))) = t.1 in
      in_more_gaps gaps.items (map (λ t. t.0) told) rest before after begins
      (new_rows laws local (flat_map (λ t. t.1.rows) told), each_passed _ _ (flat_map (λ t. t.1.rows) told) (rows_in_parts told up), ap (λ f. f.rows) taken)

module _ {K V : Type 0} where
  -- what is asked next leaves the rows
  taken_from_keeps : (question : Question K) (before after : Found K V) → IsTakenFrom question before after → after.rows ≡ before.rows
  taken_from_keeps (Root settings) before after t = absurd t
  taken_from_keeps (Outlines most gaps) before after t = ap (λ f. f.rows) t.1
  taken_from_keeps (Nodes most gaps) before after t = ap (λ f. f.rows) t.1
  taken_from_keeps (RowsAt keys) before after t = ap (λ f. f.rows) t.1
  taken_from_keeps (RowsIn gaps) before after t = ap (λ f. f.rows) t.1

  pub asked_of_keeps : (question : Question K) (before after : Found K V) → IsAskedOf (Some question) before after → after.rows ≡ before.rows
  asked_of_keeps question before after (some, inl t) = taken_from_keeps question before after t
  asked_of_keeps question before after (some, inr t) = taken_from_keeps question (all_whole before) after t

module _ {K V H : Type 0} (laws : Laws K V H) (o : IsTotalOrder laws.cmp) where
  -- so does all that comes next
  pub only_asked : (n : ℕ) (encoding : K → List ℕ) (values : V → List ℕ) (local : Side K V H) (before : Underway K V) (reply : List ℕ) (next : Next K V)
      → IsNext laws n encoding values local before reply next → OnlyAskedFor laws.cmp before next
  only_asked n encoding values local before reply next (found, again, taken, goes) =
      goes_on again next (taken_asked laws o local n encoding values before.asked reply before.found found again taken) goes
    where
      goes_on : (again : Option (Question K)) (next : Next K V) → AddsOnly laws o local (IsAskedFor laws.cmp before.asked) before.found found
          → AsksOrGoesOn laws.cmp encoding again before.rounds found next
          → OnlyAskedFor laws.cmp before next
      goes_on None (Ask session message) a g = (a.0, a.1, asked_of_keeps session.asked found session.found g.0 ∙ a.2)
      goes_on None (Came rows) a g = (a.0, a.1, subst (λ rs. IsPermutation rs rows.items) a.2 g.1.0)
      goes_on (Some question) (Ask session message) a g = (a.0, a.1, ap (λ s. s.found.rows) g.1 ∙ a.2)
      goes_on (Some question) (Came rows) a g = absurd g
