-- A session that brought rows is a catch-up, while digests are faithful.
use Rattle.std.proofs.Common.{◌≡◌, ℕ, true, false, List, [], ◌∷◌, map, Some, refl, sym, ap, subst, ◌∙◌, inl}
use Rattle.std.proofs.lemmas.List.{length-map}
use Rattle.std.specs.List.{AllByRecursion}
use Rattle.std.specs.Cmp.{IsTotalOrder, IsEquivalence, tied_itself}
use Rattle.std.specs.Cmp.Lexicographic.{bytes_decides}
use Rattle.std.specs.Option.{option_map}
use Rattle.key_order.specs.Join.{IsJoin, IsJoining}
use Rattle.key_order.specs.Map.{IsMap, rows_in}
use Rattle.key_order.specs.Order.{Below, Same, IsAscending}
use Rattle.merkle_diff.proofs.Each.{each-with, each-mapped}
use Rattle.merkle_replica.specs.CatchUp.{IsLacked, AreCopies, IsCatchUp, IsCatchUpOf, points}
use Rattle.merkle_replica.specs.Contents.{Contents, Side, side, with_rows}
use Rattle.merkle_replica.specs.Laws.{Laws}
use Rattle.merkle_replica.proofs.Bounds.{get_digests}
use Rattle.merkle_replica.proofs.CatchUpJoins.{all_joined}
use Rattle.merkle_replica.proofs.RowCopies.{copies_are, join_same}
use Rattle.merkle_replica.proofs.SideLaws.{same_side, rows_alone}
use Rattle.merkle_tree_theory.specs.State.{SameSettings}
use Rattle.merkle_wire.specs.Sessions.{IsFaithfulSession, IsNewRow, AreBrought, HasJoined}
use Rattle.merkle_wire.specs.Taking.{is_digest}
use Rattle.merkle_wire.proofs.RoundCovers.{any-map}
use Rattle.merkle_wire.proofs.Lacking.{has_row}

module _ {K V H : Type 0} (laws : Laws K V H) (o : IsTotalOrder laws.cmp) (eqv : IsEquivalence laws.eq) (joining : IsJoining laws.eq laws.join)
    (respects : (h : H) (a b : V) → laws.eq a b ≡ true → laws.value_digest h a ≡ laws.value_digest h b)
    (local peer : Side K V H) (up_peer : IsMap laws.cmp peer.rows) where
  abbrev keys_in : List (K × V) → List K
  keys_in = map (λ r. r.0)

  keys_ascend : (rows : List (K × V)) → IsMap laws.cmp rows → IsAscending laws.cmp (keys_in rows)
  keys_ascend [] m = tt
  keys_ascend (r ∷ rs) m = (each-mapped (λ q. q.0) (λ k. Below laws.cmp r.0 k) rs m.0, keys_ascend rs m.1)

  -- the rows are copies of the peer's at their keys
  copies : (rows : List (K × V)) → AllByRecursion (IsNewRow laws local peer) rows → AreCopies laws.cmp laws.eq peer.rows (keys_in rows) rows
  copies [] a = tt
  copies (r ∷ rs) a = (tied_itself o r.0, a.0.0, copies rs a.1)

  is_digest-own : (d : List ℕ) → is_digest (Some d) d ≡ true
  is_digest-own d = (bytes_decides d d).1 refl

  -- each of them is missing
  lacked : IsFaithfulSession laws local peer → (row : K × V) → IsNewRow laws local peer row → IsLacked laws local peer row.0
  lacked faith row ((v, there, e), new) =
      let d = laws.value_digest peer.hasher v in
      let same : laws.value_digest local.hasher row.1 ≡ d = respects local.hasher row.1 v e ∙ faith.values row.0 v there in (
        d,
        get_digests laws.cmp o (laws.value_digest peer.hasher) peer.rows row.0 ∙ ap (option_map (laws.value_digest peer.hasher)) there,
        λ own.
            (let is : has_row laws local row ≡ true = ap (λ x. is_digest x (laws.value_digest local.hasher row.1)) (own ∙ ap Some (sym same)) ∙ is_digest-own (laws.value_digest local.hasher row.1) in
            let never : false ≡ true = sym new ∙ is in
            cc),
      )

  -- so the join of the rows is a catch-up
  pub brought_is_catch_up : (rows after : List (K × V)) → AreBrought laws local peer rows → IsJoin laws.cmp laws.eq laws.join local.rows rows after
      → IsFaithfulSession laws local peer → IsCatchUp laws local peer (keys_in rows) after
  brought_is_catch_up rows after b joins faith =
      let ascending = keys_ascend rows b.ascending in
      let all = λ (k : K) (l : IsLacked laws local peer k). any-map (Same laws.cmp k) (λ r. r.0) rows (b.all faith k l) in
      record {
        ascending = ascending;
        found = record {
          lacked = each-mapped (λ r. r.0) (IsLacked laws local peer) rows (each-with (IsNewRow laws local peer) (λ r. IsLacked laws local peer r.0) rows (lacked faith) b.new);
          unless_hidden = λ k l. inl (all k l);
          all = λ faithful k l. all k l;
        };
        joins = join_same laws.cmp o laws.eq eqv laws.join joining local.rows rows (rows_in laws.cmp (points (keys_in rows)) peer.rows) after
            (copies_are laws.cmp o laws.eq peer.rows (keys_in rows) rows up_peer ascending (copies rows b.new)) joins;
      }

  -- and leaves the join of both sides' rows
  pub brought_joins : (rows after : List (K × V)) → AreBrought laws local peer rows → IsJoin laws.cmp laws.eq laws.join local.rows rows after
      → IsFaithfulSession laws local peer → IsJoin laws.cmp laws.eq laws.join local.rows peer.rows after
  brought_joins rows after b joins faith = all_joined laws o local peer eqv joining (keys_in rows) after faith.faithful (brought_is_catch_up rows after b joins faith)

  -- so it is where this many rows are joined
  pub joined_is_catch_up : (joined : ℕ) (after : List (K × V)) → HasJoined laws local peer joined after → IsFaithfulSession laws local peer → IsCatchUpOf laws local peer joined after
  joined_is_catch_up joined after (rows, count, b, joins) faith = (keys_in rows, count ∙ sym (length-map rows (λ r. r.0)), brought_is_catch_up rows after b joins faith)

  pub joined_joins : (joined : ℕ) (after : List (K × V)) → HasJoined laws local peer joined after → IsFaithfulSession laws local peer → IsJoin laws.cmp laws.eq laws.join local.rows peer.rows after
  joined_joins joined after (rows, count, b, joins) faith = brought_joins rows after b joins faith

-- what holds of the sides met before the second of two catch-ups, by those before the first
pub second_sides : {K V H : Type 0} (a mid after b met : Contents K V H) → met.rows ≡ b.rows → SameSettings b.tree met.tree → SameSettings a.tree mid.tree → after.rows ≡ mid.rows
    → (P : Side K V H → Side K V H → Type 0) → P (side met) (side mid) → P (side b) (with_rows (side a) after.rows)
second_sides a mid after b met rows settings own stays P p =
    subst (P (side b)) (rows_alone a mid own ∙ ap (with_rows (side a)) (sym stays)) (subst (λ s. P s (side mid)) (same_side b met rows settings) p)
