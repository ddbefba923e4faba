-- Rows that have grown since they were compared with what a peer sent.
use Rattle.std.proofs.Common.{Bool, List, Option}
use Rattle.std.specs.Cmp.{IsEquivalence}
use Rattle.key_order.specs.Map.{get}
use Rattle.key_order.specs.Join.{joined, IsJoining}
use Rattle.key_order.specs.Text.{Text as Key, text_order}
use Rattle.key_order.proofs.Values.{Eq, on, back, assoc, comm, cong, same}
use Rattle.merkle_replica.specs.Puts.{join_of_values, HasGathered}
use Rattle.store_file.specs.declared.register.Register.{Register}
use Rattle.merkle_store.specs.Kept.{JoinTheSame}

module _ (eq : Register → Register → Bool) (e : IsEquivalence eq) (join : Register → Register → Register) (j : IsJoining eq join) where
  abbrev E : Option Register → Option Register → Type 0
  E = Eq eq e join j

  abbrev J : Option Register → Option Register → Option Register
  J = joined join

  abbrev G : List (Key × Register) → Key → Option Register
  G = join_of_values text_order eq join

  -- what a register is joined with before may be joined to it after
  taken_apart : (r b w x : Option Register) → E r (J b w) → E (J r x) (J w (J b x))
  taken_apart r b w x grown =
      on eq e join j (J r x) (J (J b w) x) (J w (J b x)) (cong eq e join j r (J b w) x x grown (same eq e join j x))
      (on eq e join j (J (J b w) x) (J (J w b) x) (J w (J b x)) (cong eq e join j (J b w) (J w b) x x (comm eq e join j b w) (same eq e join j x)) (assoc eq e join j w b x))

  -- what makes the same with less makes the same with more
  joins_over : (r b w these those : Option Register) → E r (J b w) → E (J b these) (J b those) → E (J r these) (J r those)
  joins_over r b w these those grown alike =
      on eq e join j (J r these) (J w (J b these)) (J r those) (taken_apart r b w these grown)
      (on eq e join j (J w (J b these)) (J w (J b those)) (J r those) (cong eq e join j w w (J b these) (J b those) (same eq e join j w) alike)
      (back eq e join j (J r those) (J w (J b those)) (taken_apart r b w those grown)))

  -- what makes the same with the rows before makes the same with the rows that these have grown to
  pub grown_join_the_same : (before written rows these those : List (Key × Register)) → HasGathered text_order eq join before written rows
      → JoinTheSame eq join before these those → JoinTheSame eq join rows these those
  grown_join_the_same before written rows these those grown alike k =
      joins_over (get text_order rows k) (get text_order before k) (G written k) (G these k) (G those k) (grown.values k) (alike k)
