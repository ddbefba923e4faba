-- Catch-ups through a hub, one by one.
use Rattle.std.proofs.Common.{◌≡◌, ℕ, zero, suc, ◌+◌, ◌<◌, List, [], ◌∷◌, ◌++◌, length, length-append, map, take, drop, get_or, set, refl, ap, sym, subst, ◌∙◌, arith, append_assoc, append-nil, ◌⊎◌, inl, inr}
use Rattle.std.proofs.Math.Seq.{set-append_seam}
use Rattle.std.proofs.Math.Numerals.{add-one}
use Rattle.std.proofs.lemmas.Bool.{cases_eq}
use Rattle.std.proofs.lemmas.List.{map-append, take_more, take_all, drop_more}
use Rattle.std.specs.Cmp.{IsTotalOrder, IsEquivalence}
use Rattle.key_order.specs.Order.{AnyByRecursion}
use Rattle.key_order.specs.Map.{IsMap}
use Rattle.key_order.specs.Join.{IsJoining, IsJoin}
use Rattle.key_order.proofs.ListParts.{each-append, each-before, each-at}
use Rattle.merkle_replica.specs.CatchUp.{IsCatchUpOf, IsCatchUpRefused}
use Rattle.merkle_replica.specs.Contents.{Side, with_rows}
use Rattle.merkle_replica.specs.Faithful.{IsFaithful}
use Rattle.merkle_replica.specs.Gossip.{numbered, changed, gathering, spreading, through_hub, IsJoinOf, IsGossip, StopsGossip, rows_of_sides}
use Rattle.merkle_replica.proofs.HubStates.{HasJoined, IsGathered, IsSpread}
use Rattle.merkle_replica.specs.Laws.{Laws}
use Rattle.merkle_replica.specs.declared.catch_up.CatchUpError.{CatchUpError}
use Rattle.merkle_replica.proofs.Gossips.{changed-list, alone, join_both, join_all, gossip-more, gossip-stops, gathering-length, spreading-length}

-- the steps, parted at one
part-gathering : (n i : ℕ) → i < n → (rest : List (ℕ × ℕ)) × (gathering n ≡ gathering i ++ (0, suc i) ∷ rest)
part-gathering zero i f = absurd (omega arith)
part-gathering (suc n) i f = go (cases_eq i n) (λ g. part-gathering n i g)
  where
    go : (i ≡ n) ⊎ (i ≡ n → ⊥) → (i < n → (rest : List (ℕ × ℕ)) × (gathering n ≡ gathering i ++ (0, suc i) ∷ rest)) → (rest : List (ℕ × ℕ)) × (gathering (suc n) ≡ gathering i ++ (0, suc i) ∷ rest)
    go (inl e) more = ([], ap (λ m. gathering m ++ (0, suc m) ∷ []) (sym e))
    go (inr ne) more =
        let (rest, is) = more (omega arith) in
        (rest ++ (0, suc n) ∷ [], ap (λ steps. steps ++ (0, suc n) ∷ []) is ∙ append_assoc (gathering i) ((0, suc i) ∷ rest) ((0, suc n) ∷ []))

part-spreading : (n i : ℕ) → i < n → (rest : List (ℕ × ℕ)) × (spreading n ≡ spreading i ++ (suc i, 0) ∷ rest)
part-spreading zero i f = absurd (omega arith)
part-spreading (suc n) i f = go (cases_eq i n) (λ g. part-spreading n i g)
  where
    go : (i ≡ n) ⊎ (i ≡ n → ⊥) → (i < n → (rest : List (ℕ × ℕ)) × (spreading n ≡ spreading i ++ (suc i, 0) ∷ rest)) → (rest : List (ℕ × ℕ)) × (spreading (suc n) ≡ spreading i ++ (suc i, 0) ∷ rest)
    go (inl e) more = ([], ap (λ m. spreading m ++ (suc m, 0) ∷ []) (sym e))
    go (inr ne) more =
        let (rest, is) = more (omega arith) in
        (rest ++ (suc n, 0) ∷ [], ap (λ steps. steps ++ (suc n, 0) ∷ []) is ∙ append_assoc (spreading i) ((suc i, 0) ∷ rest) ((suc n, 0) ∷ []))

-- an element of a list is one of it
element : {X : Type 0} (xs : List X) (i : ℕ) (x : X) → i < length xs → x ≡ get_or xs i x → AnyByRecursion (λ y. y ≡ x) xs
element [] i x f e = absurd (omega arith)
element (y ∷ ys) zero x f e = inl (sym e)
element (y ∷ ys) (suc i) x f e = inr (element ys i x (omega arith) e)

any_map : {X Y : Type 0} (f : X → Y) (xs : List X) (x : X) → AnyByRecursion (λ y. y ≡ x) xs → AnyByRecursion (λ y. y ≡ f x) (map f xs)
any_map f [] x a = absurd a
any_map f (y ∷ ys) x (inl e) = inl (ap f e)
any_map f (y ∷ ys) x (inr a) = inr (any_map f ys x a)

module _ {K V H : Type 0} (laws : Laws K V H) (hub : Side K V H) (others : List (Side K V H)) (i : ℕ) where
  -- what comes of a catch-up of the hub with the next of the others: the gathering goes on, or stops
  pub record GathersOn (h h' x : Side K V H) (T' : List (Side K V H)) : Type 0 where
    pub goes_on : (joined : ℕ) → IsCatchUpOf laws h x joined h'.rows → (IsFaithful laws h x → IsJoin laws.cmp laws.eq laws.join h.rows x.rows h'.rows)
        → IsMap laws.cmp x.rows → IsGathered laws hub others (i + 1) h' T'
    pub stops : (fault : CatchUpError) → IsCatchUpRefused laws h x fault h'.rows → StopsGossip laws i fault (through_hub (length others)) (numbered hub (hub ∷ others)) (numbered hub (h' ∷ T'))

  -- the same of a catch-up of one of the others with the hub
  pub record SpreadsOn (h h' x x' : Side K V H) (T' : List (Side K V H)) : Type 0 where
    pub goes_on : (joined : ℕ) → IsCatchUpOf laws x h joined x'.rows → (IsFaithful laws x h → IsJoin laws.cmp laws.eq laws.join x.rows h.rows x'.rows) → IsSpread laws hub others (i + 1) h' T'
    pub stops : (fault : CatchUpError) → IsCatchUpRefused laws x h fault x'.rows
        → StopsGossip laws (length others + i) fault (through_hub (length others)) (numbered hub (hub ∷ others)) (numbered hub (h' ∷ T'))

module _ {K V H : Type 0} (laws : Laws K V H) (o : IsTotalOrder laws.cmp) (e : IsEquivalence laws.eq) (j : IsJoining laws.eq laws.join) (hub : Side K V H) (others : List (Side K V H)) where
  abbrev Met : Type 0
  Met = List (Side K V H × Side K V H)

  pub starts : IsMap laws.cmp hub.rows → IsGathered laws hub others 0 hub others
  starts up = record { stay = refl; met = []; gossip = (λ n. refl, refl); joins = λ faith. alone laws.cmp laws.eq e laws.join j hub.rows up }

  module _ (i : ℕ) (h : Side K V H) (T : List (Side K V H)) (x : Side K V H) (f : i < length T) (is : x ≡ get_or T i x) (d : Side K V H) where
    -- the side at a place, whatever is beyond the list
    pub there : get_or T i d ≡ x
    there = any T i d x f ∙ sym is
      where
        any : (T : List (Side K V H)) (i : ℕ) (d x : Side K V H) → i < length T → get_or T i d ≡ get_or T i x
        any [] i d x f = absurd (omega arith)
        any (t ∷ T) zero d x f = refl
        any (t ∷ T) (suc i) d x f = any T i d x (omega arith)

  module _ (i : ℕ) (h h' : Side K V H) (T T' : List (Side K V H)) (x : Side K V H) (f : i < length T) (is : x ≡ get_or T i x) (g : IsGathered laws hub others i h T) where
    -- where the hub's rows changed
    hub_last : h' ≡ with_rows h h'.rows → T' ≡ T → (n : ℕ) → numbered hub (h' ∷ T') n ≡ changed (numbered hub (h ∷ T)) 0 (with_rows h h'.rows) n
    hub_last s t n = (λ k. numbered hub (s k ∷ t k) n) ∙ changed-list hub (h ∷ T) 0 (with_rows h h'.rows) (omega arith) n

    gathers : (joined : ℕ) → h' ≡ with_rows h h'.rows → T' ≡ T → IsCatchUpOf laws h x joined h'.rows
        → (IsFaithful laws h x → IsJoin laws.cmp laws.eq laws.join h.rows x.rows h'.rows) → IsMap laws.cmp x.rows
        → IsGathered laws hub others (i + 1) h' T'
    gathers joined s t c j' up =
        let at = there i h T x f is hub in
        let x0 : get_or others i x ≡ x = ap (λ l. get_or l i x) (sym g.stay) ∙ sym is in
        let more : take (i + 1) others ≡ take i others ++ x ∷ [] = take_more others i x (subst (λ (l : List (Side K V H)). i < length l) g.stay f) ∙ ap (λ y. take i others ++ y ∷ []) x0 in
        let rows : rows_of_sides (hub ∷ take (i + 1) others) ≡ rows_of_sides (hub ∷ take i others) ++ x.rows ∷ [] = ap (λ l. hub.rows ∷ rows_of_sides l) more
        ∙ ap (λ l. hub.rows ∷ l) (map-append (λ (y : Side K V H). y.rows) (take i others) (x ∷ [])) in
        record {
          stay = t ∙ g.stay;
          met = g.met ++ (h, x) ∷ [];
          gossip = subst (λ n. IsGossip laws (gathering n) (numbered hub (hub ∷ others)) (numbered hub (h' ∷ T')) (g.met ++ (h, x) ∷ [])) (sym (add-one i))
              (subst (λ y. IsGossip laws (gathering (suc i)) (numbered hub (hub ∷ others)) (numbered hub (h' ∷ T')) (g.met ++ (h, y) ∷ [])) at
              (gossip-more laws (gathering i) (0, suc i) (numbered hub (hub ∷ others)) (numbered hub (h ∷ T)) (numbered hub (h' ∷ T')) g.met joined h'.rows g.gossip
              (subst (λ y. IsCatchUpOf laws h y joined h'.rows) (sym at) c) (hub_last s t)));
          joins = λ faith.
              let before = each-before (λ sides. IsFaithful laws sides.0 sides.1) g.met ((h, x) ∷ []) faith in
              let last = each-at (λ sides. IsFaithful laws sides.0 sides.1) g.met (h, x) [] faith in
              subst (λ ms. IsJoinOf laws.cmp laws.eq laws.join ms h'.rows) (sym rows)
              (join_both laws.cmp laws.eq e laws.join j (rows_of_sides (hub ∷ take i others)) (x.rows ∷ []) h.rows x.rows h'.rows (g.joins before)
              (alone laws.cmp laws.eq e laws.join j x.rows up) (j' last));
        }

    gathering_stops : (fault : CatchUpError) → h' ≡ with_rows h h'.rows → T' ≡ T → IsCatchUpRefused laws h x fault h'.rows
        → StopsGossip laws i fault (through_hub (length others)) (numbered hub (hub ∷ others)) (numbered hub (h' ∷ T'))
    gathering_stops fault s t c =
        let at = there i h T x f is hub in
        let (rest, parted) = part-gathering (length others) i (subst (λ (l : List (Side K V H)). i < length l) g.stay f) in
        let steps : gathering i ++ (0, suc i) ∷ (rest ++ spreading (length others)) ≡ through_hub (length others) =
        sym (append_assoc (gathering i) ((0, suc i) ∷ rest) (spreading (length others))) ∙ ap (λ l. l ++ spreading (length others)) (sym parted) in
        subst (λ l. StopsGossip laws i fault l (numbered hub (hub ∷ others)) (numbered hub (h' ∷ T'))) steps
        (subst (λ n. StopsGossip laws n fault (gathering i ++ (0, suc i) ∷ (rest ++ spreading (length others))) (numbered hub (hub ∷ others)) (numbered hub (h' ∷ T'))) (gathering-length i)
        (gossip-stops laws (gathering i) (0, suc i) (rest ++ spreading (length others)) (numbered hub (hub ∷ others)) (numbered hub (h ∷ T)) (numbered hub (h' ∷ T')) g.met fault h'.rows g.gossip
        (subst (λ y. IsCatchUpRefused laws h y fault h'.rows) (sym at) c) (hub_last s t)))

    pub gathers_on : h' ≡ with_rows h h'.rows → T' ≡ T → GathersOn laws hub others i h h' x T'
    gathers_on s t = record { goes_on = λ joined c j' up. gathers joined s t c j' up; stops = λ fault c. gathering_stops fault s t c }

  -- the second half begins
  pub turns_back : (i : ℕ) (h : Side K V H) (T : List (Side K V H)) → i ≡ length others → IsGathered laws hub others i h T → IsSpread laws hub others 0 h T
  turns_back i h T q g = record {
    done = [];
    counted = refl;
    stay = g.stay;
    met = g.met;
    gossip = subst (λ steps. IsGossip laws steps (numbered hub (hub ∷ others)) (numbered hub (h ∷ T)) g.met) (ap gathering q ∙ sym (append-nil (gathering (length others)))) g.gossip;
    hub_joins = λ faith. subst (λ l. IsJoinOf laws.cmp laws.eq laws.join (rows_of_sides (hub ∷ l)) h.rows) (take_all i others (omega arith)) (g.joins faith);
    others_join = λ faith. tt;
  }

  module _ (i : ℕ) (h h' : Side K V H) (T T' : List (Side K V H)) (x x' : Side K V H) (f : i < length T) (q : length T ≡ length others) (is : x ≡ get_or T i x)
      (g : IsSpread laws hub others i h T) where
    -- where the rows of one of the others changed
    other_last : h' ≡ h → x' ≡ with_rows x x'.rows → T' ≡ set T i x' → (n : ℕ) → numbered hub (h' ∷ T') n ≡ changed (numbered hub (h ∷ T)) (suc i) (with_rows x x'.rows) n
    other_last s y t n = (λ k. numbered hub (s k ∷ (t ∙ ap (set T i) y) k) n) ∙ changed-list hub (h ∷ T) (suc i) (with_rows x x'.rows) (omega arith) n

    old_one : get_or others i x ≡ x
    old_one =
        let m : i < length others = omega arith in
        let k : drop i others ≡ get_or others i x ∷ drop (i + 1) others = drop_more others i x m in
        let seam : get_or (g.done ++ get_or others i x ∷ drop (i + 1) others) (length g.done) x ≡ get_or others i x = at_seam g.done (get_or others i x) (drop (i + 1) others) x in
        sym seam ∙ (λ l. get_or (g.done ++ sym k l) (g.counted l) x) ∙ ap (λ l. get_or l i x) (sym g.stay) ∙ sym is
      where
        at_seam : (xs : List (Side K V H)) (y : Side K V H) (ys : List (Side K V H)) (d : Side K V H) → get_or (xs ++ y ∷ ys) (length xs) d ≡ y
        at_seam [] y ys d = refl
        at_seam (z ∷ xs) y ys d = at_seam xs y ys d

    spreads : (joined : ℕ) → h' ≡ h → x' ≡ with_rows x x'.rows → T' ≡ set T i x' → IsCatchUpOf laws x h joined x'.rows → (IsFaithful laws x h → IsJoin laws.cmp laws.eq laws.join x.rows h.rows x'.rows)
        → IsSpread laws hub others (i + 1) h' T'
    spreads joined s y t c j' =
        let at = there i h T x f is hub in
        let m : i < length others = omega arith in
        let k : drop i others ≡ x ∷ drop (i + 1) others = drop_more others i x m ∙ ap (λ z. z ∷ drop (i + 1) others) old_one in
        let one = (x, h) ∷ [] in
        record {
          done = g.done ++ x' ∷ [];
          counted = length-append g.done (x' ∷ []) ∙ ap (λ n. n + 1) g.counted;
          stay = t ∙ (λ l. set ((g.stay ∙ ap (λ r. g.done ++ r) k) l) (sym g.counted l) x') ∙ set-append_seam g.done x (drop (i + 1) others) x'
              ∙ sym (append_assoc g.done (x' ∷ []) (drop (i + 1) others));
          met = g.met ++ one;
          gossip = subst (λ steps. IsGossip laws steps (numbered hub (hub ∷ others)) (numbered hub (h' ∷ T')) (g.met ++ one))
              (append_assoc (gathering (length others)) (spreading i) ((suc i, 0) ∷ []) ∙ ap (λ n. gathering (length others) ++ spreading n) (sym (add-one i)))
              (subst (λ z. IsGossip laws ((gathering (length others) ++ spreading i) ++ (suc i, 0) ∷ []) (numbered hub (hub ∷ others)) (numbered hub (h' ∷ T')) (g.met ++ (z, h) ∷ [])) at
              (gossip-more laws (gathering (length others) ++ spreading i) (suc i, 0) (numbered hub (hub ∷ others)) (numbered hub (h ∷ T)) (numbered hub (h' ∷ T')) g.met joined x'.rows g.gossip
              (subst (λ z. IsCatchUpOf laws z h joined x'.rows) (sym at) c)
              (subst (λ z. (n : ℕ) → numbered hub (h' ∷ T') n ≡ changed (numbered hub (h ∷ T)) (suc i) (with_rows z x'.rows) n) (sym at) (other_last s y t))));
          hub_joins = λ faith. subst (HasJoined laws hub others (hub ∷ others)) (sym s) (g.hub_joins (each-before (λ sides. IsFaithful laws sides.0 sides.1) g.met one faith));
          others_join = λ faith.
              let before = each-before (λ sides. IsFaithful laws sides.0 sides.1) g.met one faith in
              let last = each-at (λ sides. IsFaithful laws sides.0 sides.1) g.met (x, h) [] faith in
              each-append (HasJoined laws hub others (hub ∷ others)) g.done (x' ∷ []) (g.others_join before) (
                join_all laws.cmp laws.eq e laws.join j x.rows (rows_of_sides (hub ∷ others)) h.rows x'.rows
                    (any_map (λ (z : Side K V H). z.rows) (hub ∷ others) x (inr (element others i x m (sym old_one)))) (g.hub_joins before) (j' last),
                tt,
              );
        }

    spreading_stops : (fault : CatchUpError) → h' ≡ h → x' ≡ with_rows x x'.rows → T' ≡ set T i x' → IsCatchUpRefused laws x h fault x'.rows
        → StopsGossip laws (length others + i) fault (through_hub (length others)) (numbered hub (hub ∷ others)) (numbered hub (h' ∷ T'))
    spreading_stops fault s y t c =
        let at = there i h T x f is hub in
        let all = length others in
        let (rest, parted) = part-spreading all i (omega arith) in
        let a = gathering-length all in
        let b = spreading-length i in
        let count : length (gathering all ++ spreading i) ≡ all + i = length-append (gathering all) (spreading i) ∙ omega arith in
        let steps : (gathering all ++ spreading i) ++ (suc i, 0) ∷ rest ≡ through_hub all = append_assoc (gathering all) (spreading i) ((suc i, 0) ∷ rest)
        ∙ ap (λ l. gathering all ++ l) (sym parted) in
        subst (λ l. StopsGossip laws (all + i) fault l (numbered hub (hub ∷ others)) (numbered hub (h' ∷ T'))) steps
        (subst (λ n. StopsGossip laws n fault ((gathering all ++ spreading i) ++ (suc i, 0) ∷ rest) (numbered hub (hub ∷ others)) (numbered hub (h' ∷ T'))) count
        (gossip-stops laws (gathering all ++ spreading i) (suc i, 0) rest (numbered hub (hub ∷ others)) (numbered hub (h ∷ T)) (numbered hub (h' ∷ T')) g.met fault x'.rows g.gossip
        (subst (λ z. IsCatchUpRefused laws z h fault x'.rows) (sym at) c)
        (subst (λ z. (n : ℕ) → numbered hub (h' ∷ T') n ≡ changed (numbered hub (h ∷ T)) (suc i) (with_rows z x'.rows) n) (sym at) (other_last s y t))))

    pub spreads_on : h' ≡ h → x' ≡ with_rows x x'.rows → T' ≡ set T i x' → SpreadsOn laws hub others i h h' x x' T'
    spreads_on s y t = record { goes_on = λ joined c j'. spreads joined s y t c j'; stops = λ fault c. spreading_stops fault s y t c }
