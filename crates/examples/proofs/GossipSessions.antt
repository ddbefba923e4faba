-- Sessions of messages among replicas, one after the other.
use Rattle.std.proofs.Common.{◌≡◌, ℕ, suc, ◌==◌, ◌+◌, ◌<◌, Bool, true, false, List, [], ◌∷◌, ◌++◌, length, map, take, get_or, set, if◌then◌else◌, refl, ap, sym, subst, ◌∙◌, arith}
use Rattle.std.proofs.Math.Numerals.{add-one}
use Rattle.std.proofs.Math.Seq.{map-set_same}
use Rattle.std.proofs.lemmas.List.{length-map, get_or-map, map-set, take_more}
use Rattle.std.specs.Cmp.{IsTotalOrder, IsEquivalence}
use Rattle.std.specs.List.{AllByRecursion}
use Rattle.std.specs.declared.cmp.Ordering.{Ordering}
use Rattle.key_order.specs.Join.{IsJoining}
use Rattle.key_order.specs.Map.{IsMap}
use Rattle.key_order.proofs.ListParts.{each-append}
use Rattle.merkle_replica.specs.Contents.{Contents, Side, side, with_rows}
use Rattle.merkle_replica.specs.Faithful.{AllFaithful}
use Rattle.merkle_replica.specs.Gossip.{numbered, changed, gathering, spreading, IsGossip}
use Rattle.merkle_replica.specs.Laws.{Laws}
use Rattle.merkle_replica.proofs.Gossips.{changed-list}
use Rattle.merkle_wire.specs.Sessions.{HasJoined, IsMessagesRefused}
use Rattle.merkle_wire.specs.declared.session.MessagesError.{MessagesError}
use Rattle.merkle_wire.proofs.CatchUps.{joined_is_catch_up}
use Rattle.examples.specs.GossipMessages.{sides_of, AreSessions, AllFaithfulSessions, AreMade, StopsBehind}

module _ {K V H : Type 0} (laws : Laws K V H) where
  abbrev Met : Type 0
  Met = List (Side K V H × Side K V H)

  -- sessions after others
  pub sessions-append : (steps more : List (ℕ × ℕ)) (first mid last : ℕ → Side K V H) (met later : Met)
      → AreSessions laws steps first mid met → AreSessions laws more mid last later → AreSessions laws (steps ++ more) first last (met ++ later)
  sessions-append [] more first mid last met later a b =
      let same : mid ≡ first = λ i n. a.0 n i in
      subst (AreSessions laws more first last) (ap (λ m. m ++ later) (sym a.1)) (subst (λ f. AreSessions laws more f last later) same b)
  sessions-append (s ∷ steps) more first mid last met later (joined, after, rest, is, has, others) b =
      (joined, after, rest ++ later, ap (λ m. m ++ later) is, has, sessions-append steps more (changed first s.0 (with_rows (first s.0) after)) mid last rest later others b)

  -- one session more
  sessions-more : (steps : List (ℕ × ℕ)) (s : ℕ × ℕ) (first mid last : ℕ → Side K V H) (met : Met) (a b : Side K V H) (joined : ℕ) (after : List (K × V)) → AreSessions laws steps first mid met
      → mid s.0 ≡ a → mid s.1 ≡ b → HasJoined laws a b joined after → ((n : ℕ) → last n ≡ changed mid s.0 (with_rows a after) n) → (later : Met) × AreSessions laws (steps ++ s ∷ []) first last later
  sessions-more steps s first mid last met a b joined after made own other has ends =
      let here = subst (λ y. HasJoined laws (mid s.0) y joined after) (sym other) (subst (λ x. HasJoined laws x b joined after) (sym own) has) in
      let later = subst (λ x. (n : ℕ) → last n ≡ changed mid s.0 (with_rows x after) n) (sym own) ends in
      (met ++ (mid s.0, mid s.1) ∷ [], sessions-append steps (s ∷ []) first mid last met ((mid s.0, mid s.1) ∷ []) made (joined, after, [], refl, here, (later, refl)))

  -- one that ended early
  stops-here : (steps : List (ℕ × ℕ)) (s : ℕ × ℕ) (first mid last : ℕ → Side K V H) (met : Met) (a b : Side K V H) (fault : MessagesError) (after : List (K × V)) → AreSessions laws steps first mid met
      → mid s.0 ≡ a → mid s.1 ≡ b → IsMessagesRefused laws a b fault after → ((n : ℕ) → last n ≡ changed mid s.0 (with_rows a after) n) → StopsBehind laws steps s fault first last
  stops-here steps s first mid last met a b fault after made own other refused ends = record {
    mid = mid;
    met = met;
    after = after;
    sessions = made;
    refused = subst (λ y. IsMessagesRefused laws (mid s.0) y fault after) (sym other) (subst (λ x. IsMessagesRefused laws x b fault after) (sym own) refused);
    last = subst (λ x. (n : ℕ) → last n ≡ changed mid s.0 (with_rows x after) n) (sym own) ends;
  }

  -- so it ended after what was made before
  pub stops-behind : (steps more : List (ℕ × ℕ)) (s : ℕ × ℕ) (fault : MessagesError) (first mid last : ℕ → Side K V H) (met : Met)
      → AreSessions laws steps first mid met → StopsBehind laws more s fault mid last → StopsBehind laws (steps ++ more) s fault first last
  stops-behind steps more s fault first mid last met made stops = record {
    mid = stops.mid;
    met = met ++ stops.met;
    after = stops.after;
    sessions = sessions-append steps more first mid stops.mid met stops.met made stops.sessions;
    refused = stops.refused;
    last = stops.last;
  }

  -- while digests are faithful, sessions are catch-ups
  module _ (o : IsTotalOrder laws.cmp) (eqv : IsEquivalence laws.eq) (joining : IsJoining laws.eq laws.join)
      (respects : (h : H) (a b : V) → laws.eq a b ≡ true → laws.value_digest h a ≡ laws.value_digest h b) where
    pub are_gossip : (steps : List (ℕ × ℕ)) (first last : ℕ → Side K V H) (met : Met) → ((n : ℕ) → IsMap laws.cmp (first n).rows) → AreSessions laws steps first last met → AllFaithfulSessions laws met
        → IsGossip laws steps first last met × AllFaithful laws met
    are_gossip [] first last met up made faithful = (made, subst (AllFaithful laws) (sym made.1) tt)
    are_gossip (s ∷ steps) first last met up (joined, after, rest, is, has, others) faithful =
        let all = subst (AllFaithfulSessions laws) is faithful in
        let caught = joined_is_catch_up laws o eqv joining respects (first s.0) (first s.1) (up s.1) joined after has all.0 in
        let (rows, count, brought, joins) = has in
        let more = are_gossip steps (changed first s.0 (with_rows (first s.0) after)) last rest (λ n. by (n == s.0) (with_rows (first s.0) after) (first n) joins.ascending (up n)) others all.1 in
        ((joined, after, rest, is, caught, more.0), subst (AllFaithful laws) (sym is) (all.0.faithful, more.1))
      where
        by : (b : Bool) (x y : Side K V H) → IsMap laws.cmp x.rows → IsMap laws.cmp y.rows → IsMap laws.cmp (if b then x else y).rows
        by true x y p q = p
        by false x y p q = q

module _ {K V H : Type 0} (laws : Laws K V H) (first : Contents K V H) (all : List (Contents K V H)) (hub hub' : Contents K V H) (xs : List (Contents K V H)) (i : ℕ)
    (d x' : Contents K V H) (low : i < length xs) where
  -- the other at a place
  abbrev other : Contents K V H
  other = get_or xs i d

  there : (beyond : Side K V H) → numbered beyond (sides_of hub xs) (suc i) ≡ side other
  there beyond = get_or-map side xs i d beyond low

  in_range : suc i < length (sides_of hub xs)
  in_range = let l = length-map xs (side {K = K} {V = V} {H = H}) in omega (arith, low, l)

  -- the hub's rows changed
  module _ (own : side hub' ≡ with_rows (side hub) hub'.rows) (stays : side x' ≡ side other) where
    hub_changed : (beyond : Side K V H) (n : ℕ) → numbered beyond (sides_of hub' (set xs i x')) n ≡ changed (numbered beyond (sides_of hub xs)) 0 (with_rows (side hub) hub'.rows) n
    hub_changed beyond n =
        (λ k. numbered beyond (own k ∷ map-set_same side xs i x' d stays k) n) ∙ changed-list beyond (sides_of hub xs) 0 (with_rows (side hub) hub'.rows) (omega (arith, in_range)) n

    pub gathers : (joined : ℕ) → HasJoined laws (side hub) (side other) joined hub'.rows → AreMade laws first all hub xs (gathering i) → AreMade laws first all hub' (set xs i x') (gathering (i + 1))
    gathers joined has made beyond =
        let (met, before) = made beyond in
        subst (λ n. (later : List (Side K V H × Side K V H)) × AreSessions laws (gathering n) (numbered beyond (sides_of first all))
        (numbered beyond (sides_of hub' (set xs i x'))) later) (sym (add-one i))
        (sessions-more laws (gathering i) (0, suc i) (numbered beyond (sides_of first all)) (numbered beyond (sides_of hub xs)) (numbered beyond (sides_of hub' (set xs i x')))
        met (side hub) (side other) joined hub'.rows before refl (there beyond) has (hub_changed beyond))

    pub gathering_stops : (fault : MessagesError) → IsMessagesRefused laws (side hub) (side other) fault hub'.rows → AreMade laws first all hub xs (gathering i)
        → (beyond : Side K V H) → StopsBehind laws (gathering i) (0, suc i) fault (numbered beyond (sides_of first all)) (numbered beyond (sides_of hub' (set xs i x')))
    gathering_stops fault refused made beyond =
        let (met, before) = made beyond in
        stops-here laws (gathering i) (0, suc i) (numbered beyond (sides_of first all)) (numbered beyond (sides_of hub xs)) (numbered beyond (sides_of hub' (set xs i x')))
        met (side hub) (side other) fault hub'.rows before refl (there beyond) refused (hub_changed beyond)

  -- those of the other did
  module _ (own : side x' ≡ with_rows (side other) x'.rows) (stays : side hub' ≡ side hub) where
    other_changed : (beyond : Side K V H) (n : ℕ) → numbered beyond (sides_of hub' (set xs i x')) n ≡ changed (numbered beyond (sides_of hub xs)) (suc i) (with_rows (side other) x'.rows) n
    other_changed beyond n =
        (λ k. numbered beyond (stays k ∷ (map-set side xs i x' ∙ ap (set (map side xs) i) own) k) n) ∙ changed-list beyond (sides_of hub xs) (suc i) (with_rows (side other) x'.rows) in_range n

    pub spreads : (joined : ℕ) → HasJoined laws (side other) (side hub) joined x'.rows → AreMade laws first all hub xs (spreading i) → AreMade laws first all hub' (set xs i x') (spreading (i + 1))
    spreads joined has made beyond =
        let (met, before) = made beyond in
        subst (λ n. (later : List (Side K V H × Side K V H)) × AreSessions laws (spreading n) (numbered beyond (sides_of first all))
        (numbered beyond (sides_of hub' (set xs i x'))) later) (sym (add-one i))
        (sessions-more laws (spreading i) (suc i, 0) (numbered beyond (sides_of first all)) (numbered beyond (sides_of hub xs)) (numbered beyond (sides_of hub' (set xs i x')))
        met (side other) (side hub) joined x'.rows before (there beyond) refl has (other_changed beyond))

    pub spreading_stops : (fault : MessagesError) → IsMessagesRefused laws (side other) (side hub) fault x'.rows → AreMade laws first all hub xs (spreading i)
        → (beyond : Side K V H) → StopsBehind laws (spreading i) (suc i, 0) fault (numbered beyond (sides_of first all)) (numbered beyond (sides_of hub' (set xs i x')))
    spreading_stops fault refused made beyond =
        let (met, before) = made beyond in
        stops-here laws (spreading i) (suc i, 0) (numbered beyond (sides_of first all)) (numbered beyond (sides_of hub xs)) (numbered beyond (sides_of hub' (set xs i x')))
        met (side other) (side hub) fault x'.rows before (there beyond) refl refused (other_changed beyond)

-- with one put back, the others stay
pub stay_more : {K V H : Type 0} (all xs : List (Contents K V H)) (i : ℕ) (d x' : Contents K V H) → side x' ≡ side (get_or xs i d) → map side xs ≡ map side all → map side (set xs i x') ≡ map side all
stay_more all xs i d x' stays same = map-set_same side xs i x' d stays ∙ same

-- the rows of one more of them ascend
pub ascend_more : {K V H : Type 0} (cmp : K → K → Ordering) (all xs : List (Contents K V H)) (i : ℕ) (d : Contents K V H) → i < length xs → map side xs ≡ map side all → IsMap cmp (get_or xs i d).rows
    → AllByRecursion (λ s. IsMap cmp s.rows) (take i (map side all)) → AllByRecursion (λ s. IsMap cmp s.rows) (take (i + 1) (map side all))
ascend_more {K} {V} {H} cmp all xs i d low same up before =
    let P : Side K V H → Type 0 = λ s. IsMap cmp s.rows in
    let x = side (get_or xs i d) in
    let there : get_or (map side all) i x ≡ x = ap (λ l. get_or l i x) (sym same) ∙ get_or-map side xs i d x low in
    let within : i < length (map side all) = subst (λ (l : List (Side K V H)). i < length l) same (omega (arith, low, length-map xs (side {K = K} {V = V} {H = H}))) in
    subst (AllByRecursion P) (sym (take_more (map side all) i x within)) (each-append P (take i (map side all)) (get_or (map side all) i x ∷ []) before (subst P (sym there) up, tt))
