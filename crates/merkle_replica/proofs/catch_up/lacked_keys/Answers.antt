use Rattle.std.proofs.Common.{◌≡◌, ℕ, ◌+◌, ◌-◌, ◌<◌, ◌≤◌, ◌^◌, false, length, arith, ap, sym, subst, ◌∙◌}
use Rattle.std.proofs.lemmas.Bool.{eqb-true, eqb-false}
use Rattle.std.proofs.lemmas.List.{length-map, map-append}
use Rattle.std.specs.Vec.{vec_len}
use Rattle.merkle_digest.specs.Level.{level_of}
use Rattle.merkle_search_tree.specs.Items.{lent_gap, items}
use Rattle.merkle_tree_theory.specs.Page.{level}
use Rattle.merkle_replica.specs.Contents.{Contents, side, tree_map}
use Rattle.merkle_replica.specs.Descent.{AreSortedOut, gaps_of, keys_of, node_count, outlines_over}
use Rattle.merkle_replica.specs.Laws.{Laws}
use Rattle.merkle_replica.specs.Missing.{own_tree}
use Rattle.merkle_replica.proofs.Missing.{as_many, compared_all, counts_fit, counts_more, counts_start, opened_all}
use Rattle.merkle_replica.proofs.RoundStates.{IsUnderway}
use Rattle.merkle_replica.proofs.Rounds.{Premises, premises_from, starts, goes_on, ends, some_left, root_level, some_gaps, no_gaps}
use Rattle.merkle_replica.proofs.SideLaws.{laws_of}
use Rattle.merkle_replica.proofs.catch_up.lacked_keys.Given.{Over}
use Rattle.merkle_replica.proofs.catch_up.lacked_keys.Goals as goal
use Rattle.merkle_replica.proofs.catch_up.lacked_keys.Goals.{After-append, After-is_empty, After-outlines_lead_down}

-- the laws of keys, values and hasher
abbrev laws_for : (g : Over) → Laws g.row.K.Denot g.row.V.Denot g.row.H.Denot
laws_for g = laws_of g.K.Ord.cmp g.K.KeyBytes.bytes_of g.H.Hasher-1.digest_of g.V.PartialEq.eq g.V.Join.join_of g.H.Hasher-2.digest_of

-- the level of a key in the tree of a replica
abbrev level_at : (g : Over) → Contents g.row.K.Denot g.row.V.Denot g.row.H.Denot → g.row.K.Denot → ℕ
level_at g r k = level_of (g.H.Hasher-1.digest_of r.tree.hasher k) r.tree.base

-- what the laws of trees say of the peer's tree
premises : (g : Over) (c : After-outlines_lead_down g) → Premises (laws_for g) c.args.local.now c.args.peer.now
premises g c =
    let sound = rw c.tree.ensures.tree at c.every_tree_is_sound.ensures.sound in
    let down = c.outlines_lead_down.ensures in
    let own = side c.args.local.now in
    premises_from (laws_for g) g.met.K.Ord.total c.args.local.now c.args.peer.now
    (c.a_map_has_one_tree.ensures.defined own.hasher own.base
    (tree_map (laws_for g) own)) sound.ascending sound.canonical c.tree.ensures.digests c.rows_ascend.ensures down.opens down.outline down.whole down.gap down.page

-- while there are gaps, levels are left
levels_left : (g : Over) (c : After-is_empty g) → Premises (laws_for g) c.args.local.now c.args.peer.now → c.is_empty.result ≡ false → c.rounds.rounds < level c.args.peer.now.tree.root + 1
levels_left g c p some =
    let left = level c.args.peer.now.tree.root + 1 - c.rounds.rounds in
    let low = some_left (laws_for g) g.met.K.Ord.total c.args.local.now c.args.peer.now p left (gaps_of c.rounds.gaps.items) (keys_of c.rounds.keys.items) c.rounds.invariant.underway
    (some_gaps c.rounds.gaps.items (λ z. eqb-false (vec_len c.rounds.gaps) 0 (sym c.is_empty.ensures ∙ some) (c.rounds.gaps.ok.0 ∙ z))) in
    omega arith

pub rounds-init : goal.rounds-init
rounds-init g c =
    let laws = laws_for g in
    let local = c.args.local.now in
    let peer = c.args.peer.now in
    let n : level peer.tree.root + 1 ≡ level peer.tree.root + 1 - 0 = omega arith in
    let asked = c.in_ok-first_asked.first_asked in
    let p = premises g (goal.at.rounds-init g c).After-outlines_lead_down in
    let sorted = subst (λ es. AreSortedOut laws (side local) (items es) (gaps_of asked.gaps.items) (keys_of asked.keys.items)) c.deref.ensures.value
    (rw g.met.H.RowHasher.laws_are at c.in_ok-first_asked.ensures) in
    record {
      few = omega arith;
      underway = subst (λ m. IsUnderway laws local peer m (gaps_of asked.gaps.items) (keys_of asked.keys.items)) n
          (starts laws g.met.K.Ord.total local peer p (items c.in_ok-first.first.items) (gaps_of asked.gaps.items) (keys_of asked.keys.items) c.in_ok-first.ensures sorted);
      counted = counts_start laws g.met.K.Ord.total local peer p.ascending (level_at g c.args.peer.now) p.canonical (gaps_of asked.gaps.items) (keys_of asked.keys.items)
          (subst (λ xs. AreSortedOut laws (side local) xs (gaps_of asked.gaps.items) (keys_of asked.keys.items)) c.in_ok-first.ensures sorted);
    }

pub overflow_add-rounds : goal.overflow_add-rounds
overflow_add-rounds g c =
    let peer = c.args.peer.now in
    let most = root_level (λ k. level_of (g.H.Hasher-1.digest_of peer.tree.hasher k) peer.tree.base) peer.tree.root
    (λ k. c.equal_keys_are_on_one_level.ensures.most _ _) (rw c.tree.ensures.tree at c.every_tree_is_sound.ensures.sound).canonical in
    let few = c.rounds.invariant.few in
    omega arith

pub rounds-smaller : goal.rounds-smaller
rounds-smaller g c =
    let at = goal.at.rounds-smaller g c in
    let low = levels_left g at.After-is_empty (premises g at.After-outlines_lead_down) c.rounds-test.true in
    omega arith

-- what was asked for in a round is sorted out
sorted_round : (g : Over) (c : After-append g)
    → AreSortedOut (laws_for g) (side c.args.local.now) (outlines_over g.K.KeyBytes.bytes_of g.K.Ord.cmp c.args.peer.now.tree c.rounds.gaps.items)
    (gaps_of c.in_ok-asked.asked.gaps.items) (keys_of c.in_ok-asked.asked.keys.items)
sorted_round g c =
    let laws = laws_for g in
    let asked = c.in_ok-asked.asked in
    subst (λ es. AreSortedOut laws (side c.args.local.now) es (gaps_of asked.gaps.items) (keys_of asked.keys.items))
    (c.in_ok-outlines.ensures ∙ ap (outlines_over laws.bytes_of laws.cmp c.args.peer.now.tree) c.deref-in-rounds.ensures.value)
    (subst (λ es. AreSortedOut laws (side c.args.local.now) (items es) (gaps_of asked.gaps.items) (keys_of asked.keys.items)) c.deref-in-rounds-2.ensures.value
    (rw g.met.H.RowHasher.laws_are at c.in_ok-asked.ensures))

pub rounds-preserved : goal.rounds-preserved
rounds-preserved g c =
    let laws = laws_for g in
    let local = c.args.local.now in
    let peer = c.args.peer.now in
    let at = goal.at.rounds-preserved g c in
    let p = premises g at.After-outlines_lead_down in
    let low = levels_left g at.After-is_empty p c.rounds-test.true in
    let n = level peer.tree.root + 1 - c.rounds.rounds in
    let m = level peer.tree.root + 1 - (c.rounds.rounds + 1) in
    let le : n ≤ m + 1 = omega arith in
    let asked = c.in_ok-asked.asked in
    let sorted = sorted_round g at.After-append in
    record {
      few = omega arith;
      underway = subst (IsUnderway laws local peer m (gaps_of asked.gaps.items)) (sym (ap keys_of c.in_ok-append.ensures.items ∙ map-append (λ k. k.now) c.rounds.keys.items asked.keys.items))
          (goes_on laws g.met.K.Ord.total local peer p n m (gaps_of c.rounds.gaps.items) (gaps_of asked.gaps.items) (keys_of c.rounds.keys.items)
          (keys_of asked.keys.items) le c.rounds.invariant.underway sorted);
      counted = counts_more laws g.met.K.Ord.total local peer p.ascending (level_at g peer) p.canonical n (gaps_of c.rounds.gaps.items)
          (gaps_of asked.gaps.items) (keys_of asked.keys.items) c.rounds.opened c.rounds.compared
          c.rounds.invariant.underway.pages sorted c.rounds.invariant.counted _ _ (omega (arith, c.len-opened.ensures, c.rounds.gaps.ok.0, length-map c.rounds.gaps.items lent_gap))
          (omega (
            arith,
            c.node_count-compared.ensures,
            ap (λ xs. node_count (items xs)) c.deref-in-rounds-3.ensures.value,
            ap node_count c.in_ok-outlines.ensures,
            ap (λ gs. node_count (outlines_over laws.bytes_of laws.cmp peer.tree gs)) c.deref-in-rounds.ensures.value,
          ));
    }

-- a round counts no more pages and nodes than there are rows
counts_small : (g : Over) (c : After-append g) → Premises (laws_for g) c.args.local.now c.args.peer.now
    → (c.rounds.opened + vec_len c.rounds.gaps ≤ length c.args.peer.now.rows)
    × (c.rounds.compared + node_count (outlines_over g.K.KeyBytes.bytes_of g.K.Ord.cmp c.args.peer.now.tree c.rounds.gaps.items) ≤ length c.args.peer.now.rows)
counts_small g c p =
    let laws = laws_for g in
    let local = c.args.local.now in
    let peer = c.args.peer.now in
    let asked = c.in_ok-asked.asked in
    let n = level peer.tree.root + 1 - c.rounds.rounds in
    let fit = counts_fit laws g.met.K.Ord.total local peer p.ascending (level_at g peer) p.canonical n (gaps_of c.rounds.gaps.items) (gaps_of asked.gaps.items)
    (keys_of asked.keys.items) c.rounds.opened c.rounds.compared
    c.rounds.invariant.underway.pages (sorted_round g c) c.rounds.invariant.counted in
    let many = as_many laws g.met.K.Ord.total peer p.kept in
    (omega (arith, fit.0, many, length-map c.rounds.gaps.items lent_gap, c.rounds.gaps.ok.0), omega (arith, fit.1, many))

pub overflow_add-opened : goal.overflow_add-opened
overflow_add-opened g c =
    let at = goal.at.overflow_add-opened g c in
    let small = counts_small g at.After-append (premises g at.After-outlines_lead_down) in
    let few : length c.args.peer.now.rows < 2 ^ 64 = subst (λ rows. length rows < 2 ^ 64) c.rows.ensures.rows c.rows.type_inv.0 in
    omega (arith, small.0, c.len-opened.ensures, few)

pub overflow_add-compared : goal.overflow_add-compared
overflow_add-compared g c =
    let at = goal.at.overflow_add-compared g c in
    let small = counts_small g at.After-append (premises g at.After-outlines_lead_down) in
    let few : length c.args.peer.now.rows < 2 ^ 64 = subst (λ rows. length rows < 2 ^ 64) c.rows.ensures.rows c.rows.type_inv.0 in
    omega (
      arith,
      small.1,
      c.node_count-compared.ensures,
      ap (λ xs. node_count (items xs)) c.deref-in-rounds-3.ensures.value,
      ap node_count c.in_ok-outlines.ensures,
      ap (λ gs. node_count (outlines_over g.K.KeyBytes.bytes_of g.K.Ord.cmp c.args.peer.now.tree gs)) c.deref-in-rounds.ensures.value,
      few,
    )

pub returns-clause-found : goal.returns-clause-found
returns-clause-found g c = rw g.met.H.RowHasher.laws_are
    (ends (laws_for g) g.met.K.Ord.total c.args.local.now c.args.peer.now (premises g (goal.at.returns-clause-found g c).After-outlines_lead_down)
    (level c.args.peer.now.tree.root + 1 - c.rounds.rounds) (gaps_of c.rounds.gaps.items)
    (keys_of c.rounds.keys.items) (no_gaps c.rounds.gaps.items
    (sym c.rounds.gaps.ok.0 ∙ eqb-true (vec_len c.rounds.gaps) 0 (sym c.is_empty.ensures ∙ c.rounds-test.false))) c.rounds.invariant.underway)

pub returns-clause-few : goal.returns-clause-few
returns-clause-few g c = c.rounds.invariant.few

pub returns-clause-opened : goal.returns-clause-opened
returns-clause-opened g c = rw g.met.H.RowHasher.laws_are (
    let laws = laws_for g in
    let peer = c.args.peer.now in
    opened_all laws g.met.K.Ord.total c.args.local.now peer (c.equal_pages_have_equal_maps.ensures.digests peer.tree.format) (own_tree laws (side peer))
    (c.a_map_has_one_tree.ensures.only peer.tree.hasher peer.tree.base (tree_map laws (side peer)) peer.tree.root
    (rw g.met.H.RowHasher.laws_are at c.a_replica_has_the_tree_of_its_rows.ensures)) c.rounds.opened c.rounds.compared (gaps_of c.rounds.gaps.items)
    (no_gaps c.rounds.gaps.items (sym c.rounds.gaps.ok.0 ∙ eqb-true (vec_len c.rounds.gaps) 0 (sym c.is_empty.ensures ∙ c.rounds-test.false))) c.rounds.invariant.counted)

pub returns-clause-compared : goal.returns-clause-compared
returns-clause-compared g c = rw g.met.H.RowHasher.laws_are (
    let laws = laws_for g in
    let peer = c.args.peer.now in
    compared_all laws g.met.K.Ord.total c.args.local.now peer (c.equal_pages_have_equal_maps.ensures.digests peer.tree.format) (own_tree laws (side peer))
    (c.a_map_has_one_tree.ensures.only peer.tree.hasher peer.tree.base (tree_map laws (side peer)) peer.tree.root
    (rw g.met.H.RowHasher.laws_are at c.a_replica_has_the_tree_of_its_rows.ensures)) c.rounds.opened c.rounds.compared (gaps_of c.rounds.gaps.items)
    (no_gaps c.rounds.gaps.items (sym c.rounds.gaps.ok.0 ∙ eqb-true (vec_len c.rounds.gaps) 0 (sym c.is_empty.ensures ∙ c.rounds-test.false))) c.rounds.invariant.counted)
