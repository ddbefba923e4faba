use Rattle.std.proofs.Common.{◌≡◌, ℕ, ◌+◌, length, length-append, append_assoc, append-nil, arith, List, false, is_some, ap, sym, subst, ◌∙◌, ◌++◌, [], ◌∷◌}
use Rattle.std.specs.Vec.Iter.{into_iter_items}
use Rattle.merkle_digest.specs.Level.{level_of}
use Rattle.merkle_tree_theory.specs.Canonical.{SamePages}
use Rattle.std.specs.Prelude.{⊤, MatchOption}
use Rattle.merkle_tree_theory.specs.Cache.{uncached_pages}
use Rattle.merkle_tree_theory.specs.Stream.{page_digest}
use Rattle.merkle_tree_theory.specs.State.{map_of}
use Rattle.merkle_tree_theory.specs.TreeOf.{tree_of}
use Rattle.merkle_search_tree.specs.Updates.{map_after, map_after_one, hashed_after, hashed_after_one, IsAcceptedIfFree, FreeAreAccepted}
use Rattle.merkle_search_tree.proofs.Replays.{map_after-more, hashed_after-more, free-more, hashed_is}
use Rattle.merkle_tree_theory.proofs.Same.{same_digest}
use Rattle.merkle_tree_theory.proofs.SameRanges.{same_ranges}
use Rattle.merkle_tree_theory.proofs.Sound.{same_bytes}
use Rattle.merkle_search_tree.proofs.updates.replay.Goals as goal

pub updates-preserved : goal.updates-preserved
updates-preserved g c =
    let cmp = g.K.Ord.cmp in
    let d = g.H.Hasher-2.digest_of in
    let u = c.in-Some.update in
    let kept = c.updates.invariant in
    let steps : into_iter_items c.updates.update-iterator ≡ u ∷ into_iter_items c.next.new.self = c.in-Some.ensures.steps.0 in
    record {
      left = append_assoc c.updates.yielded (u ∷ []) _ ∙ rw (← steps) kept.left;
      count =
          let was = kept.count in
          let gone = c.in-Some.ensures.steps.1 in
          let short = ap length steps in
          omega arith;
      answers = ap length c.in_ok-push.ensures.items ∙ length-append c.updates.accepted.items (c.carry_out.result ∷ []) ∙ ap (λ (n : ℕ). n + 1) kept.answers
          ∙ sym (length-append c.updates.yielded (u ∷ []));
      free = subst (FreeAreAccepted cmp (d c.args.builder.hasher) [] (c.updates.yielded ++ u ∷ [])) (sym c.in_ok-push.ensures.items)
          (free-more cmp (d c.args.builder.hasher) [] c.updates.yielded u c.updates.accepted.items c.carry_out.result kept.answers kept.free
          (subst (λ (m : List (g.row.K.Denot × List ℕ)). IsAcceptedIfFree cmp (d c.args.builder.hasher) m u c.carry_out.result) kept.map
          (subst (λ h. IsAcceptedIfFree cmp (d h) (map_of c.updates.tree) u c.carry_out.result) kept.hasher c.carry_out.ensures.free)));
      map = c.carry_out.ensures.map
          ∙ ap (λ h. map_after_one cmp (d h) (map_of c.updates.tree) u c.carry_out.result) kept.hasher
          ∙ ap (λ m. map_after_one cmp (d c.args.builder.hasher) m u c.carry_out.result) kept.map
          ∙ sym (map_after-more cmp (d c.args.builder.hasher) [] c.updates.yielded u c.updates.accepted.items c.carry_out.result kept.answers)
          ∙ ap (map_after cmp (d c.args.builder.hasher) [] (c.updates.yielded ++ u ∷ [])) (sym c.in_ok-push.ensures.items);
      hashed = c.carry_out.ensures.hashed
          ∙ ap (λ h. hashed_after_one cmp (d h) (map_of c.updates.tree) (is_some c.updates.tree.root_hash) u c.carry_out.result) kept.hasher
          ∙ (λ i. hashed_after_one cmp (d c.args.builder.hasher) (kept.map i) (kept.hashed i) u c.carry_out.result)
          ∙ sym (hashed_after-more cmp (d c.args.builder.hasher) [] false c.updates.yielded u c.updates.accepted.items c.carry_out.result kept.answers)
          ∙ ap (hashed_after cmp (d c.args.builder.hasher) [] false (c.updates.yielded ++ u ∷ [])) (sym c.in_ok-push.ensures.items);
      hasher = c.carry_out.ensures.settings.0 ∙ kept.hasher;
      base = c.carry_out.ensures.settings.1 ∙ kept.base;
      format = c.carry_out.ensures.settings.2 ∙ kept.format;
    }

-- at the end all updates were carried out
all_done : {X : Type 0} (done left all : List X) → done ++ left ≡ all → length left ≡ 0 → done ≡ all
all_done done [] all e h = sym (append-nil done) ∙ e
all_done done (x ∷ left) all e h = absurd (omega (arith, h))

pub returns-clause-free : goal.returns-clause-free
returns-clause-free g c =
    subst (λ (us : List _). FreeAreAccepted g.K.Ord.cmp (g.H.Hasher-2.digest_of c.args.builder.hasher) [] us c.updates.accepted.items)
    (all_done _ _ _ c.updates.invariant.left (sym c.updates.invariant.count ∙ c.in-None.ensures.steps.0)) c.updates.invariant.free

pub returns-clause-pages : goal.returns-clause-pages
returns-clause-pages g c =
    let cmp = g.K.Ord.cmp in
    let d = g.H.Hasher-1.digest_of in
    let s = c.updates.tree in
    let m : map_of s ≡ map_after cmp (g.H.Hasher-2.digest_of c.args.builder.hasher) [] c.args.updates.items c.updates.accepted.items =
    subst (λ (us : List _). map_of s ≡ map_after cmp (g.H.Hasher-2.digest_of c.args.builder.hasher) [] us c.updates.accepted.items)
    (all_done _ _ _ c.updates.invariant.left (sym c.updates.invariant.count ∙ c.in-None.ensures.steps.0)) c.updates.invariant.map in
    subst (λ (n : List (g.row.K.Denot × List ℕ)). SamePages cmp s.root (tree_of (λ k. level_of (d c.args.builder.hasher k) c.args.builder.base) n)) m
    (subst (λ (b : ℕ). SamePages cmp s.root (tree_of (λ k. level_of (d c.args.builder.hasher k) b) (map_of s))) c.updates.invariant.base
    (subst (λ h. SamePages cmp s.root (tree_of (λ k. level_of (d h k) s.base) (map_of s))) c.updates.invariant.hasher c.every_tree_is_sound.ensures.defined))

pub returns-clause-ranges : goal.returns-clause-ranges
returns-clause-ranges g c =
    same_ranges g.K.Ord.cmp c.args.builder.format g.K.KeyBytes.bytes_of
    (same_bytes g.K.Ord.cmp g.K.PartialEq.eq g.met.K.Ord.matches_eq g.K.KeyBytes.bytes_of g.met.K.KeyBytes.bytes_respect_eq) _ _ (returns-clause-pages g c)

pub returns-clause-root_hash : goal.returns-clause-root_hash
returns-clause-root_hash g c =
    let bytes_of = g.K.KeyBytes.bytes_of in
    let e : is_some c.updates.tree.root_hash ≡ hashed_after g.K.Ord.cmp (g.H.Hasher-2.digest_of c.args.builder.hasher) [] false c.args.updates.items c.updates.accepted.items =
    subst (λ (us : List _). is_some c.updates.tree.root_hash ≡ hashed_after g.K.Ord.cmp
    (g.H.Hasher-2.digest_of c.args.builder.hasher) [] false us c.updates.accepted.items)
    (all_done _ _ _ c.updates.invariant.left (sym c.updates.invariant.count ∙ c.in-None.ensures.steps.0)) c.updates.invariant.hashed in
    hashed_is _ c.updates.tree.root_hash _ _ _ e
    (subst (λ f. MatchOption c.updates.tree.root_hash ⊤
    (λ digest. (digest ≡ page_digest f bytes_of c.updates.tree.root)
    × (uncached_pages c.updates.tree.root ≡ 0))) c.updates.invariant.format c.a_hashed_tree_has_every_digest.ensures)
    (same_digest g.K.Ord.cmp c.args.builder.format bytes_of (same_bytes g.K.Ord.cmp g.K.PartialEq.eq g.met.K.Ord.matches_eq bytes_of g.met.K.KeyBytes.bytes_respect_eq) _ _ (returns-clause-pages g c))
