-- What is asked next of what was found is steady, where what was found is.
use Rattle.std.specs.Prelude.{⊤}
use Rattle.std.proofs.Common.{◌≡◌, ◌≢◌, ℕ, ◌+◌, ◌≤◌, List, [], Option, Some, None, sym, ap, subst, ◌∙◌, ◌⊎◌, inl, inr, arith}
use Rattle.std.specs.Global.{Vec}
use Rattle.std.specs.List.{AllByRecursion}
use Rattle.merkle_diff.proofs.Each.{each-unmapped, each-with}
use Rattle.merkle_replica.specs.Contents.{Side}
use Rattle.merkle_replica.specs.Laws.{Laws}
use Rattle.merkle_tree_theory.specs.Gap.{Gap}
use Rattle.merkle_tree_theory.specs.Tree.{Tree}
use Rattle.merkle_wire.specs.Underway.{AsksForSome, IsTakenFrom, Found}
use Rattle.merkle_wire.specs.Gaps.{owned_gap}
use Rattle.merkle_wire.specs.Next.{AsksOrGoesOn, GoesOn, rounds_with, IfAsks}
use Rattle.merkle_wire.specs.Taking.{AsksAgain}
use Rattle.merkle_wire.specs.declared.catching_up.Next.{Next}
use Rattle.merkle_wire.specs.declared.catching_up.Next.TheVariants.{Ask, Came}
use Rattle.merkle_wire.specs.declared.limits.Limits.{Limits}
use Rattle.merkle_wire.specs.declared.question.Question.{Question}
use Rattle.merkle_wire.specs.declared.question.Question.TheVariants.{Root, Outlines, Nodes, RowsAt, RowsIn}
use Rattle.merkle_wire.proofs.Times.{total-append, total-mapped}
use Rattle.merkle_wire.proofs.Steady.{AsksForPages, IsFilled, IsSteadyCatchUp, times_asked, times_at, times_found, times_in, times_over, total}
use Rattle.merkle_wire.proofs.Lacking.{all_whole}

module _ {K V H : Type 0} (laws : Laws K V H) (peer : Side K V H) (root : Tree K (List ℕ)) (encoding : K → List ℕ) where
  -- what was found is steady after this many rounds, with a key that is asked about so often besides
  pub record AreSteady (rounds : ℕ) (besides : K → ℕ) (f : Found K V) : Type 0 where
    pub below : AllByRecursion (IsFilled laws peer root 256 rounds) f.below
    pub nodes : AllByRecursion (IsFilled laws peer root 257 0) f.nodes
    pub once : (k : K) → besides k + times_found laws peer root k f ≤ 1

  abbrev pub none_besides : K → ℕ
  none_besides k = 0

  one_round_more : (rounds : ℕ) (g : Gap K) → IsFilled laws peer root 256 rounds g → IsFilled laws peer root 257 (rounds + 1) g
  one_round_more rounds g (t, f, low) = (t, f, omega (arith, low))

  taken_steady : (question : Question K) (rounds : ℕ) (left : Limits) (f after : Found K V) → AsksForSome question → AreSteady rounds none_besides f → IsTakenFrom question f after
      → IsSteadyCatchUp laws peer root (record { asked = question; found = after; rounds = rounds_with rounds question; left = left })
  taken_steady (Root settings) rounds left f after some s t = absurd t
  taken_steady (Outlines most gaps) rounds left f after some s (is, e) = record {
    some = some;
    asked = each-with (λ g. IsFilled laws peer root 256 rounds (owned_gap g)) (λ g. IsFilled laws peer root 257 (rounds + 1) (owned_gap g)) gaps.items (λ g. one_round_more rounds (owned_gap g))
        (each-unmapped owned_gap (IsFilled laws peer root 256 rounds) gaps.items (subst (AllByRecursion (IsFilled laws peer root 256 rounds)) is s.below));
    below = subst (λ x. AllByRecursion (IsFilled laws peer root 256 (rounds + 1)) x.below) (sym e) tt;
    nodes = subst (λ x. AllByRecursion (IsFilled laws peer root 257 0) x.nodes) (sym e) s.nodes;
    once = λ k. subst (λ x. total (λ g. times_in laws.cmp k (owned_gap g)) gaps.items + times_found laws peer root k x ≤ 1) (sym e)
        (omega (arith, s.once k, ap (total (times_in laws.cmp k)) is, total-mapped (times_in laws.cmp k) owned_gap gaps.items));
  }
  taken_steady (Nodes most gaps) rounds left f after some s (is, e) = record {
    some = some;
    asked = each-unmapped owned_gap (IsFilled laws peer root 257 0) gaps.items (subst (AllByRecursion (IsFilled laws peer root 257 0)) is s.nodes);
    below = subst (λ x. AllByRecursion (IsFilled laws peer root 256 rounds) x.below) (sym e) s.below;
    nodes = subst (λ x. AllByRecursion (IsFilled laws peer root 257 0) x.nodes) (sym e) tt;
    once = λ k. subst (λ x. total (λ g. times_over laws peer root k (owned_gap g)) gaps.items + times_found laws peer root k x ≤ 1) (sym e)
        (omega (arith, s.once k, ap (total (times_over laws peer root k)) is, total-mapped (times_over laws peer root k) owned_gap gaps.items));
  }
  taken_steady (RowsAt keys) rounds left f after some s (is, e) = record {
    some = some;
    asked = tt;
    below = subst (λ x. AllByRecursion (IsFilled laws peer root 256 rounds) x.below) (sym e) s.below;
    nodes = subst (λ x. AllByRecursion (IsFilled laws peer root 257 0) x.nodes) (sym e) s.nodes;
    once = λ k. subst (λ x. total (λ w. times_at laws.cmp k w.key) keys.items + times_found laws peer root k x ≤ 1) (sym e)
        (omega (arith, s.once k, ap (total (times_at laws.cmp k)) is, total-mapped (times_at laws.cmp k) (λ w. w.key) keys.items));
  }
  taken_steady (RowsIn gaps) rounds left f after some s (is, e) = record {
    some = some;
    asked = tt;
    below = subst (λ x. AllByRecursion (IsFilled laws peer root 256 rounds) x.below) (sym e) s.below;
    nodes = subst (λ x. AllByRecursion (IsFilled laws peer root 257 0) x.nodes) (sym e) s.nodes;
    once = λ k. subst (λ x. total (λ g. times_in laws.cmp k (owned_gap g)) gaps.items + times_found laws peer root k x ≤ 1) (sym e)
        (omega (arith, s.once k, ap (total (times_in laws.cmp k)) is, total-mapped (times_in laws.cmp k) owned_gap gaps.items));
  }

  whole_steady : (rounds : ℕ) (f : Found K V) → AreSteady rounds none_besides f → AreSteady rounds none_besides (all_whole f)
  whole_steady rounds f s = record { below = tt; nodes = s.nodes; once = λ k. omega (arith, s.once k, total-append (times_in laws.cmp k) f.whole f.below) }

  goes_on_steady : (rounds : ℕ) (f : Found K V) (next : Next K V) → AreSteady rounds none_besides f → GoesOn laws.cmp encoding rounds f next → IfAsks (IsSteadyCatchUp laws peer root) next
  goes_on_steady rounds f (Came rows) s goes = tt
  goes_on_steady rounds f (Ask session message) s (asked, is, same) =
      subst (IsSteadyCatchUp laws peer root) (λ i. record { asked = session.asked; found = session.found; rounds = sym same i; left = session.left }) (from asked.1)
    where
      from : IsTakenFrom session.asked f session.found ⊎ IsTakenFrom session.asked (all_whole f) session.found
          → IsSteadyCatchUp laws peer root (record { asked = session.asked; found = session.found; rounds = rounds_with rounds session.asked; left = session.left })
      from (inl t) = taken_steady session.asked rounds session.left f session.found asked.0 s t
      from (inr t) = taken_steady session.asked rounds session.left (all_whole f) session.found asked.0 (whole_steady rounds f s) t

  -- what is asked again
  abbrev pub times_again : Option (Question K) → K → ℕ
  times_again None k = 0
  times_again (Some question) k = times_asked laws peer root k question

  abbrev pub IsAgainFit : ℕ → Option (Question K) → Type 0
  IsAgainFit rounds None = ⊤
  IsAgainFit rounds (Some question) = AsksForSome question × AsksForPages laws peer root rounds question

  pub next_steady : (again : Option (Question K)) (rounds : ℕ) (f : Found K V) (next : Next K V) → IsAgainFit rounds again → AreSteady rounds (times_again again) f
      → AsksOrGoesOn laws.cmp encoding again rounds f next → IfAsks (IsSteadyCatchUp laws peer root) next
  next_steady None rounds f next fit s goes = goes_on_steady rounds f next s goes
  next_steady (Some question) rounds f (Came rows) fit s goes = tt
  next_steady (Some question) rounds f (Ask session message) fit s (is, same) =
      subst (IsSteadyCatchUp laws peer root) (sym same) (record { some = fit.0; asked = fit.1; below = s.below; nodes = s.nodes; once = s.once })

  pub again_fit : {X : Type 0} (ask : Vec X → Question K) (F : X → Type 0) (times : K → X → ℕ) (rounds : ℕ) (left : List X) (again : Option (Question K))
      → ((xs : Vec X) → xs.items ≢ [] → AsksForSome (ask xs))
      → ((xs : Vec X) → AllByRecursion F xs.items → AsksForPages laws peer root rounds (ask xs)) → ((k : K) (xs : Vec X) → times_asked laws peer root k (ask xs) ≡ total (times k) xs.items)
      → AsksAgain ask left again → AllByRecursion F left → IsAgainFit rounds again × ((k : K) → times_again again k ≡ total (times k) left)
  again_fit ask F times rounds left again some pages count (inl (none, e)) fits = (subst (IsAgainFit rounds) (sym e) tt, λ k. ap (λ a. times_again a k) e ∙ ap (total (times k)) (sym none))
  again_fit ask F times rounds left again some pages count (inr (rest, is, more, e)) fits = (
    subst (IsAgainFit rounds) (sym e) (some rest (λ none. more (sym is ∙ none)), pages rest (subst (AllByRecursion F) (sym is) fits)),
    λ k. ap (λ a. times_again a k) e ∙ count k rest ∙ ap (total (times k)) is,
  )
