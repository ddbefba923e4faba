-- What is left to be told of the pages that a side hasn't, and of nodes: what is asked next leaves no more than was found.
use Rattle.std.proofs.Common.{◌≡◌, ℕ, ◌+◌, ◌≤◌, Bool, List, length, Option, Some, None, sym, ap, subst, ◌⊎◌, inl, inr, arith}
use Rattle.std.proofs.lemmas.List.{length-map}
use Rattle.std.specs.Global.{Vec}
use Rattle.merkle_replica.specs.Contents.{Side}
use Rattle.merkle_replica.specs.Laws.{Laws}
use Rattle.merkle_tree_theory.specs.Gap.{Gap}
use Rattle.merkle_tree_theory.specs.Tree.{Tree}
use Rattle.merkle_wire.specs.Underway.{IsTakenFrom, Found, Underway}
use Rattle.merkle_wire.specs.SessionLaws.{lacked_of_tree}
use Rattle.merkle_wire.specs.Gaps.{owned_gap}
use Rattle.merkle_wire.specs.Next.{AsksOrGoesOn}
use Rattle.merkle_wire.specs.Taking.{AsksAgain}
use Rattle.merkle_wire.specs.declared.catching_up.Next.{Next}
use Rattle.merkle_wire.specs.declared.catching_up.Next.TheVariants.{Ask, Came}
use Rattle.merkle_wire.specs.declared.question.Question.{Question}
use Rattle.merkle_wire.specs.declared.question.Question.TheVariants.{Root, Outlines, Nodes, RowsAt, RowsIn}
use Rattle.merkle_wire.proofs.PagesLacked.{lacked_over}
use Rattle.merkle_wire.proofs.Times.{total-mapped}
use Rattle.merkle_wire.proofs.Steady.{total}
use Rattle.merkle_wire.proofs.Lacking.{all_whole}

-- what is asked again weighs as much as what is left
abbrev pub again_of : {K : Type 0} → (Question K → ℕ) → Option (Question K) → ℕ
again_of by None = 0
again_of by (Some question) = by question

pub again_weighs : {K X : Type 0} (by : Question K → ℕ) (ask : Vec X → Question K) (weight : List X → ℕ) (left : List X) (again : Option (Question K))
    → ((xs : Vec X) → by (ask xs) ≡ weight xs.items) → AsksAgain ask left again
    → again_of by again ≤ weight left
again_weighs by ask weight left again is (inl (none, e)) = omega (arith, ap (again_of by) e)
again_weighs by ask weight left again is (inr (rest, items, some, e)) = omega (arith, ap (again_of by) e, is rest, ap weight items)

module _ {K V H : Type 0} (laws : Laws K V H) (peer : Side K V H) (root : Tree K (List ℕ)) (is_there : Gap K → List ℕ → Bool) where
  abbrev pub over : Gap K → ℕ
  over = lacked_over laws.cmp peer.format laws.bytes_of is_there root

  -- the pages that are left to be told, by a question and of what was found
  abbrev pub pages_by : Question K → ℕ
  pages_by (Root settings) = lacked_of_tree peer.format laws.bytes_of is_there root
  pages_by (Outlines most gaps) = total (λ g. over (owned_gap g)) gaps.items
  pages_by (Nodes most gaps) = 0
  pages_by (RowsAt keys) = 0
  pages_by (RowsIn gaps) = 0

  abbrev pub pages_of : Found K V → ℕ
  pages_of f = total over f.below

  -- so with nodes
  abbrev pub nodes_by : Question K → ℕ
  nodes_by (Root settings) = 0
  nodes_by (Outlines most gaps) = 0
  nodes_by (Nodes most gaps) = length gaps.items
  nodes_by (RowsAt keys) = 0
  nodes_by (RowsIn gaps) = 0

  abbrev pub nodes_of : Found K V → ℕ
  nodes_of f = length f.nodes

  -- where this many pages, and this many nodes, were told in a reply, what comes next leaves that many fewer, but for the nodes of the pages
  abbrev pub PayFor : ℕ → ℕ → Underway K V → Next K V → Type 0
  PayFor pages nodes before (Ask session message) =
      (pages + (pages_by session.asked + pages_of session.found) ≤ pages_by before.asked + pages_of before.found)
      × (nodes + (nodes_by session.asked + nodes_of session.found) ≤ pages + (nodes_by before.asked + nodes_of before.found))
  PayFor pages nodes before (Came rows) = (pages ≤ pages_by before.asked + pages_of before.found) × (nodes ≤ pages + (nodes_by before.asked + nodes_of before.found))

  taken_from : (question : Question K) (f after : Found K V) → IsTakenFrom question f after → (pages_by question + pages_of after ≤ pages_of f) × (nodes_by question + nodes_of after ≤ nodes_of f)
  taken_from (Root settings) f after t = absurd t
  taken_from (Outlines most gaps) f after (is, e) = (
    subst (λ x. pages_by (Outlines most gaps) + pages_of x ≤ pages_of f) (sym e) (omega (arith, ap (total over) is, total-mapped over owned_gap gaps.items)),
    subst (λ x. 0 + nodes_of x ≤ nodes_of f) (sym e) (omega arith),
  )
  taken_from (Nodes most gaps) f after (is, e) = (
    subst (λ x. 0 + pages_of x ≤ pages_of f) (sym e) (omega arith),
    subst (λ x. nodes_by (Nodes most gaps) + nodes_of x ≤ nodes_of f) (sym e) (omega (arith, ap length is, length-map gaps.items owned_gap)),
  )
  taken_from (RowsAt keys) f after (is, e) = (subst (λ x. 0 + pages_of x ≤ pages_of f) (sym e) (omega arith), subst (λ x. 0 + nodes_of x ≤ nodes_of f) (sym e) (omega arith))
  taken_from (RowsIn gaps) f after (is, e) = (subst (λ x. 0 + pages_of x ≤ pages_of f) (sym e) (omega arith), subst (λ x. 0 + nodes_of x ≤ nodes_of f) (sym e) (omega arith))

  -- what is asked next
  pub next_pays : (encoding : K → List ℕ) (pages nodes : ℕ) (before : Underway K V) (again : Option (Question K)) (rounds : ℕ) (f : Found K V) (next : Next K V)
      → pages + (again_of pages_by again + pages_of f) ≤ pages_by before.asked + pages_of before.found
      → nodes + (again_of nodes_by again + nodes_of f) ≤ pages + (nodes_by before.asked + nodes_of before.found)
      → AsksOrGoesOn laws.cmp encoding again rounds f next → PayFor pages nodes before next
  next_pays encoding pages nodes before again rounds f (Came rows) p q goes = (omega (arith, p), omega (arith, q))
  next_pays encoding pages nodes before None rounds f (Ask session message) p q (asked, is, more) = by asked.1
    where
      by : IsTakenFrom session.asked f session.found ⊎ IsTakenFrom session.asked (all_whole f) session.found → PayFor pages nodes before (Ask session message)
      by (inl t) = let less = taken_from session.asked f session.found t in (omega (arith, p, less.0), omega (arith, q, less.1))
      by (inr t) = let less = taken_from session.asked (all_whole f) session.found t in (omega (arith, p, less.0), omega (arith, q, less.1))
  next_pays encoding pages nodes before (Some question) rounds f (Ask session message) p q (is, e) = (
    omega (arith, p, ap (λ s. pages_by s.asked) e, ap (λ s. pages_of s.found) e),
    omega (arith, q, ap (λ s. nodes_by s.asked) e, ap (λ s. nodes_of s.found) e),
  )
