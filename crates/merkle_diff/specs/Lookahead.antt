-- An iterator with its next item.
use Rattle.std.specs.Prelude.{◌≡◌, ◌≤◌, ◌<◌, List, [], ◌∷◌, ◌+◌, ℕ, IfSome, MatchOption, Option, Some, None}
use Rattle.std.specs.Iterator.{Count, IsFinite, size}
use Rattle.merkle_diff.specs.declared.lookahead.Lookahead.{Lookahead}

-- where an item stands ahead, the iterator may be called on, and ends
abbrev pub CanGoOn : {I X : Type 0} → (I → Type 0) → (I → Count) → Lookahead I X → Type 0
CanGoOn can left q = IfSome q.head (λ _. can q.rest × IsFinite (left q.rest))

abbrev left_by : {X : Type 0} → Option X → ℕ → ℕ
left_by None n = 0
left_by (Some _) n = n + 1

-- no more items than this are left
abbrev pub items_left : {I X : Type 0} → (I → Count) → Lookahead I X → ℕ
items_left left q = left_by q.head (size (left q.rest))

-- the items `xs` come, the head first, and then the end
abbrev pub LeavesItems : {I X : Type 0} → (I → Option X → I → Type 0) → Lookahead I X → List X → Type 0
LeavesItems steps q [] = q.head ≡ None
LeavesItems {I} {X} steps q (x ∷ xs) = (q.head ≡ Some x) × (next : Lookahead I X) × steps q.rest next.head next.rest × LeavesItems steps next xs

-- no more items are left than before, and fewer where something came of it
abbrev pub ComesNearer : {I X Y : Type 0} → (I → Count) → Lookahead I X → Lookahead I X → Option Y → Type 0
ComesNearer left old new r = MatchOption r (items_left left new ≤ items_left left old) (λ _. items_left left new < items_left left old)
