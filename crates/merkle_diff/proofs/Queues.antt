-- What a queue leaves.
use Rattle.std.proofs.Common.{◌≡◌, List, [], ◌∷◌, Option, Some, None, IfSome, subst, sym, refl}
use Rattle.std.specs.Iterator.{Drains}
use Rattle.merkle_diff.specs.declared.lookahead.Lookahead.{Lookahead}
use Rattle.merkle_diff.specs.Lookahead.{LeavesItems}

pub some_at : {X : Type 0} (P : X → Type 0) (o : Option X) (x : X) → Some x ≡ o → IfSome o P → P x
some_at P o x e h = subst (λ o. IfSome o P) (sym e) h

-- an item that was at the head stands before what is left
pub Leaves-cons : {I X : Type 0} (steps : I → Option X → I → Type 0) (q next : Lookahead I X) (x : X) (xs : List X) → Some x ≡ q.head
    → IfSome q.head (λ _. steps q.rest next.head next.rest) → LeavesItems steps next xs → LeavesItems steps q (x ∷ xs)
Leaves-cons steps q next x xs e h l = (sym e, next, some_at (λ _. steps q.rest next.head next.rest) q.head x e h, l)

-- what a queue leaves, made of an iterator by one call, is all that this gives
pub Drains-from : {I X : Type 0} (steps : I → Option X → I → Type 0) (xs : List X) (it : I) (q : Lookahead I X) → steps it q.head q.rest → LeavesItems steps q xs → Drains steps it xs
Drains-from steps [] it q h l = (q.rest, (it, refl, subst (λ o. steps it o q.rest) l h))
Drains-from steps (x ∷ xs) it q h l =
    let d = Drains-from steps xs q.rest l.1 l.2 l.3 in
    (d.0, (d.1.0, (q.rest, subst (λ o. steps it o q.rest) l.0 h, d.1.1), d.1.2))

abbrev pub front_of : {X : Type 0} → List X → Option X
front_of [] = None
front_of (x ∷ xs) = Some x

-- the head is the first of what is left
pub front-is : {I X : Type 0} (steps : I → Option X → I → Type 0) (q : Lookahead I X) (xs : List X) → LeavesItems steps q xs → q.head ≡ front_of xs
front-is steps q [] l = l
front-is steps q (x ∷ xs) l = l.0
