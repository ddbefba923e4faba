-- A node with another page below it, an element that is put back, and what holds of a result.
use Rattle.std.specs.Prelude.{Result, Ok, Err, OnErr, OnOk, IfOk}
use Rattle.std.proofs.Common.{◌≡◌, ℕ, zero, suc, ◌<◌, List, [], ◌∷◌, length, get_or, slice_set, ap, ◌∙◌, arith}
use Rattle.merkle_tree_theory.specs.Tree.{Held, Node}

module _ {K D : Type 0} where
  -- a node with another page below it
  abbrev pub with_lt : Node K D → Held K D → Node K D
  with_lt e h = record { lt = h; key = e.key; digest = e.digest }

  abbrev pub new_node : K → D → Held K D → Node K D
  new_node k d h = record { lt = h; key = k; digest = d }

  -- what a change of the page below a node makes of the node
  pub lt_changed : (f : Held K D → Held K D) (k : K) (d : D) {e : Node K D} {a b : Held K D} → new_node k d b ≡ e → a ≡ f b → new_node k d a ≡ with_lt e (f e.lt)
  lt_changed f k d is new = ap (new_node k d) new ∙ ap (λ e. with_lt e (f e.lt)) is

-- an element that is put back where it was
pub set_back : {X : Type 0} (xs : List X) (i : ℕ) (x v : X) → i < length xs → x ≡ get_or xs i x → v ≡ x → slice_set xs i v ≡ xs
set_back [] i x v r e f = absurd (omega arith)
set_back (y ∷ ys) zero x v r e f = ap (λ z. z ∷ ys) (f ∙ e)
set_back (y ∷ ys) (suc i) x v r e f = ap (λ zs. y ∷ zs) (set_back ys i x v (omega arith) e f)

-- a node whose page below is put back
pub lt_back : {K D : Type 0} (es : List (Node K D)) (i : ℕ) (k : K) (d : D) {x : Node K D} {a b : Held K D}
    → i < length es → x ≡ get_or es i x → new_node k d b ≡ x → a ≡ b → slice_set es i (new_node k d a) ≡ es
lt_back es i k d within at is back = set_back es i _ _ within at (ap (new_node k d) back ∙ is)

pub on_err_always : {T E : Type 0} (r : Result T E) (P : Type 0) → P → OnErr r P
on_err_always (Ok x) P p = tt
on_err_always (Err e) P p = p

pub on_ok_map : {T E : Type 0} (r : Result T E) (P Q : Type 0) → (P → Q) → OnOk r P → OnOk r Q
on_ok_map (Ok x) P Q f p = f p
on_ok_map (Err e) P Q f p = tt

pub if_ok_map : {T E : Type 0} (r : Result T E) (P Q : T → Type 0) → ((v : T) → P v → Q v) → IfOk r P → IfOk r Q
if_ok_map (Ok x) P Q f p = f x p
if_ok_map (Err e) P Q f p = tt
