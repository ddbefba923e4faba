-- What follows from a call that succeeds.
use Rattle.std.proofs.Common.{subst, sym, ◌≡◌, OnOk, OnErr, IfOk, Result, Ok, Err}

pub on_ok : {A E : Type 0} (r : Result A E) (P Q : Type 0) → (P → Q) → OnOk r P → OnOk r Q
on_ok (Ok x) P Q f h = f h
on_ok (Err e) P Q f h = tt

pub if_ok : {A E : Type 0} (r : Result A E) (P Q : A → Type 0) → ((x : A) → P x → Q x) → IfOk r P → IfOk r Q
if_ok (Ok x) P Q f h = f x h
if_ok (Err e) P Q f h = tt

pub on_err : {A E : Type 0} (r : Result A E) (P : Type 0) → P → OnErr r P
on_err (Ok x) P h = tt
on_err (Err e) P h = h

-- what a call found is so of the settled result
pub settled_ok : {S A E : Type 0} (C : S → Type 0) (mid new : S) (r done : Result A E) (Q P : A → Type 0) (B : Type 0) → r ≡ done → OnOk r (new ≡ mid) → C new
    → (C mid → IfOk done Q) → OnOk done (C mid → B) → ((x : A) → C mid → Q x → B → P x) → IfOk r P
settled_ok C mid new r (Ok x) Q P B is same clean found sound f =
    let early = subst C (subst (λ t. OnOk t (new ≡ mid)) is same) clean in
    subst (λ t. IfOk t P) (sym is) (f x early (found early) (sound early))
settled_ok C mid new r (Err e) Q P B is same clean found sound f = subst (λ t. IfOk t P) (sym is) tt
