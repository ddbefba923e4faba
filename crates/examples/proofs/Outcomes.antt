-- What follows from a call that succeeds, and syncs under another premise or with another outcome.
use Rattle.std.proofs.Common.{List, IfOk, OnOk, OnErr, Result, Ok, Err, ◌⊎◌, inl, inr}
use Rattle.std.specs.List.{AllByRecursion}
use Rattle.merkle_replica.specs.Laws.{Laws}
use Rattle.merkle_replica.specs.Contents.{Contents, Side, side}
use Rattle.merkle_replica.specs.Pulls.{Answer, IsByTurns}
use Rattle.examples.specs.Sync.{IsSync}

pub on_ok : {A E : Type 0} (r : Result A E) (P Q : Type 0) → (P → Q) → OnOk r P → OnOk r Q
on_ok (Ok x) P Q f h = f h
on_ok (Err e) P Q f h = tt

pub on_err : {A E : Type 0} (r : Result A E) (P Q : Type 0) → (P → Q) → OnErr r P → OnErr r Q
on_err (Ok x) P Q f h = tt
on_err (Err e) P Q f h = f h

pub where_err : {A E : Type 0} (r : Result A E) (P : Type 0) → P → OnErr r P
where_err (Ok x) P h = tt
where_err (Err e) P h = h

pub either : {P Q R : Type 0} → (P → R) → (Q → R) → P ⊎ Q → R
either f g (inl h) = f h
either f g (inr h) = g h

pub if_ok_both : {A E : Type 0} (r : Result A E) (P : A → Type 0) (Q : Type 0) (R : A → Type 0) → ((x : A) → P x → Q → R x) → IfOk r P → OnOk r Q → IfOk r R
if_ok_both (Ok x) P Q R f h k = f x h k
if_ok_both (Err e) P Q R f h k = tt

module _ {K V H : Type 0} (laws : Laws K V H) where
  -- a premise from which the first one follows does as well, and so does what follows from the outcome
  pub sync_like : (P Q : Side K V H → Side K V H → Type 0) (R S : Type 0) (a b a' b' : Contents K V H)
      → ((answers : List (Answer K)) (met : List (Side K V H × Side K V H)) → IsByTurns laws answers (side a) (side b) a'.rows b'.rows met
      → AllByRecursion (λ m. Q m.0 m.1) met → AllByRecursion (λ m. P m.0 m.1) met)
      → (R → S) → IsSync laws P R a b a' b' → IsSync laws Q S a b a' b'
  sync_like P Q R S a b a' b' f g h = record {
    answers = h.answers;
    met = h.met;
    four = h.four;
    pulls = h.pulls;
    outcome = λ all. g (h.outcome (f h.answers h.met h.pulls all));
  }
