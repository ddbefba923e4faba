-- What the first bytes of a line show.
use Rattle.std.proofs.Common.{◌≡◌, ◌≤◌, ℕ, List, ◌∷◌, ◌++◌, take, length, length-append, arith, subst, sym, inl, inr, codes, refl}
use Rattle.std.proofs.lemmas.Bool.{cases_lt}
use Rattle.std.proofs.Math.ListN.{length-take}
use Rattle.mst_pair.specs.Replicas.{Replicas}
use Rattle.mst_pair.specs.Engine.{RepliesTo}
use Rattle.mst_pair.specs.Requests.{Request, put, del, keys, root, pages, diff, pull, same, turns, set_format, IsSpelled, name_text, space}
use Rattle.mst_pair.specs.declared.engine.ReplicaName.{ReplicaName}
use Rattle.merkle_tree_theory.specs.declared.page_format.PageFormat.TheVariants.{V1, V2}
use Rattle.mst_pair.proofs.Kept.{take_short}
use Rattle.mst_pair.specs.declared.engine.ReplicaName.TheVariants.{A, B}

name_is_short : (name : ReplicaName) → length (name_text name) ≡ 1
name_is_short A = refl
name_is_short B = refl

-- a word and the name of a replica
named_is_short : (word : List ℕ) (name : ReplicaName) (line : List ℕ) → length word ≤ 5 → line ≡ word ++ space ∷ name_text name → length line ≤ 282
named_is_short word name line short e =
    let whole : length (word ++ space ∷ name_text name) ≤ 282 = omega (arith, length-append word (space ∷ name_text name), name_is_short name, short) in
    subst (λ l. length l ≤ 282) (sym e) whole

-- no request has more than 282 bytes
pub spelled_is_short : (q : Request) (line : List ℕ) → IsSpelled q line → length line ≤ 282
spelled_is_short (put name key n) line (digits, k, number, e) =
    let tail : length (key ++ space ∷ digits) ≤ 276 = omega (arith, length-append key (space ∷ digits), k.short, number.short) in
    let whole : length (codes "put" ++ space ∷ (name_text name ++ space ∷ (key ++ space ∷ digits))) ≤ 282 =
    omega (arith, length-append (name_text name) (space ∷ (key ++ space ∷ digits)), name_is_short name) in
    subst (λ l. length l ≤ 282) (sym e) whole
spelled_is_short (del name key) line (k, e) =
    let whole : length (codes "del" ++ space ∷ (name_text name ++ space ∷ key)) ≤ 282 = omega (arith, length-append (name_text name) (space ∷ key), name_is_short name, k.short) in
    subst (λ l. length l ≤ 282) (sym e) whole
spelled_is_short (keys name) line e = named_is_short (codes "keys") name line (omega arith) e
spelled_is_short (root name) line e = named_is_short (codes "root") name line (omega arith) e
spelled_is_short (pages name) line e = named_is_short (codes "pages") name line (omega arith) e
spelled_is_short (diff name) line e = named_is_short (codes "diff") name line (omega arith) e
spelled_is_short (pull name) line e = named_is_short (codes "pull") name line (omega arith) e
spelled_is_short same line e = subst (λ l. length l ≤ 282) (sym e) (omega arith)
spelled_is_short (turns d) line (small, e) = subst (λ l. length l ≤ 282) (sym e) (omega arith)
spelled_is_short (set_format V1) line e = subst (λ l. length l ≤ 282) (sym e) (omega arith)
spelled_is_short (set_format V2) line e = subst (λ l. length l ≤ 282) (sym e) (omega arith)

-- a line gets the replies that its first 283 bytes get
pub step_of_kept : (old : Replicas) (line reply : List ℕ) (new : Replicas) → RepliesTo old (take 283 line) reply new → RepliesTo old line reply new
step_of_kept old line reply new step = elim (cases_lt (length line) 283) [
  | inl short ↦ let e = take_short line 283 short in subst (λ l. RepliesTo old l reply new) e step
  | inr long ↦ elim step [
    | inl (q, spelled, answers) ↦ absurd (omega (arith, spelled_is_short q (take 283 line) spelled, length-take 283 line))
    | inr (bad, text, stays) ↦ inr (λ q spelled. omega (arith, spelled_is_short q line spelled), text, stays)
  ]
]
