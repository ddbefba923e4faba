-- A message after its length, read part by part.
use Rattle.std.proofs.Common.{◌≡◌, ℕ, ◌≤◌, ◌<◌, List, ◌++◌, length, take, drop, get_or, Option, sym, ap, subst, ◌∙◌, w64}
use Rattle.std.specs.Int.{from_le_bytes}
use Rattle.std.specs.Io.KnownBytes.{Consumes}
use Rattle.std.proofs.KnownBytes.{Consumes-trans}
use Rattle.std.proofs.lemmas.List.{append-nil, drop_all}
use Rattle.std.proofs.lemmas.Nat.{le_bytes_8}
use borrow.Rule.Slice.PartMut.{put_mid}
use Rattle.merkle_store.specs.Framing.{frame_of}

-- a list of which the rest was filled
pub rest_filled : (a k : ℕ) (xs ys : List ℕ) → length (drop a xs) ≤ k → put_mid a k xs ys ≡ take a xs ++ ys
rest_filled a k xs ys all = ap (λ l. take a xs ++ (ys ++ l)) (drop_all k (drop a xs) all) ∙ ap (λ l. take a xs ++ l) (append-nil ys)

-- the length, and what it is the length of
pub message_read : (a b c : Option (List ℕ)) (size body : List ℕ) → Consumes a b size → Consumes b c body → length size ≡ 8 → ((i : ℕ) → get_or size i 0 < 256)
    → length body ≡ from_le_bytes w64 size → Consumes a c (frame_of body)
message_read a b c size body p q eight small len =
    subst (λ s. Consumes a c (s ++ body)) (sym (le_bytes_8 size (length body) eight small len)) (Consumes-trans a b c size body p q)
