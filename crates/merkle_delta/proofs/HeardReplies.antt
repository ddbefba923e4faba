-- What a reply tells over chunks, and that it is what was told.
use Rattle.std.proofs.Common.{◌≡◌, ◌≢◌, ℕ, List, ◌++◌, Some, None, ◌⊎◌, inl, inr, map, sym, ap, subst, ◌∙◌}
use Rattle.std.specs.Global.{Vec}
use Rattle.std.specs.List.{flat_map}
use Rattle.key_order.proofs.ListParts.{join_tells}
use Rattle.merkle_bytes.specs.Counts.{count_bytes}
use Rattle.merkle_bytes.specs.Encodings.{list_bytes}
use Rattle.merkle_delta.specs.Chunks.{checksum, digest_of}
use Rattle.merkle_delta.specs.Deltas.{IsDelta, IsDeltaOver, step_bytes}
use Rattle.merkle_delta.specs.Hearing.{IsHeard, ToldIsHeard}
use Rattle.merkle_delta.specs.Messages.{IsReplyOver}
use Rattle.merkle_delta.specs.declared.hearing.Heard.TheVariants.{Reply}
use Rattle.merkle_delta.proofs.Asking.{asking_told, told_alone}
use Rattle.merkle_delta.proofs.Following.{delta_alone, digest_length}

-- a delta tells the digest of its bytes
digest_told : (checksums whole delta : List ℕ) (own : List (List ℕ)) (other : List ℕ) → IsDelta checksums whole delta → IsDeltaOver own delta other → digest_of other ≡ digest_of whole
digest_told checksums whole delta own other (steps, is, gives) (others, over, gave, was) =
    (join_tells (digest_of other) (digest_of whole) (flat_map step_bytes others) (flat_map step_bytes steps) (digest_length other ∙ sym (digest_length whole)) (sym was ∙ is)).0

-- over the same chunks a reply tells one byte string
reply_alone : (own : List (List ℕ)) (reply a b : List ℕ) → IsReplyOver own reply a → IsReplyOver own reply b → a ≡ b
reply_alone own reply a b (delta, is, over) (other, was, is_over) =
    delta_alone own delta a b over (subst (λ d. IsDeltaOver own d b) (told_alone other delta (sym was ∙ is)) is_over)

-- no other bytes with the digest of the whole are told
abbrev TellsNoOther : List (List ℕ) → List ℕ → List ℕ → Type 0
TellsNoOther own reply whole = (other : List ℕ) → IsReplyOver own reply other → digest_of other ≡ digest_of whole → other ≡ whole

-- so it is where the whole is told, or bytes with another digest
pub tells_safely : (own : List (List ℕ)) (reply whole plain : List ℕ) → IsReplyOver own reply plain → (plain ≡ whole) ⊎ (digest_of plain ≢ digest_of whole) → TellsNoOther own reply whole
tells_safely own reply whole plain tells (inl same) other over e = reply_alone own reply other plain over tells ∙ same
tells_safely own reply whole plain tells (inr differs) other over e = absurd (differs (ap digest_of (sym (reply_alone own reply other plain over tells)) ∙ e))

-- and where nothing is told
pub tells_none : (own : List (List ℕ)) (reply whole : List ℕ) → ((plain : List ℕ) → ¬ IsReplyOver own reply plain) → TellsNoOther own reply whole
tells_none own reply whole none other over e = absurd (none other over)

pub told_is_heard : ToldIsHeard
told_is_heard None question message other plain reply None is_plain sent asked tells safe = (sym asked.0 ∙ sent, λ heard hears. hears ∙ tells)
told_is_heard None question message other plain reply (Some checksums) is_plain sent asked tells safe =
    absurd (is_plain (list_bytes count_bytes checksums.items ++ other) (sym sent ∙ asked))
told_is_heard (Some told) question message other plain reply None is_plain sent asked tells safe =
    absurd (asked.1 (list_bytes count_bytes (map checksum told.own) ++ question) sent.1)
told_is_heard (Some told) question message other plain reply (Some checksums) is_plain sent asked (delta, tells, made) safe =
    let both = asking_told checksums.items (map checksum told.own) other question (sym asked ∙ sent.1) in
    (both.1, λ heard hears. safe heard.items hears (heard_digest heard hears))
  where
    heard_digest : (heard : Vec ℕ) → IsHeard (Some told) reply (Reply heard) → digest_of heard.items ≡ digest_of plain
    heard_digest heard (delta', is, over) =
        digest_told checksums.items plain delta told.own heard.items made (subst (λ d. IsDeltaOver told.own d heard.items) (told_alone delta' delta (sym is ∙ tells)) over)
