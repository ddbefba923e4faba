-- What two files recover to can be taken where there merely is something, since they recover to one thing.
use Rattle.std.proofs.Common.{◌≡◌, ◌⊎◌, ◌+◌, ℕ, List, length, refl, ap, ap₂, inl, inr}
use Rattle.std.proofs.Math.Logic.{∥∥₁_map}
use Rattle.std.proofs.Props.{props}
use Rattle.std.proofs.lemmas.Bool.{cases_eq}
use Rattle.std.specs.Prelude.{slice_index, ◌/◌}
use mathlib.Core.HLevel.{Π_set}
use Rattle.sqlite_wal.specs.Format.{IsSigned, checksum, is_big, part, stored_sum}
use Rattle.sqlite_wal.specs.Recovery as raw
use Rattle.sqlite_wal.specs.Recovery.{Image, Pages, IsIgnored, IsCommitted, IsLast, Replays, AreWhole, header, pages_after}
use Rattle.sqlite_wal.proofs.RecoveryLemmas as below
use Rattle.sqlite_pool.specs.Stored.{AreSealed, Recovers, stored_size, trimmed}
use Rattle.sqlite_pool.specs.StoredLaws.{recovers_once}
use Rattle.sqlite_pages.specs.PageMap.{PageMap}
use Rattle.sqlite_store.specs.declared.catalog.Wanted.{Wanted}
use Rattle.sqlite_store.specs.Db.{IsFile}
use Rattle.store_file.proofs.Taken.{Taken, of_prop, of_both, only_one, both_cases, either_cases, lt_cases}
use Rattle.store_file.proofs.TakenFile.{is_file}

-- two pairs of numbers are equal or not
pair_cases : (a b : ℕ × ℕ) → (a ≡ b) ⊎ ¬ (a ≡ b)
pair_cases a b =
    elim (both_cases (cases_eq a.0 b.0) (cases_eq a.1 b.1)) [
      | inl same ↦ inl (ap₂ (λ (x y : ℕ). let z : ℕ × ℕ = (x, y) in z) same.0 same.1)
      | inr never ↦ inr (λ e. never (ap (λ (p : ℕ × ℕ). p.0) e, ap (λ (p : ℕ × ℕ). p.1) e))
    ]

-- the header of a log is one or not
signed_or_not : (head : List ℕ) → IsSigned head ⊎ ¬ IsSigned head
signed_or_not head =
    elim (both_cases (cases_eq (slice_index head 0) 0x37) (both_cases (cases_eq (slice_index head 1) 0x7f) (both_cases (cases_eq (slice_index head 2) 0x06)
    (both_cases (cases_eq (slice_index head 3 / 2) (0x82 / 2)) (pair_cases (checksum (is_big head) (0, 0) (part head 0 24)) (stored_sum head 24)))))) [
      | inl s ↦ inl (record { first = s.0; second = s.1.0; third = s.1.1.0; fourth = s.1.1.1.0; sum = s.1.1.1.1 })
      | inr never ↦ inr (λ s. never (s.first, (s.second, (s.third, (s.fourth, s.sum)))))
    ]

not_cases : {A : Type 0} → A ⊎ ¬ A → ¬ A ⊎ ¬ ¬ A
not_cases (inl a) = inr (λ never. never a)
not_cases (inr never) = inl never

-- a file is no log, or is one
ignored_or_not : (log : List ℕ) → IsIgnored log ⊎ ¬ IsIgnored log
ignored_or_not log = either_cases (lt_cases (length log) (32 + 24)) (not_cases (signed_or_not (header log)))

-- so many frames are taken of a log
replays : (size : ℕ) (log : List ℕ) (k : ℕ) → Taken (Replays size log k)
replays size log k h =
    elim (ignored_or_not log) [
      | inl ignored ↦ inl (ignored, of_prop (hlevel props) (∥∥₁_map h (λ r. below.replays_once size log k 0 r (inl (ignored, refl)))))
      | inr read ↦ inr (of_both (of_prop (hlevel props)) (of_prop (hlevel props)) (∥∥₁_map h (λ r. elim r [ inl x ↦ absurd (read x.0) | inr y ↦ y ])))
    ]

-- the frames that two files recover to pages by
record Frames (size : ℕ) (image : Image) (pages : Pages) (k : ℕ) : Type 0 where
  replays : Replays size image.log k
  gives : pages_after size image.log image.db k ≡ pages

-- two files recover to pages as they are stored
stands : (size : ℕ) (image : Image) (pages : Pages) → Taken (raw.Recovers size image pages)
stands size image pages h =
    let found = only_one {P = Frames size image pages} (hlevel props) (λ a b p q. below.replays_once size image.log a b p.replays q.replays)
    (∥∥₁_map h (λ r. (r.frames, record { replays = r.replays; gives = r.gives }))) in
    record {
      frames = found.0;
      replays = replays size image.log found.0 (∥∥₁_map found.1 (λ f. f.replays));
      present = of_prop (hlevel props) (∥∥₁_map h (λ r. r.present));
      gives = of_prop (hlevel props) (∥∥₁_map found.1 (λ f. f.gives));
    }

-- the pages that are stored, of which others are used
record Stores (size : ℕ) (image : Image) (pages stored : Pages) : Type 0 where
  found : raw.Recovers (stored_size size) image stored
  whole : AreWhole (stored_size size) stored
  sealed : AreSealed size stored
  shows : trimmed size stored ≡ pages

-- two files recover to pages as they are used
recovers : (size : ℕ) (image : Image) (pages : Pages) → Taken (Recovers size image pages)
recovers size image pages h =
    let one = only_one {P = Stores size image pages} (Π_set (λ _. hlevel props)) (λ a b p q. below.recovers_once (stored_size size) image a b p.found q.found)
    (∥∥₁_map h (λ r. (r.stored, record { found = r.found; whole = r.whole; sealed = r.sealed; shows = r.shows }))) in
    record {
      stored = one.0;
      found = stands (stored_size size) image one.0 (∥∥₁_map one.1 (λ s. s.found));
      whole = of_prop (hlevel props) (∥∥₁_map one.1 (λ s. s.whole));
      sealed = of_prop (hlevel props) (∥∥₁_map one.1 (λ s. s.sealed));
      shows = of_prop (hlevel props) (∥∥₁_map one.1 (λ s. s.shows));
      present = of_prop (hlevel props) (∥∥₁_map h (λ r. r.present));
    }

-- two files recover to a sound database of a schema
pub recovers_to_file : (size : ℕ) (image : Image) (schema : List Wanted) → ∥ ((pages : PageMap) × Recovers size image pages × IsFile size schema pages) ∥₁
    → (pages : PageMap) × Recovers size image pages × IsFile size schema pages
recovers_to_file size image schema h =
    let one = only_one {P = λ pages. Recovers size image pages × IsFile size schema pages} (Π_set (λ _. hlevel props)) (λ a b p q. recovers_once size image a b p.0 q.0)
    (∥∥₁_map h (λ x. let pair : (pages : PageMap) × (Recovers size image pages × IsFile size schema pages) = (x.0, (x.1, x.2)) in pair)) in
    (one.0, recovers size image one.0 (∥∥₁_map one.1 (λ p. p.0)), is_file size schema one.0 (∥∥₁_map one.1 (λ p. p.1)))
