use Rattle.std.proofs.Common.{◌≡◌, ◌<◌, ℕ, zero, suc, List, length, take, nat_eq, max, ◌⊎◌, inl, inr, refl, arith}
use Rattle.std.specs.List.{AllByRecursion}
use Rattle.key_order.specs.Join.{IsJoin}
use Rattle.key_order.specs.Text.{Text, text_order}
use Rattle.merkle_bytes.specs.Encodings.{list_bytes}
use Rattle.merkle_replica.specs.Contents.{Side, side}
use Rattle.examples.specs.PullMessages.{JoinsFirstRows}
use Rattle.examples.specs.Wire.{HasWideNumber, name_row_bytes}
use Rattle.examples.proofs.wire.join.Goals as goal

first_rows : (local : Side Text ℕ (List ℕ)) (bytes : List ℕ) (rows after : List (Text × ℕ)) (done : ℕ) → AllByRecursion HasWideNumber rows → bytes ≡ list_bytes name_row_bytes rows → done < length rows
    → IsJoin text_order nat_eq max local.rows (take done rows) after → (done ≡ 0 → after ≡ local.rows) → (after ≡ local.rows) ⊎ JoinsFirstRows local bytes after
first_rows local bytes rows after zero each read not_all joins none = inl (none refl)
first_rows local bytes rows after (suc n) each read not_all joins none = inr (rows, suc n, each, read, omega arith, not_all, joins)

pub returns-clause-refused : goal.returns-clause-refused
returns-clause-refused c =
    let h = rw c.in-Err-Memory.field-0-is at c.in-Err-Memory.ensures.refused in
    first_rows (side c.args.store.now) c.args.rows.now c.in_ok-came.came.items c.join_rows.new.self.rows _ c.in_ok-came.ensures.each c.in_ok-came.ensures.read h.1 h.2 h.3
