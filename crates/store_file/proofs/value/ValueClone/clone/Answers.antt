use Rattle.std.proofs.Common.{◌≡◌, rules}
use Rattle.std.specs.Cmp.Lexicographic.{bytes_decides}
use Rattle.std.proofs.lemmas.List.Elements.{same_from_all_zip}
use Rattle.store_file.proofs.value.ValueClone.clone.Goals as goal

pub returns-in_ok-clone-in-Bytes : goal.returns-in_ok-clone-in-Bytes
returns-in_ok-clone-in-Bytes c =
    let copy = c.in_ok-clone-in-Bytes.field-0.items in
    let bytes = c.in-Bytes.bytes.items in
    let same : copy ≡ bytes = search (rules, same_from_all_zip) in
    record { cases = rw c.in-Bytes.is ((bytes_decides copy bytes).1 same) }
