use Rattle.std.proofs.Common.{rules, arith, ◌≡◌, ℕ, ◌+◌, ◌-◌, ◌<◌, ◌^◌, true, not, ◌&&◌, List, ◌++◌, length, drop, nat_eq, sym, ap, subst, ◌∙◌}
use Rattle.std.specs.Bool.{if◌then◌else◌}
use Rattle.std.proofs.lemmas.List.{drop_at, length-append, take-append-drop}
use Rattle.c_trees.specs.Spots.{EntryParts, IsList, IsParts, two_part_entry}
use Rattle.c_trees.proofs.Spots.{body_at, body_behind, first_parts, one_front, one_kind, parts_flat, two_length}
use Rattle.c_trees.proofs.entries.next.Goals.{else-at-eq0-via-then-at-eq0+else-not-is_list, else-at-eq0-via-else-at-eq0}
use Rattle.c_trees.proofs.entries.next.Goals as goal

pub returns-then-not-is_list-clause-malformed : goal.returns-then-not-is_list-clause-malformed
returns-then-not-is_list-clause-malformed c done =
    let rows = c.args.rows in let list = c.args.list.now in
    let zero : c.args.at.now ≡ 0 = search rules in
    let short : length list < 2 ^ 64 = search rules in
    let whole : ¬ (IsList rows list) = λ are.
    let entries = one_front rows list c.in-Some.digests c.in-Some.count c.in-Some.body.now c.in-Some.ensures.front (search rules) short are in
    let yes : c.is_list.result ≡ true = c.is_list.ensures.1 entries in
    absurd (search rules) in
    ((λ found. let e = found.2 in whole (e.digests, e.count, e.body, e.marked, e.whole zero)), λ _. whole)

pub returns-in_default-entry_of-clause-malformed : goal.returns-in_default-entry_of-clause-malformed
returns-in_default-entry_of-clause-malformed c done =
    let list = c.args.list.now in let body = c.in-Some.body.now in let rows = c.args.rows in let digests = c.in-Some.digests in
    let at = c.args.at.now in let cut = c.in-Some-split_at_checked.ensures.cases in let front = c.in-Some.ensures.front in (
      λ found.
          let e = found.2 in
          let kind = one_kind rows list digests c.in-Some.count body front e.digests e.count e.body e.marked in
          let size = body_at rows list digests c.in-Some.count body front in
          let start : c.start_of-start.result ≡ length e.before = c.start_of-start.ensures ∙ ap (λ n. if nat_eq at 0 then n else at) size ∙ sym e.starts in
          let rest = cut.2 ∙ ap (drop c.start_of-start.result) e.parts
          ∙ drop_at e.before (two_part_entry (rows && e.digests) e.entry ++ e.behind) c.start_of-start.result (sym start) in
          c.entry_of.ensures.none c.in_default-entry_of.is e.entry e.behind (subst (λ d. IsParts (rows && d) (not rows && d) e.entry) (sym kind) e.sized)
          (rest ∙ ap (λ d. two_part_entry (rows && d) e.entry ++ e.behind) (sym kind)),
      λ zero are.
          let short : length list < 2 ^ 64 = search rules in
          let entries = one_front rows list digests c.in-Some.count body front (search rules) short are in
          let start = c.start_of-start.ensures ∙ ap (λ n. if nat_eq n 0 then (length list - length body) else n) zero in
          let rest : c.in-Some-split_at_checked.rest.now ≡ body = cut.2 ∙ ap (λ n. drop n list) start ∙ body_behind rows list digests c.in-Some.count body front in
          let some : ¬ (length body ≡ 0) = λ none.
          let empty : length c.in-Some-split_at_checked.rest.now ≡ 0 = ap length rest ∙ none in
          absurd (search rules) in
          let first = first_parts (rows && digests) (not rows && digests) c.in-Some.count body entries some in
          c.entry_of.ensures.none c.in_default-entry_of.is first.0 first.1 first.2 (rest ∙ first.3),
    )

pub spot_of-requires : goal.spot_of-requires
spot_of-requires c =
    let keys : List ℕ × List ℕ = (c.in-Some-entry_of.first.now, c.in-Some-entry_of.last.now) in
    let behind = c.in-Some-entry_of.behind.now in let plain = c.args.rows && c.in-Some.digests in
    let read = c.in-Some-entry_of.ensures.entry in
    let short : length c.args.list.now < 2 ^ 64 = search rules in
    omega (arith, c.in-Some-split_at_checked.ensures.cases, ap length (read.2 ∙ parts_flat plain (keys, read.0) behind), two_length plain keys (read.0 ++ behind))

pub returns-clause-entry : goal.returns-clause-entry
returns-clause-entry c done =
    let list = c.args.list.now in let behind = c.in-Some-entry_of.behind.now in let plain = c.args.rows && c.in-Some.digests in
    let read = c.in-Some-entry_of.ensures.entry in
    let entry : EntryParts = ((c.in-Some-entry_of.first.now, c.in-Some-entry_of.last.now), read.0) in
    let cut = c.in-Some-split_at_checked.ensures.cases in
    let start = c.start_of-start.result in
    let front = body_at c.args.rows list c.in-Some.digests c.in-Some.count c.in-Some.body.now c.in-Some.ensures.front in
    record {
      digests = c.in-Some.digests;
      count = c.in-Some.count;
      body = c.in-Some.body.now;
      marked = c.in-Some.ensures.front;
      whole = λ zero. elim c.else-at-eq0.branch [
        | else-at-eq0-via-then-at-eq0+else-not-is_list w ↦ w.is_list.ensures.0 w.if-not-is_list.false
        | else-at-eq0-via-else-at-eq0 w ↦ absurd (search rules)
      ];
      before = c.in-Some-split_at_checked.field-0-0.now;
      entry = entry;
      behind = behind;
      parts = sym (take-append-drop start list) ∙ (λ i. sym cut.1 i ++ (sym cut.2 ∙ read.2) i);
      sized = read.1;
      starts = cut.3 ∙ c.start_of-start.ensures ∙ ap (λ n. if nat_eq c.args.at.now 0 then n else c.args.at.now) front;
      first = (c.spot_of.ensures.first.0 ∙ ap (λ n. n + 8) (sym cut.3), c.spot_of.ensures.first.1);
      last = c.spot_of.ensures.last;
      digest = c.spot_of.ensures.hash;
      ends = omega (arith, c.saturating_sub.ensures, cut.4, ap length (read.2 ∙ parts_flat plain entry behind), two_length plain entry.0 (read.0 ++ behind), length-append read.0 behind);
    }
