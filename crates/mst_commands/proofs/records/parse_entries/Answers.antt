use Rattle.std.proofs.Common.{◌≡◌, ℕ, Bool, List, [], ◌∷◌, ◌++◌, Option, Some, None, IfSome, MatchBool, true, false, refl, sym, subst, length-append, inl, inr, arith}
use Rattle.csv.specs.Records.{fields_of}
use Rattle.mst_commands.specs.Records.{header, AreAll, HasEntries, HasRead, SayAll, SayEntries}
use Rattle.mst_commands.specs.Malformed.{LacksHeader}
use Rattle.mst_commands.proofs.CsvLemmas.{say_more}
use Rattle.mst_commands.proofs.MalformedLemmas.{begins, ends-with, if-known}
use Rattle.mst_commands.proofs.records.parse_entries.Goals as goal

-- the records of a text that say these entries
has_entries : (is_log : Bool) (text : Option (List ℕ)) (records : List (List (List ℕ))) (entries : List _) → AreAll text records
    → SayAll is_log records entries → IfSome text (λ bytes. HasEntries is_log bytes entries)
has_entries is_log None records entries all say = tt
has_entries is_log (Some bytes) records entries all say = (records, all, say)

-- a text without a record lacks the header
none_at : (is_log : Bool) (text : Option (List ℕ)) → AreAll text [] → IfSome text (LacksHeader is_log)
none_at is_log None all = tt
none_at is_log (Some bytes) all = inl all

found_one : (found : Bool) (P Q : Type 0) → found ≡ true → MatchBool found P Q → P
found_one true P Q e h = h
found_one false P Q e h = absurd (let k = e in cc)

found_none : (found : Bool) (P Q : Type 0) → found ≡ false → MatchBool found P Q → Q
found_none true P Q e h = absurd (let k = e in cc)
found_none false P Q e h = h

pub records-init : goal.records-init
records-init g c =
    let text = g.R.Read.remaining c.args.from in
    let one = found_one c.in_ok-read_next.field-0 _ _ c.if-not-branch.false (c.in_ok-read_next.ensures.read text [] c.reader_of-reader.ensures) in (
      [],
      subst (λ (first : List (List ℕ)). HasRead g.R.Read.remaining text (first ∷ []) c.read_next.new.reader) c.in_ok-expect_header.ensures.same one,
      subst (SayEntries c.args.is_log 1 []) (sym c.new-entries.ensures.items) tt,
      refl,
    )

pub records-preserved : goal.records-preserved
records-preserved g c =
    let (records, had, said, count) = c.records.invariant in
    let fields = fields_of c.read_next-in-records.new.row in
    let is_log = c.args.is_log in
    let one = found_one c.in_ok-read_next-2.field-0 _ _ c.if-not-branch-2.false (c.in_ok-read_next-2.ensures.read (g.R.Read.remaining c.args.from) (header is_log ∷ records) had) in
    let says = say_more is_log 1 c.records.number records c.records.entries.items c.push.new.self.items fields c.in_ok-entry.entry said count c.in_ok-entry.ensures.says c.in_ok-push.ensures.items in
    (records ++ fields ∷ [], one, says, omega (arith, length-append records (fields ∷ [])))

pub returns-then-not-branch-clause-refused : goal.returns-then-not-branch-clause-refused
returns-then-not-branch-clause-refused g c =
    let text = g.R.Read.remaining c.args.from in
    none_at c.args.is_log text (found_none c.in_ok-read_next.field-0 _ _ c.if-not-branch.true (c.in_ok-read_next.ensures.read text [] c.reader_of-reader.ensures))

pub returns-then-not-branch-2-clause-read : goal.returns-then-not-branch-2-clause-read
returns-then-not-branch-2-clause-read g c =
    let (records, had, said, count) = c.records.invariant in
    let all = header c.args.is_log ∷ records in
    let text = g.R.Read.remaining c.args.from in
    has_entries c.args.is_log text all _ (found_none c.in_ok-read_next-2.field-0 _ _ c.if-not-branch-2.true (c.in_ok-read_next-2.ensures.read text all had)) (refl, said)

pub returns-in_err-read_next-clause-refused : goal.returns-in_err-read_next-clause-refused
returns-in_err-read_next-clause-refused g c =
    ends-with c.from_residual.result c.in_err-read_next.field-0.0 c.from_residual.ensures.1 (λ no. absurd no) (λ no. absurd no) c.in_err-read_next.ensures.faults

pub returns-in_err-expect_header-clause-refused : goal.returns-in_err-expect_header-clause-refused
returns-in_err-expect_header-clause-refused g c =
    let text = g.R.Read.remaining c.args.from in
    let one = found_one c.in_ok-read_next.field-0 _ _ c.if-not-branch.false (c.in_ok-read_next.ensures.read text [] c.reader_of-reader.ensures) in
    let first = fields_of c.read_next.new.row in
    ends-with c.from_residual-in_err-expect_header.result c.in_err-expect_header.field-0.0 c.from_residual-in_err-expect_header.ensures.1
    (λ other. if-known text (λ bytes begun. inr (first, begun, other)) (begins g.R.Read.remaining text (first ∷ []) c.read_next.new.reader one))
    (λ no. absurd no) c.in_err-expect_header.ensures.other

pub returns-in_err-read_next-2-clause-refused : goal.returns-in_err-read_next-2-clause-refused
returns-in_err-read_next-2-clause-refused g c =
    ends-with c.from_residual-in_err-read_next-2.result c.in_err-read_next-2.field-0.0 c.from_residual-in_err-read_next-2.ensures.1
    (λ no. absurd no) (λ no. absurd no) c.in_err-read_next-2.ensures.faults

pub returns-in_err-entry-clause-refused : goal.returns-in_err-entry-clause-refused
returns-in_err-entry-clause-refused g c =
    let (records, had, said, count) = c.records.invariant in
    let text = g.R.Read.remaining c.args.from in
    let fields = fields_of c.read_next-in-records.new.row in
    let all = header c.args.is_log ∷ records in
    let one = found_one c.in_ok-read_next-2.field-0 _ _ c.if-not-branch-2.false (c.in_ok-read_next-2.ensures.read text all had) in
    ends-with c.from_residual-in_err-entry.result c.in_err-entry.field-0.0 c.from_residual-in_err-entry.ensures.1 (λ no. absurd no)
    (λ none. if-known text (λ bytes begun. (records, (fields, begun, none))) (begins g.R.Read.remaining text (all ++ fields ∷ []) c.read_next-in-records.new.reader one)) c.in_err-entry.ensures.none
