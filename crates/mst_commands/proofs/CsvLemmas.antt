-- Records of CSV that are read and written one after the other.
use Rattle.std.proofs.Common.{◌≡◌, ℕ, ◌+◌, Bool, true, false, List, [], ◌∷◌, ◌++◌, length, Option, Some, None, option_map, inl, inr, refl, ap, sym, subst, ◌∙◌, add-zero, append-nil, arith}
use Rattle.std.specs.Io.KnownBytes.{Appends, Keeps, append_known}
use Rattle.std.proofs.KnownBytes.{Appends-trans, Appends-kept, Appends-nil}
use Rattle.key_order.specs.Text.{Text as Key}
use Rattle.csv.specs.Records.{field_at}
use Rattle.csv.specs.Reading.{AreRecords, Reached, ReadRecord, Ready, default_config, names_headers, reader_config, reader_headers, reader_state, reader_trim, source_of, strip_bom, took_first}
use Rattle.csv.specs.Writing.{text_written, writer_under, writer_pending}
use Rattle.csv.specs.declared.parser.State.TheVariants as st
use Rattle.csv.specs.declared.reader.Reader.{Reader}
use Rattle.csv.specs.declared.reader.Trim.TheVariants as trim
use Rattle.csv.specs.declared.writer.Writer.{Writer}
use Rattle.csv.proofs.ReadFacts.{rows-end, rows-more}
use Rattle.store_file.specs.declared.register.Register.{Register}
use Rattle.mst_commands.specs.Records.{field_or_empty, SaysEntry, SayEntries, HasRead, AreAll, ReadsOne, HasWritten, WritesRecords}

-- the fields of a record of two
pub two_fields : (fields : List (List ℕ)) (x y : List ℕ) → length fields ≡ 2 → field_or_empty fields 0 ≡ x → field_or_empty fields 1 ≡ y → fields ≡ x ∷ y ∷ []
unfolding field_at
two_fields (a ∷ b ∷ []) x y n p q = λ i. p i ∷ q i ∷ []
two_fields [] x y n p q = absurd (omega (arith, n))
two_fields (a ∷ []) x y n p q = absurd (omega (arith, n))
two_fields (a ∷ b ∷ c ∷ more) x y n p q = absurd (omega (arith, n))

-- the fields of a record of five
pub five_fields : (fields : List (List ℕ)) (v w x y z : List ℕ) → length fields ≡ 5 → field_or_empty fields 0 ≡ v → field_or_empty fields 1 ≡ w → field_or_empty fields 2 ≡ x
    → field_or_empty fields 3 ≡ y → field_or_empty fields 4 ≡ z → fields ≡ v ∷ w ∷ x ∷ y ∷ z ∷ []
unfolding field_at
five_fields (a ∷ b ∷ c ∷ d ∷ e ∷ []) v w x y z n o p q r s = λ i. o i ∷ p i ∷ q i ∷ r i ∷ s i ∷ []
five_fields [] v w x y z n o p q r s = absurd (omega (arith, n))
five_fields (a ∷ []) v w x y z n o p q r s = absurd (omega (arith, n))
five_fields (a ∷ b ∷ []) v w x y z n o p q r s = absurd (omega (arith, n))
five_fields (a ∷ b ∷ c ∷ []) v w x y z n o p q r s = absurd (omega (arith, n))
five_fields (a ∷ b ∷ c ∷ d ∷ []) v w x y z n o p q r s = absurd (omega (arith, n))
five_fields (a ∷ b ∷ c ∷ d ∷ e ∷ f ∷ more) v w x y z n o p q r s = absurd (omega (arith, n))

module _ {R : Type 0} (remaining : R → Option (List ℕ)) where
  -- a reader that was made has read no record
  pub begun : (text : Option (List ℕ)) (reader : Reader R) → reader_trim reader ≡ trim.None → names_headers reader ≡ false → reader_headers reader ≡ None → reader_config reader ≡ default_config
      → source_of remaining reader ≡ option_map strip_bom text → reader_state reader ≡ st.StartRecord → HasRead remaining text [] reader
  unfolding Reached
  begun text reader plain unnamed none config source start = record {
    trim = plain;
    ready = inr (inr (unnamed, none));
    config = config;
    reached = λ bytes is. (strip_bom bytes, source ∙ ap (option_map strip_bom) is, (sym start, refl));
  }

  all_of : (text : Option (List ℕ)) (records : List (List (List ℕ))) → ((bytes : List ℕ) → text ≡ Some bytes → AreRecords default_config st.StartRecord (strip_bom bytes) records) → AreAll text records
  all_of None records known = tt
  all_of (Some bytes) records known = known bytes refl

  -- a read goes on from what was read before
  pub reads_one : (old new : Reader R) (found : Bool) (fields : List (List ℕ)) → (reader_trim old ≡ trim.None → Ready old → ReadRecord remaining old new found fields)
      → (reader_trim old ≡ trim.None → took_first new ≡ true) → ReadsOne remaining old new found fields
  reads_one old new true fields reads took text records had =
      let r = reads had.trim had.ready in
      record {
        trim = r.3 ∙ had.trim;
        ready = inl (took had.trim);
        config = r.2 ∙ had.config;
        reached = λ bytes is.
            let was = had.reached bytes is in
            rows-more remaining old new fields default_config st.StartRecord (strip_bom bytes) was.0 records had.config was.1 was.2 r;
      }
  reads_one old new false fields reads took text records had =
      let r = reads had.trim had.ready in
      all_of text records (λ bytes is.
      let was = had.reached bytes is in
      (reader_state old, was.0, was.2, rows-end remaining old new fields default_config was.0 had.config was.1 r))

-- one record more says one entry more
say_more_as : (is_log : Bool) (number : ℕ) (records : List (List (List ℕ))) (entries : List (Key × Register)) (fields : List (List ℕ)) (entry : Key × Register)
    → SayEntries is_log number records entries → SaysEntry is_log (number + length records) fields entry → SayEntries is_log number (records ++ fields ∷ []) (entries ++ entry ∷ [])
say_more_as is_log number [] [] fields entry said more = (subst (λ n. SaysEntry is_log n fields entry) (add-zero number) more, tt)
say_more_as is_log number [] (e ∷ es) fields entry said more = absurd said
say_more_as is_log number (r ∷ rs) [] fields entry said more = absurd said
say_more_as is_log number (r ∷ rs) (e ∷ es) fields entry said more =
    let next : number + length (r ∷ rs) ≡ (number + 1) + length rs = omega arith in
    (said.0, say_more_as is_log (number + 1) rs es fields entry said.1 (subst (λ n. SaysEntry is_log n fields entry) next more))

pub say_more : (is_log : Bool) (number at : ℕ) (records : List (List (List ℕ))) (entries after : List (Key × Register)) (fields : List (List ℕ)) (entry : Key × Register)
    → SayEntries is_log number records entries → at ≡ number + length records → SaysEntry is_log at fields entry → after ≡ entries ++ entry ∷ []
    → SayEntries is_log number (records ++ fields ∷ []) after
say_more is_log number at records entries after fields entry said is says same =
    subst (SayEntries is_log number (records ++ fields ∷ [])) (sym same)
    (say_more_as is_log number records entries fields entry said (subst (λ n. SaysEntry is_log n fields entry) is says))

module _ {W : Type 0} (contents : W → Option (List ℕ)) where
  -- records after records
  pub writes_then : (a b c : Writer W) (one two : List ℕ) → WritesRecords contents a b one → WritesRecords contents b c two → WritesRecords contents a c (one ++ two)
  writes_then a b c one two first second before =
      let p = first before in
      let q = second p.0 in
      (q.0, Appends-trans _ _ _ one two p.1 q.1)

  pub writes_none : (a : Writer W) → WritesRecords contents a a []
  writes_none a before = (before, Appends-nil (text_written contents a))

  of_empty : (a b : Option (List ℕ)) (text : List ℕ) → Appends (append_known a []) b text → Appends a b text
  of_empty None b text h = tt
  of_empty (Some x) None text h = h
  of_empty (Some x) (Some y) text h = h ∙ ap (λ l. l ++ text) (append-nil x)

  -- what a new writer wrote is after what its output had
  pub written_all : (out last : W) (first end : Writer W) (text : List ℕ) → writer_under first ≡ out → writer_pending first ≡ []
      → Appends (text_written contents first) (text_written contents end) text → Keeps (text_written contents end) (contents last) → Appends (contents out) (contents last) text
  written_all out last first end text under none wrote kept =
      of_empty (contents out) (contents last) text
      (subst (λ buf. Appends (append_known (contents out) buf) (contents last) text) none
      (subst (λ w. Appends (append_known (contents w) (writer_pending first)) (contents last) text) under
      (Appends-kept _ _ _ text wrote kept)))

  -- a record after those that were written
  pub written_more : (out : W) (before after : Writer W) (text more all : List ℕ) → HasWritten contents out before text
      → WritesRecords contents before after more → text ++ more ≡ all → HasWritten contents out after all
  written_more out before after text more all had writes is =
      (had.0, had.1, subst (WritesRecords contents had.0 after) is (writes_then had.0 before after text more had.2 writes))

  -- what was written is after what the output had
  pub written_out : (out last : W) (writer : Writer W) (text : List ℕ) → HasWritten contents out writer text
      → Keeps (text_written contents writer) (contents last) → Appends (contents out) (contents last) text
  written_out out last writer text had kept = written_all out last had.0 writer text had.1.under had.1.empty (had.2 had.1.before).1 kept
