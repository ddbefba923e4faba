use Rattle.std.proofs.Common.{rules, ◌≡◌, ◌∙◌, ℕ, List, [], ◌++◌, take, Option, Result, Ok, Err, IsErr, refl, sym, ap, subst, append-nil, arith, MatchResult, IsErrAnd}
use Rattle.std.proofs.lemmas.Bool.Decides.{nat_tests}
use Rattle.std.specs.Io.KnownBytes.{Consumes, Appends, IsAtEnd}
use Rattle.std.proofs.KnownBytes.{Appends-trans, Consumes-trans}
use Rattle.mst_pair.specs.Run.{RunEnds}
use Rattle.mst_pair.specs.Session.{GoesOnWith, Finishes}
use Rattle.mst_pair.specs.Replicas.{Replicas}
use Rattle.mst_pair.specs.declared.run.RunFault.{RunFault}
use Rattle.mst_pair.specs.declared.run.RunFault.TheVariants.{Read, Write}
use Rattle.mst_pair.proofs.Devices.{appends_or_hides_after}
use Rattle.mst_pair.proofs.run.run.Goals as goal

-- what a call answered, where its fault was given another name
was_ok : {A E : Type 0} (r : Result A E) (x : A) → MatchResult r (λ y. ◌≡◌ {A = Result A RunFault} (Ok x) (Ok y)) (λ e. ⊥) → r ≡ Ok x
was_ok (Ok y) x e = let same : x ≡ y = cc in ap (λ z. Ok z) (sym same)
was_ok (Err e) x never = absurd never

was_err : {A E : Type 0} (r : Result A E) (fault : RunFault) → MatchResult r (λ y. ◌≡◌ {A = Result A RunFault} (Err fault) (Ok y)) (λ e. fault ≡ Write) → (fault ≡ Write) × IsErr r
was_err (Ok y) fault never = absurd (cc)
was_err (Err e) fault same = (same, refl)

-- the fault is passed on
passed_on : {B : Type 0} (q : Result B RunFault) (fault : RunFault) → IsErrAnd q (λ f. f ≡ fault) → fault ≡ Write → q ≡ Err Write
passed_on (Ok x) fault never same = absurd never
passed_on (Err f) fault is same = ap (λ e. Err e) (is ∙ same)

-- the rest is answered
ends_finished : {A E : Type 0} (r : Result A E) (q : Result A RunFault) (left left' taken mid taken' : Option (List ℕ)) (input written : List ℕ)
    → MatchResult r (λ x. q ≡ Ok x) (λ e. IsErrAnd q (λ f. f ≡ Write))
    → Consumes left left' input → IsAtEnd left' → Appends taken mid written → Finishes r input written mid taken' → RunEnds q left left' taken taken'
ends_finished (Ok x) q left left' taken mid taken' input written same consumed end before (more, after, replies) =
    subst (λ w. RunEnds w left left' taken taken') (sym same) (input, written ++ more, consumed, end, Appends-trans taken mid taken' written more before after, replies)
ends_finished (Err e) (Ok x) left left' taken mid taken' input written never consumed end before finished = absurd never
ends_finished (Err e) (Err Read) left left' taken mid taken' input written other consumed end before finished = absurd (cc)
ends_finished (Err e) (Err Write) left left' taken mid taken' input written same consumed end before (more, hides, cut) =
    (input, written ++ more, consumed, appends_or_hides_after taken mid taken' written more before hides, cut)

-- what was read is not all answered
ends_cut : {A B E : Type 0} (r : Result A E) (q : Result B RunFault) (left left' taken mid taken' : Option (List ℕ)) (input written : List ℕ)
    (state : Replicas) (kept : List ℕ) → q ≡ Err Write → IsErr r
    → Consumes left left' input → Appends taken mid written → GoesOnWith r input written mid taken' state kept → RunEnds q left left' taken taken'
ends_cut (Ok x) q left left' taken mid taken' input written state kept fault failed consumed before goes = absurd (cc)
ends_cut (Err e) q left left' taken mid taken' input written state kept fault failed consumed before (more, hides, cut) =
    subst (λ w. RunEnds w left left' taken taken') (sym fault) (input, written ++ more, consumed, appends_or_hides_after taken mid taken' written more before hides, cut)

pub returns-then-count-eq0-clause-bytes : goal.returns-then-count-eq0-clause-bytes
returns-then-count-eq0-clause-bytes g c =
    let (input, written, consumed, before, at) = c.serving.invariant.reached in
    let read = was_ok c.read.result c.in_ok-count.count c.in_ok-count.ensures.cases in
    let none : c.in_ok-count.count ≡ 0 = grind (arith, nat_tests, c.if-count-eq0.true) in
    let last : Consumes (g.S.Source.left c.serving.reader) (g.S.Source.left c.read.new.self) [] =
    subst (λ n. Consumes (g.S.Source.left c.serving.reader) (g.S.Source.left c.read.new.self) (take n c.read.new.buf)) none (rw read at c.read.ensures.bytes) in
    let all = subst (Consumes _ _) (append-nil input) (Consumes-trans _ _ _ input [] consumed last) in
    let end = (rw read at c.read.ensures.end) none (search rules) in
    let named : MatchResult c.finish.result (λ x. c.map_err-then-count-eq0.result ≡ Ok x) (λ e. IsErrAnd c.map_err-then-count-eq0.result (λ f. f ≡ Write)) = search rules in
    ends_finished c.finish.result c.map_err-then-count-eq0.result _ _ _ _ _ input written named all end before (c.finish.ensures.bytes input written at)

pub serving-preserved : goal.serving-preserved
serving-preserved g c =
    let (input, written, consumed, before, at) = c.serving.invariant.reached in
    let read = was_ok c.read.result c.in_ok-count.count c.in_ok-count.ensures.cases in
    let fed = was_ok c.feed.result c.in_ok-map_err.field-0 c.in_ok-map_err.ensures.cases in
    let (more, after, next) = rw fed at (c.feed.ensures.bytes input written at) in
    record {
      reached = (_, written ++ more, Consumes-trans _ _ _ input _ consumed (rw read at c.read.ensures.bytes), Appends-trans _ _ _ written more before after, next);
      reads = (rw read at c.read.ensures.failed) ∙ c.serving.invariant.reads;
      works = (rw fed at c.feed.ensures.failed) ∙ c.serving.invariant.works;
    }

pub returns-in_err-map_err-clause-bytes : goal.returns-in_err-map_err-clause-bytes
returns-in_err-map_err-clause-bytes g c =
    let (input, written, consumed, before, at) = c.serving.invariant.reached in
    let read = was_ok c.read.result c.in_ok-count.count c.in_ok-count.ensures.cases in
    let named : MatchResult c.feed.result (λ y. ◌≡◌ {A = Result _ RunFault} (Err c.in_err-map_err.field-0.0) (Ok y)) (λ e. c.in_err-map_err.field-0.0 ≡ Write) = search rules in
    let (fault, failed) = was_err c.feed.result c.in_err-map_err.field-0.0 named in
    let given = passed_on c.from_residual-in_err-map_err.result c.in_err-map_err.field-0.0 c.from_residual-in_err-map_err.ensures.1 fault in
    ends_cut c.feed.result c.from_residual-in_err-map_err.result _ _ _ _ _ _ written c.feed.new.self.engine c.feed.new.self.line given failed
    (Consumes-trans _ _ _ input _ consumed (rw read at c.read.ensures.bytes)) before (c.feed.ensures.bytes input written at)
