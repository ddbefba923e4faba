use Rattle.std.proofs.Common.{◌++◌, ◌∷◌, [], Option, subst}
use Rattle.std.proofs.KnownBytes.{Appends-trans}
use Rattle.std.specs.Io.KnownBytes.{Appends}
use Rattle.std.proofs.lemmas.Result.{err_from_is_err_and}
use Rattle.key_order.specs.Text.{Text as Key}
use Rattle.store_file.specs.Reading.{WalksOn}
use Rattle.store_file.specs.declared.register.Register.{Register}
use Rattle.store_file.proofs.Calls.{walk_reads, walk_then}
use Rattle.mst_commands.specs.Lines.{listed_lines, list_of}
use Rattle.mst_commands.proofs.LineLemmas.{lines_more, left_more}
use Rattle.mst_commands.proofs.reading.list.Goals as goal

pub returns-in_default-clause-written : goal.returns-in_default-clause-written
returns-in_default-clause-written g c clean =
    let (given, walked, app, left) = c.rows.invariant in
    (given, (c.in_ok-row.ensures.all c.in_default.is clean c.args.log.now given walked).0, app)

pub returns-in_err-row-clause-reads : goal.returns-in_err-row-clause-reads
returns-in_err-row-clause-reads g c =
    let (given, walked, app, left) = c.rows.invariant in
    walk_then g.S.Store _ _ _ _ _ _ walked.read c.in_err-row.ensures.reads (rw (err_from_is_err_and c.from_residual-in_err-row.result c.from_residual-in_err-row.ensures.1).1 tt)

pub returns-in_default-clause-reads : goal.returns-in_default-clause-reads
returns-in_default-clause-reads g c =
    let (given, walked, app, left) = c.rows.invariant in
    walk_reads g.S.Store _ _ _ _ (c.in_ok-row.ensures.walked c.args.log.now given walked).read

pub returns-in_err-left-clause-reads : goal.returns-in_err-left-clause-reads
returns-in_err-left-clause-reads g c =
    let (given, walked, app, left) = c.rows.invariant in
    walk_reads g.S.Store _ _ _ _ (c.in_ok-row.ensures.walked c.args.log.now given walked).read

pub returns-clause-reads : goal.returns-clause-reads
returns-clause-reads g c =
    let (given, walked, app, left) = c.rows.invariant in
    walk_reads g.S.Store _ _ _ _ walked.read

pub rows-preserved : goal.rows-preserved
rows-preserved g c =
    let (given, walked, app, left) = c.rows.invariant in
    let listing = c.args.listing.now in
    let row = c.in-Some.row in
    let on = subst (λ (o : Option (Key × Register)). WalksOn g.S.Store c.rows.log c.next_latest.new.log c.rows.walk c.next_latest.new.walk o) c.in-Some.is c.in_ok-row.ensures.walked in
    let more = lines_more listing.bounds listing.json listing.limit c.rows.left given row left in (
      given ++ row ∷ [],
      on c.args.log.now given walked,
      subst (Appends (g.W.Write.contents c.args.out.now) (g.W.Write.contents c.write_next.new.out)) more
          (Appends-trans _ _ _ (list_of listing given) (listed_lines listing.bounds listing.json c.rows.left (row ∷ [])) app c.in_ok-left.ensures.bytes),
      left_more listing.bounds listing.limit c.rows.left c.in_ok-left.left given row left c.in_ok-left.ensures.left,
    )
