use Rattle.std.proofs.Common.{◌≡◌, ◌<◌, ◌+◌, ◌∷◌, ◌++◌, [], ℕ, ap, sym, subst, ◌∙◌, arith, length, take, rules}
use Rattle.std.proofs.lemmas.List.{take_more}
use Rattle.store_file.specs.Logs.{IsClean, trees_of}
use Rattle.store_file.proofs.Walking.{tables_kept, uncommitted_then}
use Rattle.store_rows.specs.InStep.{AddsInStep}
use Rattle.store_rows.proofs.Looping.{adds_one}
use Rattle.store_rows.proofs.writing.add_each.Goals as goal

pub entries-preserved : goal.entries-preserved
entries-preserved g c =
    let s = g.S.Store in
    let old = c.args.trees.now in
    let mid = c.entries.trees in
    let new = c.add_one.new.trees in
    let was = c.entries.invariant in
    let did = c.in_ok-add_one.ensures in
    let hash_key = c.args.hasher.now in
    let seen = take c.entries.entry-index c.args.entries.now in
    let one = c.entry-item.result in
    let early : IsClean s new → IsClean s mid = λ clean. omega (arith, c.add_one.ensures.uncommitted.quiet.clean, clean) in
    record {
      tables = λ clean. tables_kept (s.view mid) (s.view new) c.add_one.ensures.uncommitted.schema (was.tables (early clean));
      added = λ clean.
          let low : c.entries.entry-index < length c.args.entries.now = omega arith in
          let more : seen ++ one ∷ [] ≡ take (c.entries.entry-index + 1) c.args.entries.now =
          ap (λ e. seen ++ e ∷ []) c.entry-item.is ∙ sym (take_more c.args.entries.now c.entries.entry-index one low) in
          subst (λ given. AddsInStep hash_key given (trees_of s old) (trees_of s new)) more
          (adds_one hash_key seen one (trees_of s old) (trees_of s mid) (trees_of s new) (did.added clean) (did.kept clean) (was.added (early clean)));
      uncommitted = uncommitted_then s old mid new was.uncommitted c.add_one.ensures.uncommitted;
    }

pub returns-in_err-add_one-clause-late : goal.returns-in_err-add_one-clause-late
returns-in_err-add_one-clause-late g c is =
    let low : c.entries.entry-index < length c.args.entries.now = omega arith in
    (c.entries.entry-index, c.entry-item.result, low, sym c.entry-item.is, c.add_one.ensures.late (search rules))
