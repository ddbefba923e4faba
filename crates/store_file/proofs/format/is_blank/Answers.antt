use Rattle.std.proofs.Common.{◌≡◌, ap, sym, ◌∙◌, arith, rules}
use Rattle.sqlite_trees.specs.Tree.{order_of}
use Rattle.store_file.specs.Logs.{IsClean, HasTables, trees_of}
use Rattle.store_file.proofs.Walking.{tables_kept}
use Rattle.store_file.proofs.format.is_blank.Goals as goal

pub is_empty-requires-clause-order : goal.is_empty-requires-clause-order
is_empty-requires-clause-order g c clean = ap order_of (c.requires.tables clean).entries

pub is_empty-requires-2-clause-order : goal.is_empty-requires-2-clause-order
is_empty-requires-2-clause-order g c clean =
    let s = g.S.Store in
    let did = c.is_empty.ensures.uncommitted in
    let first : IsClean s c.args.trees.now = omega (arith, did.quiet.clean, clean) in
    ap order_of (tables_kept (s.view c.args.trees.now) (s.view c.is_empty.new.trees) did.schema (c.requires.tables first)).about

pub is_empty-requires-3-clause-order : goal.is_empty-requires-3-clause-order
is_empty-requires-3-clause-order g c clean =
    let s = g.S.Store in
    let old = c.args.trees.now in
    let mid = c.is_empty.new.trees in
    let middle : IsClean s mid = omega (arith, c.is_empty-2.ensures.uncommitted.quiet.clean, clean) in
    let first : IsClean s old = omega (arith, c.is_empty.ensures.uncommitted.quiet.clean, middle) in
    let tables : HasTables (s.view mid) = tables_kept (s.view old) (s.view mid) c.is_empty.ensures.uncommitted.schema (c.requires.tables first) in
    ap order_of (tables_kept (s.view mid) (s.view c.is_empty-2.new.trees) c.is_empty-2.ensures.uncommitted.schema tables).cells

pub returns-clause-blank : goal.returns-clause-blank
returns-clause-blank g c clean is =
    let s = g.S.Store in
    let late : IsClean s c.is_empty-2.new.trees = omega (arith, c.is_empty-3.ensures.uncommitted.quiet.clean, clean) in
    let middle : IsClean s c.is_empty.new.trees = omega (arith, c.is_empty-2.ensures.uncommitted.quiet.clean, late) in
    let same : trees_of s c.is_empty.new.trees ≡ trees_of s c.args.trees.now = ap (λ v. v.trees) (c.in_ok-is_empty.ensures.same middle) in
    let again : trees_of s c.is_empty-2.new.trees ≡ trees_of s c.args.trees.now = ap (λ v. v.trees) (c.in_ok-is_empty-2.ensures.same late) ∙ same in record {
      entries = c.in_ok-is_empty.ensures.empty middle (search rules);
      about = sym (ap (λ trees. trees 1) same) ∙ c.in_ok-is_empty-2.ensures.empty late (search rules);
      cells = sym (ap (λ trees. trees 2) again) ∙ c.in_ok-is_empty-3.ensures.empty clean is;
    }

pub returns-clause-other : goal.returns-clause-other
returns-clause-other g c clean is blank =
    let s = g.S.Store in
    let late : IsClean s c.is_empty-2.new.trees = omega (arith, c.is_empty-3.ensures.uncommitted.quiet.clean, clean) in
    let middle : IsClean s c.is_empty.new.trees = omega (arith, c.is_empty-2.ensures.uncommitted.quiet.clean, late) in
    let same : trees_of s c.is_empty.new.trees ≡ trees_of s c.args.trees.now = ap (λ v. v.trees) (c.in_ok-is_empty.ensures.same middle) in
    let again : trees_of s c.is_empty-2.new.trees ≡ trees_of s c.args.trees.now = ap (λ v. v.trees) (c.in_ok-is_empty-2.ensures.same late) ∙ same in
    c.in_ok-is_empty-3.ensures.filled clean is (ap (λ trees. trees 2) again ∙ blank.cells)
