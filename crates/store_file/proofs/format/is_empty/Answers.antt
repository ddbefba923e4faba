use Rattle.std.proofs.Common.{[], ◌∷◌, refl, sym, ◌∙◌, arith}
use Rattle.store_file.specs.Logs.{IsClean, trees_of}
use Rattle.store_file.proofs.Walking.{Passes, sought_all, given_more, given_last, isn't, is_after}
use Rattle.store_file.proofs.format.is_empty.Goals as goal

pub returns-clause-empty : goal.returns-clause-empty
returns-clause-empty g c clean is =
    let s = g.S.Store in
    let old = c.args.trees.now in
    let table = c.args.table in
    let early : IsClean s c.seek.new.self = omega (arith, c.next.ensures.quiet.clean, clean) in
    let first : IsClean s old = omega (arith, c.seek.ensures.quiet.clean, early) in
    let all : Passes (trees_of s old table) [] (s.view c.seek.new.self) =
    sought_all (s.view old) (s.view c.seek.new.self) table _ (c.requires.order first) c.requires.none (c.in_ok-seek.ensures.ok early) in
    given_last (trees_of s old table) [] _ _ (s.view c.seek.new.self) (s.view c.next.new.self) (isn't _ is) all (c.in_ok-next.ensures.ok clean)

pub returns-clause-filled : goal.returns-clause-filled
returns-clause-filled g c clean is none =
    let s = g.S.Store in
    let old = c.args.trees.now in
    let table = c.args.table in
    let early : IsClean s c.seek.new.self = omega (arith, c.next.ensures.quiet.clean, clean) in
    let first : IsClean s old = omega (arith, c.seek.ensures.quiet.clean, early) in
    let all : Passes (trees_of s old table) [] (s.view c.seek.new.self) =
    sought_all (s.view old) (s.view c.seek.new.self) table _ (c.requires.order first) c.requires.none (c.in_ok-seek.ensures.ok early) in
    let one : Passes (trees_of s old table) (c.next.new.row ∷ []) (s.view c.next.new.self) =
    given_more (trees_of s old table) [] (c.next.new.row ∷ []) c.next.new.row _ (s.view c.seek.new.self) (s.view c.next.new.self) (is_after _ is) all (c.in_ok-next.ensures.ok clean) refl in
    absurd (let few = sym none ∙ one.2 in cc)
