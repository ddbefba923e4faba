use Rattle.std.proofs.Common.{◌≡◌, [], ◌∷◌, List, length, refl, ap, sym, ◌∙◌, arith, rules}
use Rattle.sqlite_value.specs.Order.{Row}
use Rattle.sqlite_trees.specs.Tree.{order_of}
use Rattle.store_file.specs.Logs.{IsClean, trees_of}
use Rattle.store_file.proofs.Walking.{Passes, sought_all, given_more, given_last, isn't, is_after}
use Rattle.store_file.proofs.format.only_note.Goals as goal

pub returns-then-not-branch-clause-more : goal.returns-then-not-branch-clause-more
returns-then-not-branch-clause-more g c clean _ one =
    let s = g.S.Store in
    let old = c.args.trees.now in
    let early : IsClean s c.seek.new.self = omega (arith, c.next.ensures.quiet.clean, clean) in
    let first : IsClean s old = omega (arith, c.seek.ensures.quiet.clean, early) in
    let all : Passes (trees_of s old 1) [] (s.view c.seek.new.self) =
    sought_all (s.view old) (s.view c.seek.new.self) 1 _ (ap order_of (c.requires.tables first).about) c.requires.none (c.in_ok-seek.ensures.ok early) in
    let none : trees_of s old 1 ≡ [] = given_last (trees_of s old 1) [] _ _ (s.view c.seek.new.self) (s.view c.next.new.self) (search rules) all (c.in_ok-next.ensures.ok clean) in
    absurd (let few = ap (λ (rows : List Row). length rows) none in let k = sym few ∙ one in cc)

pub returns-clause-one : goal.returns-clause-one
returns-clause-one g c clean is =
    let s = g.S.Store in
    let old = c.args.trees.now in
    let later : IsClean s c.next.new.self = omega (arith, c.next-2.ensures.quiet.clean, clean) in
    let early : IsClean s c.seek.new.self = omega (arith, c.next.ensures.quiet.clean, later) in
    let first : IsClean s old = omega (arith, c.seek.ensures.quiet.clean, early) in
    let all : Passes (trees_of s old 1) [] (s.view c.seek.new.self) =
    sought_all (s.view old) (s.view c.seek.new.self) 1 _ (ap order_of (c.requires.tables first).about) c.requires.none (c.in_ok-seek.ensures.ok early) in
    let one : Passes (trees_of s old 1) (c.next.new.row ∷ []) (s.view c.next.new.self) =
    given_more (trees_of s old 1) [] (c.next.new.row ∷ []) c.next.new.row _ (s.view c.seek.new.self) (s.view c.next.new.self) (search rules) all
    (c.in_ok-next.ensures.ok later) refl in
    given_last (trees_of s old 1) (c.next.new.row ∷ []) _ _ (s.view c.next.new.self) (s.view c.next-2.new.self) (isn't _ is) one (c.in_ok-next-2.ensures.ok clean)

pub returns-clause-more : goal.returns-clause-more
returns-clause-more g c clean is few =
    let s = g.S.Store in
    let old = c.args.trees.now in
    let later : IsClean s c.next.new.self = omega (arith, c.next-2.ensures.quiet.clean, clean) in
    let early : IsClean s c.seek.new.self = omega (arith, c.next.ensures.quiet.clean, later) in
    let first : IsClean s old = omega (arith, c.seek.ensures.quiet.clean, early) in
    let all : Passes (trees_of s old 1) [] (s.view c.seek.new.self) =
    sought_all (s.view old) (s.view c.seek.new.self) 1 _ (ap order_of (c.requires.tables first).about) c.requires.none (c.in_ok-seek.ensures.ok early) in
    let one : Passes (trees_of s old 1) (c.next.new.row ∷ []) (s.view c.next.new.self) =
    given_more (trees_of s old 1) [] (c.next.new.row ∷ []) c.next.new.row _ (s.view c.seek.new.self) (s.view c.next.new.self) (search rules) all
    (c.in_ok-next.ensures.ok later) refl in
    let two : Passes (trees_of s old 1) (c.next.new.row ∷ c.next-2.new.row ∷ []) (s.view c.next-2.new.self) =
    given_more (trees_of s old 1) (c.next.new.row ∷ []) (c.next.new.row ∷ c.next-2.new.row ∷ []) c.next-2.new.row _ (s.view c.next.new.self)
    (s.view c.next-2.new.self) (is_after _ is) one (c.in_ok-next-2.ensures.ok clean) refl in
    let many = ap (λ (rows : List Row). length rows) two.2 in
    absurd (let k = sym many ∙ few in cc)
