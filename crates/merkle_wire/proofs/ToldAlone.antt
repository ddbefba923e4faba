-- What is told of a page without the pages below it.
use Rattle.std.proofs.Common.{◌≡◌, ℕ, List, true, Bool, subst, ◌∙◌}
use Rattle.std.specs.declared.cmp.Ordering.{Ordering}
use Rattle.merkle_tree_theory.specs.Outline.{Item}
use Rattle.merkle_wire.specs.Outlines.{Outline, rows_told, digests_told, page_told, AreNodes, IsTold, HasNoPage, nodes_among}

pub told_alone : {K V : Type 0} (cmp : K → K → Ordering) (rows : List (K × V)) (with_pages : Bool) (items : List (Item K (List ℕ))) (nodes : List (K × List ℕ)) (told : Outline K V)
    → nodes ≡ nodes_among items → (with_pages ≡ true → HasNoPage items) → AreNodes cmp rows nodes told → IsTold cmp rows with_pages items told
told_alone cmp rows with_pages items nodes (rows_told rs) is alone of = (alone, subst (λ ns. AreNodes cmp rows ns (rows_told rs)) is of)
told_alone cmp rows with_pages items nodes (digests_told ns) is alone of = (alone, of ∙ is)
told_alone cmp rows with_pages items nodes (page_told digest keys pages) is alone of = absurd of
