-- A traversal writes the pages and the keys of a tree.
use Rattle.std.proofs.Common.{◌≡◌, ◌-◌, ◌≤◌, ◌^◌, Bool, true, false, List, [], ◌∷◌, ◌++◌, refl, sym, ap, subst, ◌∙◌, arith}
use Rattle.std.specs.List.{flat_map}
use Rattle.std.proofs.lemmas.List.{append_assoc, append-nil, length-append}
use Rattle.std.proofs.lemmas.Grind.{flat_map-append}
use Rattle.merkle_tree_theory.specs.Traversal.{Visits, over, ends, goes_on}
use Rattle.c_trees.specs.Pages.{Call, Visited, Went, WritesEntries, call_bytes, written}
use Rattle.c_trees.specs.declared.walk.Pages.{Pages}

writes_none : (s : Pages) → s.count ≤ 2 ^ 64 - 1 → WritesEntries [] s s
writes_none s fits = record { bytes = sym (append-nil s.bytes.items); count = omega (arith, fits); refused = refl }

went_on : (es : List Call) (s t : Pages) → s.count ≤ 2 ^ 64 - 1 → Went true es s t → WritesEntries es s t
went_on [] s t fits same = subst (λ u. WritesEntries [] s u) (sym same) (writes_none s fits)
went_on (e ∷ es) s t fits writes = writes

writes_both : (xs ys : List Call) (s u t : Pages) → WritesEntries xs s u → WritesEntries ys u t → WritesEntries (xs ++ ys) s t
writes_both xs ys s u t a b = record {
  bytes = b.bytes ∙ ap (λ front. front ++ flat_map call_bytes ys) a.bytes ∙ append_assoc s.bytes.items (flat_map call_bytes xs) (flat_map call_bytes ys)
      ∙ ap (λ more. s.bytes.items ++ more) (sym (flat_map-append call_bytes xs ys));
  count = omega (arith, a.count, b.count, length-append xs ys);
  refused = b.refused ∙ a.refused;
}

-- where memory didn't run out, each entry was written
pub all_written : (s t : Pages) (calls : List Call) (all : Bool) → s.count ≤ 2 ^ 64 - 1 → t.refused ≡ false
    → Visits (λ before call more after. Visited call more before after) s calls all t → WritesEntries (flat_map written calls) s t
all_written s t [] all fits whole over = writes_none s fits
all_written s t (c ∷ cs) all fits whole (ends p) = absurd (let q = p in cc)
all_written s t (c ∷ cs) all fits whole (goes_on {u = u} p v) =
    let first = went_on (written c) s u fits p in
    writes_both (written c) (flat_map written cs) s u t first (all_written u t cs all (omega (arith, first.count)) whole v)
