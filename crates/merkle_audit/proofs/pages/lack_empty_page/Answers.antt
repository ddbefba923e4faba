use Rattle.std.proofs.Common.{◌≡◌, List, [], ◌∷◌, length, eqb-true, refl, sym, subst, ◌∙◌, arith}
use Rattle.merkle_diff.specs.PageRange.{entries}
use Rattle.merkle_audit.specs.Pages.{LacksPageDigest}
use Rattle.merkle_audit.proofs.pages.lack_empty_page.Goals as goal

none_of : {X : Type 0} (xs : List X) → length xs ≡ 0 → xs ≡ []
none_of [] e = refl
none_of (x ∷ xs) e = absurd (omega arith)

pub returns : goal.returns
returns g c =
    let root = rw c.tree.ensures.tree at (rw c.in-Some.is at c.root_hash_cached.ensures.digest) in
    let digest = c.digest.ensures ∙ root in
    let none = sym c.rows.ensures.rows ∙ none_of c.rows.result.now (eqb-true (length c.rows.result.now) 0 (sym c.is_empty.ensures ∙ c.if-not-is_empty.false)) in (
      λ t empty. subst (λ d. LacksPageDigest d (entries c.args.ranges.now)) digest (c.lack_digest.ensures.0 t),
      λ lack. c.lack_digest.ensures.1 (subst (λ d. LacksPageDigest d (entries c.args.ranges.now)) (sym digest) (lack none)),
    )
