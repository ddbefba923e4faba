use Rattle.std.proofs.Common.{sym, subst}
use Rattle.std.proofs.lemmas.Result.{IfOk-weaker}
use Rattle.merkle_replica.specs.Contents.{side}
use Rattle.merkle_replica.specs.Faithful.{HaveFaithfulPages}
use Rattle.merkle_replica.proofs.SideLaws.{same_side}
use Rattle.merkle_audit.proofs.pages.have_faithful_pages.Goals as goal

pub returns-clause-told : goal.returns-clause-told
returns-clause-told g c =
    let laws = g.H.RowHasher.laws in
    let a = same_side c.args.a.now c.hash.new.self c.hash.ensures.rows c.hash.ensures.settings in
    let b = same_side c.args.b.now c.hash-2.new.self c.hash-2.ensures.rows c.hash-2.ensures.settings in
    IfOk-weaker c.compare.result _ _ (λ are both t. subst (λ s. HaveFaithfulPages laws s (side c.args.b.now)) a
    (subst (λ s. HaveFaithfulPages laws (side c.hash.new.self) s) b (both.0 t))) c.compare.ensures

pub returns-clause-found : goal.returns-clause-found
returns-clause-found g c =
    let laws = g.H.RowHasher.laws in
    let a = same_side c.args.a.now c.hash.new.self c.hash.ensures.rows c.hash.ensures.settings in
    let b = same_side c.args.b.now c.hash-2.new.self c.hash-2.ensures.rows c.hash-2.ensures.settings in
    IfOk-weaker c.compare.result _ _ (λ are both faithful.
    both.1 (subst (λ s. HaveFaithfulPages laws s (side c.hash-2.new.self)) (sym a) (subst (λ s. HaveFaithfulPages laws (side c.args.a.now) s) (sym b) faithful))) c.compare.ensures
