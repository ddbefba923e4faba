use Rattle.std.proofs.Common.{Some, subst}
use Rattle.merkle_replica.specs.Descent.{HasPage}
use Rattle.merkle_search_tree.specs.Items.{lent_gap}
use Rattle.merkle_wire.specs.ItsRows.{ForRowsOf}
use Rattle.merkle_wire.specs.Taking.{HasPageAt}
use Rattle.merkle_wire.proofs.kept_tree.ReplicaKeptTree.is_page.Goals as goal

pub returns-clause-there : goal.returns-clause-there
returns-clause-there g c = λ _ yes.
    subst (λ own. ForRowsOf g.H.RowHasher.laws own (λ local. HasPage g.H.RowHasher.laws local c.args.digest.now)) c.hash_replica.ensures.kept
    ((rw c.tree.ensures.tree at c.is_page_of.ensures.there) yes)

pub returns-clause-lacked : goal.returns-clause-lacked
returns-clause-lacked g c = λ _ no.
    subst (λ own. ForRowsOf g.H.RowHasher.laws own (λ local. ¬ HasPageAt g.H.RowHasher.laws local (lent_gap c.args.gap.now) c.args.digest.now)) c.hash_replica.ensures.kept
    ((rw c.tree.ensures.tree at c.is_page_of.ensures.lacked) no)

pub returns-clause-kept : goal.returns-clause-kept
returns-clause-kept g c = λ _.
    (λ i. record { digests = c.hash_replica.ensures.kept i; rows = Some (c.hash_replica.ensures.rows i) })
