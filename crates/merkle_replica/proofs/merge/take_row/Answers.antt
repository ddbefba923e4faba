use Rattle.std.proofs.Common.{◌∙◌, rules}
use Rattle.std.proofs.lemmas.Result.{on_ok_weaker}
use Rattle.std.specs.Cmp.{tied_back}
use Rattle.merkle_replica.specs.Parted.{whole}
use Rattle.merkle_replica.proofs.PullRows.{join_like}
use Rattle.merkle_replica.proofs.RowJoins.{low-same}
use Rattle.merkle_replica.proofs.merge.take_row.Goals as goal

-- the copy has an equal key and an equal value
pub returns-clause-joined : goal.returns-clause-joined
returns-clause-joined g c =
    let row = c.args.row.now in
    let key = c.in_ok-key.key in
    let value = c.in_ok-value.value in
    on_ok_weaker c.join_here.result
    (λ p. join_like g.K.Ord.cmp g.met.K.Ord.total g.V.PartialEq.eq g.met.V.Eq.laws g.V.Join.join_of g.met.V.Join.joining
    (whole c.args.front.now.items c.args.back.now.items) (whole c.join_here.new.front.items c.join_here.new.back.items) key value row
    (tied_back g.met.K.Ord.total row.0 key (g.met.K.SameClone.clone_is_same row.0 key c.in_ok-key.ensures.cases))
    (g.met.V.Eq.laws.congr value (g.V.Join.join_of row.1 row.1) row.1 c.in_ok-value.ensures ∙ g.met.V.Join.joining.idempotent row.1) p)
    c.join_here.ensures.joined

pub returns-clause-below : goal.returns-clause-below
returns-clause-below g c =
    let row = c.args.row.now in
    let key = c.in_ok-key.key in
    on_ok_weaker c.join_here.result
    (λ p. low-same g.K.Ord.cmp g.met.K.Ord.total key row.0 c.join_here.new.front.items
    (tied_back g.met.K.Ord.total row.0 key (g.met.K.SameClone.clone_is_same row.0 key c.in_ok-key.ensures.cases)) c.join_here.ensures.below)
    c.join_here.ensures.joined

-- what is below a key is below its clone
pub join_here-requires : goal.join_here-requires
join_here-requires g c =
    let row = c.args.row.now in
    let key = c.in_ok-key.key in (
      search rules,
      (
        c.requires.kept,
        (
          low-same g.K.Ord.cmp g.met.K.Ord.total row.0 key c.args.front.now.items
              (g.met.K.SameClone.clone_is_same row.0 key c.in_ok-key.ensures.cases) c.requires.below,
          c.requires.room,
        ),
      ),
    )
