use Rattle.std.proofs.Common.{◌≡◌, ◌<◌, ◌≤◌, ◌+◌, ◌∷◌, ◌++◌, [], ap, sym, subst, ◌∙◌, arith, length, take, rules}
use Rattle.std.proofs.lemmas.List.{take_all, take_more}
use Rattle.store_file.specs.Logs.{IsClean, trees_of}
use Rattle.store_file.specs.declared.catalog.TheConstants.{CELLS}
use Rattle.store_tree.proofs.Loaded.{HoldsKeys, all_loaded, none_added, one_added}
use Rattle.store_tree.proofs.load.load.Goals as goal

pub keys-init : goal.keys-init
keys-init g c =
    let s = g.S.Store in
    let new = c.clear.new.trees in
    record {
      added = λ clean. none_added (trees_of s new CELLS) (c.in_ok-clear.ensures.cleared clean);
      unknown = search rules;
      others = search rules;
      uncommitted = search rules;
    }

pub keys-preserved : goal.keys-preserved
keys-preserved g c =
    let s = g.S.Store in
    let mid = c.keys.trees in
    let new = c.add.new.trees in
    let was = c.keys.invariant in
    let seen = take c.keys.entry-index c.args.keys.now in
    let one = c.entry-item.result in
    let early : IsClean s new → IsClean s mid = λ clean. omega (arith, c.add.ensures.uncommitted.quiet.clean, clean) in
    record {
      added = λ clean.
          let low : c.keys.entry-index < length c.args.keys.now = omega arith in
          let more : seen ++ one ∷ [] ≡ take (c.keys.entry-index + 1) c.args.keys.now = ap (λ e. seen ++ e ∷ []) c.entry-item.is ∙ sym (take_more c.args.keys.now c.keys.entry-index one low) in
          subst (λ given. HoldsKeys given (trees_of s new CELLS)) more
          (one_added seen one (trees_of s mid CELLS) (trees_of s new CELLS) (was.added (early clean)) (was.unknown (early clean)) (c.in_ok-add.ensures.added clean));
      unknown = λ clean. c.in_ok-add.ensures.unknown clean (was.unknown (early clean));
      others = search rules;
      uncommitted = search rules;
    }

pub returns-clause-loaded : goal.returns-clause-loaded
returns-clause-loaded g c clean =
    let s = g.S.Store in
    let rows = trees_of s c.keys.trees CELLS in
    let whole : length c.args.keys.now ≤ c.keys.entry-index = omega arith in
    let added = subst (λ given. HoldsKeys given rows) (take_all c.keys.entry-index c.args.keys.now whole) (c.keys.invariant.added clean) in
    all_loaded c.args.keys.now rows added (c.keys.invariant.unknown clean)
