-- The keys are those that the file has by the premise.
use mathlib.Core.Path.{refl}
use mathlib.Core.List.{[], ◌∷◌}
use mir.MapTy.{inst_fn}
use mir.Syntax.{a_type, dcons, dnil, named}
use mir.Val.{Val, vptr, vstruct, vnil}
use base.Fml.{Fml}
use contract.Monad.{fact}
use contract.Running.{tables}
use types.Kit.{‵, raw, ◌⊛◌, ◌$◌, ◌∵◌, !, qed, keep, move, split, suffices, done}
use types.Run.{no_more, returns, enter}
use types.Part.{agg}
use types.ByLocal.{alloc_all, pass_all, free_all, look_at, sets}
use denote.Exit.{yes}
use denote.Param.{bounded, param}
use denote.RattleType.{RattleType, owns}
use denote.Ref.{shr_vals, shr_Tells}
use denote.Shadow.{pure_i}
use denote.Signature.{plain, types_at}
use denote.Steps.{heard}
use denote.Triple.Entry.{alive}
use denote.Triple.Walked.{says, stay_none_ref, Stays, walk_of, ends_at, Goes-none_ref}
use Rattle.std.proofs.raw_atomic.Walks.{proved}
use Rattle.store_side.specs.FileTrees.{IsFile}
use Rattle.store_rows.specs.contracts.digests.LatestDigests as digests
use Rattle.store_side.specs.contracts.noted.Noted as noted
use Rattle.store_side.specs.contracts.noted.note as f
use Rattle.store_side.proofs.noted.note.Statement.{statement}
use Rattle.store_side.proofs.noted.note.Code as code

pub note_spec : {M : Type 1} → statement M
note_spec 𝓤 𝓛 𝓜 𝓡 wired S L g d m =
    let R : RattleType = param 0 S in
    let ended = f.ended S g d in
    let c = f.clauses S g d 𝓛 𝓜.mem 𝓡.returns in
    let 𝓣 = tables 𝓤 𝓛.H 𝓜 𝓡 𝓡.env in
    let given = bounded (a_type ∷ []) (S, tt) (dcons d dnil) in
    let fn = inst_fn given code.function in
    let stayed : Stays ended.signature.params ended.kept =
    (stay_none_ref (0 ∷ []) tt (plain (λ _. digests.the_row)) yes, (stay_none_ref (1 ∷ []) tt (plain (λ _. R)) yes, tt)) in
    proved 𝓛 ended stayed c 𝓜 𝓡 (Goes-none_ref 𝓛 3 (0 ∷ []) tt (plain (λ _. digests.the_row)) yes, (Goes-none_ref 𝓛 3 (1 ∷ []) tt (plain (λ _. R)) yes, tt))
    (f.Key.name given) fn (code.unfolded 𝓤 𝓛.H 𝓜 𝓡 wired (S, tt) d)
    (λ κs. (shr_vals, (shr_vals, tt))) (λ κs. (shr_Tells (named 0) κs.0 digests.the_row, (shr_Tells (named 1) κs.1.0 R, tt))) (λ κs qs bounds a ghost are.
    let first : Val = vptr a.0.ref_ptr.0 a.0.ref_ptr.1 in
    let second : Val = vptr a.1.0.ref_ptr.0 a.1.0.ref_ptr.1 in
    let y : (walk_of 𝓛 ended stayed c).Ghost = ((κs, qs, bounds, a, (first ∷ [], (second ∷ [], tt))), ghost) in
    let Has : Type 0 = IsFile g a.0.now a.1.0.now in
    let passed : Fml = owns (types_at ended.signature.params κs) a (first ∷ [], (second ∷ [], tt)) in
    qed 𝓛 ((raw (alive 𝓛 ended.signature κs qs) ⊛ ‵ passed) ∷ raw (fact 𝓤 _) ∷ raw (fact 𝓤 Has) ∷ []) ∵
    keep ! (2 ∷ 0 ∷ []) $ heard ! Has (λ file. split ! $
    enter ! 𝓣.C 𝓣.Λ fn (first ∷ second ∷ []) _ $
    alloc_all ! (λ l. pass_all ! refl ((tt, tt), ((tt, tt), tt)) $ sets ! (agg ! (no_more !)) refl (tt, tt) $
    returns ! (look_at ! 0 refl) $ free_all ! refl $
    suffices ! _ (ends_at 𝓛 ended stayed c y (vstruct vnil) (record { rows = file.0 }) (tt, (tt, tt)) (tt, (tt, tt))) $
    says ! file.1 $ pure_i ! (noted.the_row.own_val (record { rows = file.0 }) (vstruct vnil ∷ [])) ((λ vss. (tt, tt)), tt) ((tt, (refl, tt)), tt) $
    move ! (1 ∷ 2 ∷ 0 ∷ []) $ done !)))
