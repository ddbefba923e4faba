-- A null pointer is told from others by a test; else what the handle owns goes to the box. The allocator's lifetime is the longest one.
use Rattle.std.proofs.Common.{◌≡◌, List, [], ◌∷◌, ◌++◌, refl, sym, ap, ◌∙◌, subst, lit<}
use lib.Dec.{T}
use mir.Syntax.{Body, a_type, w8, place, copy, int, rv_opd, aggregate, assign, seq}
use mir.MapTy.{inst_fn}
use mir.Val.{Val, vptr, vcons, vnil, has_ty, WT}
use base.Logic.{SProp, ent, emp, id⊢}
use base.Fml.{ftrue, fsep, flft}
use prog.Wp.{WpFn, Wp, after_seq, at_return}
use types.Logic.{sem}
use types.Kit.{‵, raw, ◌⊛◌, at_ret, any_q, some, later, ◌$◌, ◌∵◌, !, qed, move, drop, keep, use0, use1, join, split, split3, pick, rewrite, fsplit, fjoin, feq_i, suffices, await, done}
use types.Match.{live}
use types.Part.{whole, sub, agg}
use types.Run.{stop, fld, lit, bin, no_more, and_then, of_opd, first, blocks, branches, exec, returns, enter}
use types.ByLocal.{alloc_all, pass_all, free_all, look_at, get, get_in, sets, sets_last, lands_last, env}
use contract.BorrowLft.{◌⊑◌, ⊑_refl}
use contract.Monad.{fact, fact_i}
use contract.Running.{tables}
use denote.Exit.{no}
use denote.Param.{layout, layouts}
use denote.Param.NoDrop.{glues}
use denote.RattleType.{RattleType, owns}
use denote.RawPtr.{block_ptr, null_ptr, tests_null}
use denote.Signature.{types_at, type_at, plain}
use denote.Steps.{heard, nothing, only}
use denote.Triple.Call.{calls_at_last}
use denote.Triple.Spec.{triple_of}
use denote.Triple.Walked.{Stays, stay_dropped, walk_of, Goes-dropped, ends_at, says}
use Rattle.core.proofs.alloc.Shapes.{after}
use Rattle.core.proofs.atomic.Steps.{Ptr-Good, fm}
use Rattle.core.proofs.option.Made.{Some-of, none_of}
use Rattle.std.proofs.raw_atomic.Walks.{proved_at}
use Rattle.std.specs.declared.option.Option.TheVariants.{None, Some}
use Rattle.std_alloc.proofs.BoxSteps.Form.{Bx, D, B, word, box_typed}
use Rattle.std_alloc.proofs.BoxSteps.Steps.{box_out, box_in}
use Rattle.std_alloc.proofs.ResultValues.{and_tt}
use Rattle.std_alloc.specs.contracts.boxed.Box.from_raw as callee
use Rattle.std_alloc.proofs.boxed.Box.from_raw.Met.{met}
use Rattle.std_heap.proofs.GlobalAllocator.TheImpl.Met.{passed}
use Rattle.c_values.proofs.Rows.{passed_row, boxed, BoxRow, HandleRow, handle_word, handle_typed, handle_out, beside}
use Rattle.c_values.specs.contracts.handle.Handle.into_box as f
use Rattle.c_values.proofs.handle.Handle.into_box.Statement.{statement}
use Rattle.c_values.proofs.handle.Handle.into_box.Code as code

-- the rest of the branch of a pointer that isn't null
abbrev wraps : Body
wraps = seq (assign (place 7 []) (rv_opd (copy (place 8 [])))) (assign (place 6 []) (aggregate (int w8 1 ∷ copy (place 7 []) ∷ [])))

pub into_box_spec : {M : Type 1} → statement M
unfolding Rattle.c_values.proofs.Destruct++none.drop.Code.code
into_box_spec 𝓤 𝓛 𝓜 𝓡 wired X L =
    let E : Bx = boxed X L in let A = E.al.row in let From : RattleType = HandleRow X L in let Whole : RattleType = BoxRow X L in let given = layouts (a_type ∷ []) (X, tt) in
    let ended = f.ended X in let c = f.clauses X 𝓛 𝓜.mem 𝓡.returns in
    let 𝓣 = tables 𝓤 𝓛.H 𝓜 𝓡 𝓡.env in let fn = inst_fn given code.function in
    let stayed : Stays ended.signature.params ended.kept = (stay_dropped (plain (λ _. From)) no, tt) in
    proved_at 𝓛 ended stayed c 𝓜 𝓡 (Goes-dropped 𝓛 1 (plain (λ _. From)) no (λ κs x w. refl), tt)
    (f.Key.name given) fn (code.unfolded 𝓤 𝓛.H 𝓜 𝓡 wired (X, tt)) (λ z are.
    let κs = z.0.0 in let qs = z.0.1 in let self = z.0.3.0 in let a = self.alloc in let Out : RattleType = type_at ended.signature.result κs in
    let Post : Val → SProp 𝓤 = (walk_of 𝓛 ended stayed c).post z in
    let Run : List Val → SProp 𝓤 = λ ws. WpFn 𝓤 𝓛.H 𝓣.C 𝓣.Λ fn ws Post in
    let k = triple_of 𝓛 (callee.signature X A E.al.g E.al.d E.al.drops) (callee.spec X A E.al.g E.al.d E.al.drops 𝓛 𝓜.mem 𝓡.returns) in
    let t = flft κs.0 qs.0 in let tokens = ‵ t ⊛ ‵ (flft [] qs.0) ⊛ ‵ ftrue in let far = [] ⊑ A.lives in
    qed 𝓛 (((‵ t ⊛ ‵ ftrue) ⊛ ‵ (owns (types_at ended.signature.params κs) z.0.3 z.0.4)) ∷ (raw (fact 𝓤 (κs.0 ⊑ X.lives)) ⊛ ‵ ftrue) ∷ []) ∵
    split ! $ move ! (1 ∷ []) $ fsplit ! $ handle_out X L ! self.ptr a self.held z.0.4.0
    (λ h is ws fits. let w : Val = handle_word X L null_ptr h in
    keep ! (2 ∷ []) $ use0 𝓛 (‵ (Out.own_val None (live 0 vnil ∷ []))) (none_of 𝓛 Whole) $
    suffices ! (Run (w ∷ [])) (subst (λ (us : List Val). ent 𝓤 (Run (w ∷ [])) (Run us)) (sym (λ i. ws i ++ [])) (id⊢ 𝓤 (Run (w ∷ [])))) $
    enter ! 𝓣.C 𝓣.Λ fn (w ∷ []) Post $ alloc_all ! (λ l. pass_all ! refl (handle_typed X L null_ptr h fits, tt) $ let Ev = env fn.locals l in
    sets ! (of_opd ! (get_in ! (fld ! refl (stop !)) (sub ! 0 refl (whole !)))) refl (Ptr-Good null_ptr) $
    sets ! (of_opd ! (get_in ! (fld ! refl (stop !)) (sub ! 1 refl (whole !)))) refl fits $ sets ! (of_opd ! (get ! refl)) refl (Ptr-Good null_ptr) $
    sets ! (bin ! (get ! refl) (lit ! tt) tt) refl (tt, tt) $ first ! $ branches ! (get ! refl)
    (λ _. sets_last ! (agg ! (and_then ! (lit ! tt) (no_more !))) refl (tt, (record { fits = lit< tt }, tt)) $
    exec ! 𝓣.C 𝓣.Λ Ev (after 5 fn.body) (at_ret Ev Post) $
    sets ! (of_opd ! (get ! refl)) refl (tt, (record { fits = lit< tt }, tt)) $ returns ! (look_at ! 0 refl) $ free_all ! refl $
    suffices ! _ (ends_at 𝓛 ended stayed c z (live 0 vnil) None (tt, tt) (tt, tt)) $ says ! (sym is) $
    nothing ! $ nothing ! $ fjoin ! $ join ! $ move ! (1 ∷ 0 ∷ []) $ join ! $ done !)
    (λ wrong. absurd wrong)))
    (λ b o h x is tested ws fits. let w : Val = word E h b o in let typed = box_typed E h b o fits in
    let y : k.Ghost = (((κs.0, ([], tt)), (qs.0, (qs.0, tt)), tt, (a, (block_ptr b o, tt)), (h ∷ [], (vptr b o ∷ [], tt))), x) in
    -- [what the box owns; the allocator; nothing; the token; the bound of the lifetime]
    move ! (3 ∷ []) $ use1 𝓛 tokens (beside 𝓤 (sem 𝓛 t) (sem 𝓛 (flft [] qs.0)) (𝓛.lfts.lft-nil qs.0)) $
    move ! (4 ∷ []) $ split ! $ use0 𝓛 (raw (fact 𝓤 far)) (fact_i 𝓤 far (emp 𝓤) (⊑_refl [])) $
    move ! (0 ∷ 4 ∷ []) $ join ! $ move ! (1 ∷ 0 ∷ []) $ join ! $ move ! (1 ∷ []) $ drop ! $
    move ! (3 ∷ []) $ feq_i ! (List Val) (vptr b o ∷ []) (vptr b o ∷ []) refl $ fjoin ! $ move ! (3 ∷ 0 ∷ []) $ fjoin ! $
    move ! (2 ∷ 0 ∷ []) $ join ! $ join ! $ use1 𝓛 (raw (k.pre y)) (id⊢ 𝓤 _) $
    suffices ! (Run (w ∷ [])) (subst (λ (us : List Val). ent 𝓤 (Run (w ∷ [])) (Run us)) (sym (λ i. ws i ++ [])) (id⊢ 𝓤 (Run (w ∷ [])))) $
    enter ! 𝓣.C 𝓣.Λ fn (w ∷ []) Post $ alloc_all ! (λ l. pass_all ! refl (typed, tt) $ let Ev = env fn.locals l in
    let Then = any_q (after_seq 𝓤 𝓛.H (Wp 𝓤 𝓛.H 𝓣.C 𝓣.Λ Ev (after 5 fn.body) (at_return 𝓤 𝓛.H Ev Post)) (at_return 𝓤 𝓛.H Ev Post)) in
    sets ! (of_opd ! (get_in ! (fld ! refl (stop !)) (sub ! 0 refl (whole !)))) refl (tt, tt) $
    sets ! (of_opd ! (get_in ! (fld ! refl (stop !)) (sub ! 1 refl (whole !)))) refl fits $ sets ! (of_opd ! (get ! refl)) refl (tt, tt) $
    sets ! (bin ! (get ! refl) (lit ! tt) (tests_null (block_ptr b o) tested)) refl (tt, tt) $ first ! $ branches ! (get ! refl)
    (λ wrong. absurd wrong)
    (λ _. first ! $ blocks ! $ sets ! (of_opd ! (get ! refl)) refl fits $ sets ! (of_opd ! (get ! refl)) refl (tt, tt) $
    calls_at_last ! (fm 𝓛 𝓜 𝓡) k (met 𝓤 𝓛 𝓜 𝓡 (code.calls-std_alloc::boxed::Box::from_raw 𝓡.env wired) X A L E.al.laws E.al.g E.al.d E.al.drops
    (passed 𝓡.env (code.calls-std_heap::GlobalAllocator::allocate 𝓡.env wired) (code.calls-std_heap::GlobalAllocator::deallocate 𝓡.env wired)
    (code.calls-std_heap::GlobalAllocator::grow 𝓡.env wired) (code.calls-std_heap::GlobalAllocator::shrink 𝓡.env wired) _ 𝓤 𝓛 𝓜 𝓡)
    (glues "c_values::Destruct++none::drop" 𝓡.env (code.calls-c_values::Destruct++none::drop 𝓡.env wired) passed_row E.al.laws _ 𝓤 𝓛 𝓜 𝓡)) y
    (and_then ! (get ! refl) (and_then ! (get ! refl) (no_more !))) (λ u.
    use1 𝓛 (later (some (λ (r : D E). (tokens ⊛ ‵ ((B E).own_val r (u ∷ []))) ⊛ some (λ (_ : Unit {0} × (Unit {0} × Unit {0})).
    ‵ (fsep ftrue (fsep ftrue ftrue)) ⊛ (raw (fact 𝓤 (r.value ≡ x)) ⊛ raw (fact 𝓤 (r.alloc ≡ a))))))) (id⊢ 𝓤 _) $
    await ! tt $ pick ! (λ r. split ! $ move ! (1 ∷ []) $ pick ! (λ _. split3 ! $ drop ! $ heard ! (r.value ≡ x) (λ same. drop ! $ split ! $ move ! (1 ∷ []) $
    box_out E ! r (u ∷ []) (λ b' o' h' e' us fits'. box_in E ! r b' o' r.value e' refl $ rewrite ! 0 (λ (vs : List Val). ‵ ((B E).own_val r vs)) (sym us) refl $
    let made : T (has_ty (layout Whole) u) × WT u = subst (λ (s : Val). T (has_ty (layout Whole) s) × WT s) (sym (ap only us)) (box_typed E h' b' o' fits') in
    let v : Val = live 1 (vcons u vnil) in let good : T (has_ty (layout Out) v) × WT v = (and_tt _ made.0, (record { fits = lit< tt }, (made.1, tt))) in
    use1 𝓛 (‵ (Out.own_val (Some r) (v ∷ []))) (Some-of 𝓛 Whole r u) $
    lands_last ! refl made $ exec ! 𝓣.C 𝓣.Λ Ev wraps Then $ sets ! (of_opd ! (get ! refl)) refl made $
    sets_last ! (agg ! (and_then ! (lit ! tt) (and_then ! (get ! refl) (no_more !)))) refl good $
    exec ! 𝓣.C 𝓣.Λ Ev (after 5 fn.body) (at_ret Ev Post) $ sets ! (of_opd ! (get ! refl)) refl good $ returns ! (look_at ! 0 refl) $ free_all ! refl $
    -- [the box; the tokens]
    move ! (1 ∷ []) $ split3 ! $ move ! (1 ∷ []) $ drop ! $ join ! $ move ! (1 ∷ []) $
    suffices ! _ (ends_at 𝓛 ended stayed c z v (Some r) (tt, tt) (tt, tt)) $ says ! (ap Some same ∙ sym is) $
    nothing ! $ nothing ! $ fjoin ! $ join ! $ move ! (1 ∷ 0 ∷ []) $ join ! $ done !)))))))))
