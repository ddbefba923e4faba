-- A handle and the box of what it has, as the logic's descriptions of types, and a handle in its two cases.
use mathlib.Core.List.{List, [], ◌∷◌, ◌++◌}
use mathlib.Core.Path.{◌≡◌, refl, subst}
use Prim.Native.Nat.{ℕ}
use lib.Dec.{T}
use seplogic.Ra.Ura.{Ura}
use mir.Syntax.{Dict, impl, tcons, tnil, dnil}
use mir.Raw.{raw as bare}
use mir.Val.{Val, vstruct, vcons, vnil, of_list, has_ty, WT}
use base.Logic.{SProp, ent, sep, emp, emp∗, via, mono_l, mono_r, guard_i}
use base.Fml.{ftrue}
use contract.Monad.{fact_use}
use types.Logic.{Logic, sem}
use types.Kit.{Item, Goal, Seq, Step, step, ‵, given, ◌$◌, move, drop, use1, fsplit, fjoin, fpick, fpack, feq_i, feq_l, learn}
use denote.Exit.{no}
use denote.Param.{layout, arg}
use denote.Param.Laws.{Laws, arg_laws}
use denote.RattleType.{RattleType, Valss}
use denote.RawPtr.{Ptr, RawPtr, block_ptr, null_ptr, ptr_val, Testable}
use denote.Steps.{nothing}
use denote.Struct.Struct.{within}
use denote.Struct.Owning.{shape, to}
use Rattle.core.proofs.alloc.Calls.{α, token, Fits, handle_tells}
use Rattle.core.proofs.atomic.Steps.{Ptr-Good}
use Rattle.std.proofs.GlobalToken.{dealloc_token-Testable}
use Rattle.std_alloc.proofs.BoxSteps.Form.{Bx, τ, R, P, handle, word, box_ty}
use Rattle.std_alloc.specs.Box.Ownership.{box_owns}
use Rattle.std_alloc.proofs.BoxSteps.Steps.{box_out}
use Rattle.std_alloc.proofs.ResultValues.{and_tt}
use Rattle.std_alloc.specs.contracts.boxed.Box as Box
use Rattle.std_heap.specs.contracts.Global as Global
use Rattle.std_heap.specs.contracts.GlobalAllocator.TheImpl.{ghosts, dict}
use Rattle.std_heap.proofs.Global.TheLaws as global_laws
use Rattle.std.specs.declared.option.Option.{Option}
use Rattle.std.specs.declared.option.Option.TheVariants.{None, Some}
use Rattle.c_values.specs.contracts.handle.Handle as Handle

-- the allocator, as what a call passes for a parameter, and that it has nothing to drop
abbrev pub passed_row : RattleType
passed_row = arg (bare (layout Global.the_row)) no Global.the_row

abbrev pub no_drop : Dict
no_drop = impl ("c_values::Destruct++none::drop" ∷ []) (tcons (layout passed_row) tnil) dnil

-- what holds anyway stands beside
pub beside : {M : Type 1} (𝓤 : Ura M) (P Q : SProp 𝓤) → ent 𝓤 (emp 𝓤) Q → ent 𝓤 (sep 𝓤 P (emp 𝓤)) (sep 𝓤 P (sep 𝓤 Q (emp 𝓤)))
beside 𝓤 P Q q = mono_r 𝓤 P (via 𝓤 (sep 𝓤 (emp 𝓤) (emp 𝓤)) (emp∗ 𝓤 (emp 𝓤)) (mono_l 𝓤 (emp 𝓤) q))

module _ (X : RattleType) (L : Laws X) where
  -- a box of such a value
  abbrev pub boxed : Bx
  boxed = record {
    row = X;
    laws = L;
    al =
        record { row = passed_row; laws = arg_laws (bare (layout Global.the_row)) no Global.the_row global_laws.the_row_laws refl; g = ghosts; d = dict; drops = no_drop };
  }

  -- it as a type
  abbrev pub BoxRow : RattleType
  BoxRow = Box.the_row (R boxed) Global.the_row ghosts

  -- a handle of one
  abbrev pub HandleRow : RattleType
  HandleRow = Handle.the_row (R boxed)

  -- a pointer with the allocator, as the machine has them
  abbrev pub handle_word : Ptr → Val → Val
  handle_word p h = vstruct (vcons (ptr_val p) (vcons h vnil))

  pub handle_typed : (p : Ptr) (h : Val) → Fits boxed.al h → T (has_ty (box_ty boxed) (handle_word p h)) × WT (handle_word p h)
  handle_typed null_ptr h fits = (and_tt (has_ty (α boxed.al) h) fits.0, ((Ptr-Good null_ptr).1, (fits.1, tt)))
  handle_typed (block_ptr b o) h fits = (and_tt (has_ty (α boxed.al) h) fits.0, (tt, (fits.1, tt)))

  module _ {M : Type 1} {𝓤 : Ura M} {𝓛 : Logic 𝓤} {K : Type 0} {Γ : List (Item 𝓤)} {G : Goal 𝓤 𝓛.H} where
    -- a handle is one machine value
    pub handle_bits : K → (d : HandleRow.Denot) (vs : List Val)
        → ((h : Val) → vs ≡ handle_word d.ptr h ∷ [] → Fits boxed.al h → Seq K 𝓛 (‵ (HandleRow.own_val d (handle_word d.ptr h ∷ [])) ∷ Γ) G)
        → Seq K 𝓛 (‵ (HandleRow.own_val d vs) ∷ Γ) G
    handle_bits t d vs k =
        fsplit t $ fpick t (λ vss. fsplit t $ feq_l t (λ ev. fsplit t $ feq_l t (λ ep. fsplit t $ handle_tells boxed.al t d.alloc vss.1.0 (λ h ea fits.
        fjoin t $ feq_i t (List Val) (ptr_val d.ptr ∷ []) (ptr_val d.ptr ∷ []) refl $ fjoin t $ feq_i t (List Val) (handle_word d.ptr h ∷ []) (handle_word d.ptr h ∷ []) refl $ fjoin t $
        fpack t (Valss (RawPtr ∷ P boxed ∷ [])) (within (shape (Handle.the_type (R boxed))) (to (Handle.the_type (R boxed)) d) (handle_word d.ptr h ∷ []))
        (ptr_val d.ptr ∷ [], (h ∷ [], tt)) $ fjoin t $
        k h (subst (λ (ws : List Val). vs ≡ vstruct (of_list (ptr_val d.ptr ∷ (ws ++ []))) ∷ []) ea (subst (λ (ps : List Val). vs ≡ vstruct (of_list (ps ++ (vss.1.0 ++ []))) ∷ []) ep ev)) fits))))

    -- a handle of nothing is made of an allocator
    pub null_in : K → (a : Global.the_row.Denot) (h : Val)
        → Step K 𝓛 (‵ (HandleRow.own_val (record { ptr = null_ptr; alloc = a; held = None }) (handle_word null_ptr h ∷ [])) ∷ Γ) G (‵ (handle boxed a h) ∷ Γ) G
    null_in t a h = step (λ s. nothing t $ fpack t (null_ptr ≡ null_ptr) (λ _. ftrue) refl $
        nothing t $ move t (2 ∷ 0 ∷ []) $ fjoin t $ feq_i t (List Val) (ptr_val null_ptr ∷ []) (ptr_val null_ptr ∷ []) refl $ fjoin t $
        feq_i t (List Val) (handle_word null_ptr h ∷ []) (handle_word null_ptr h ∷ []) refl $ fjoin t $
        fpack t (Valss (RawPtr ∷ P boxed ∷ []))
        (within (shape (Handle.the_type (R boxed))) (to (Handle.the_type (R boxed)) (record { ptr = null_ptr; alloc = a; held = None }))
        (handle_word null_ptr h ∷ [])) (ptr_val null_ptr ∷ [], (h ∷ [], tt)) $ fjoin t $ s)

    -- a handle has nothing and is null, or owns what a box owns
    pub handle_out : K → (p : Ptr) (a : Global.the_row.Denot) (held : Option X.Denot) (vs : List Val)
        → ((h : Val) → held ≡ None → vs ≡ handle_word null_ptr h ∷ [] → Fits boxed.al h → Seq K 𝓛 (‵ (handle boxed a h) ∷ Γ) G)
        → ((b o : ℕ) (h : Val) (x : X.Denot) → held ≡ Some x → Testable (block_ptr b o) → vs ≡ word boxed h b o ∷ [] → Fits boxed.al h
        → Seq K 𝓛 (‵ (box_owns (token boxed.al a) (R boxed) (block_ptr b o) x) ∷ ‵ (handle boxed a h) ∷ Γ) G)
        → Seq K 𝓛 (‵ (HandleRow.own_val (record { ptr = p; alloc = a; held = held }) vs) ∷ Γ) G
    handle_out t p a None vs none one =
        fsplit t $ fpick t (λ vss. fsplit t $ feq_l t (λ ev. fsplit t $ feq_l t (λ ep. fsplit t $ handle_tells boxed.al t a vss.1.0 (λ h ea fits. move t (1 ∷ []) $ drop t $ move t (1 ∷ []) $
        fpick t (λ is. drop t $ none h refl
        (subst (λ (q : Ptr). vs ≡ handle_word q h ∷ []) is
        (subst (λ (ws : List Val). vs ≡ vstruct (of_list (ptr_val p ∷ (ws ++ []))) ∷ []) ea (subst (λ (ps : List Val). vs ≡ vstruct (of_list (ps ++ (vss.1.0 ++ []))) ∷ []) ep ev))) fits)))))
    handle_out t p a (Some x) vs none one =
        box_out boxed t (record { ptr = p; alloc = a; value = x }) vs (λ b o h e ws fits. let q : Ptr = block_ptr b o in let free = token boxed.al a (bare (τ boxed)) q in
        move t (1 ∷ []) $ use1 𝓛 (given (Testable q) (‵ free)) (fact_use 𝓤 (Testable q) (dealloc_token-Testable 𝓛 a (bare (τ boxed)) q) (guard_i 𝓤 (Testable q) (sem 𝓛 free))) $
        learn t (λ tested. move t (1 ∷ 0 ∷ []) $ fjoin t $ one b o h x refl tested ws fits))
