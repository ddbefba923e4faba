-- A pointer and an allocator that go from one struct to another, with what is owned beside them.
use Rattle.std.proofs.Common.{◌≡◌, List, [], ◌∷◌, ◌++◌, refl, sym, subst}
use mir.Syntax.{Sym, Ty, ty_ptr, ty_struct, tcons, tnil, Callee, Fn, value_local, local, place, field, copy, rv_opd, aggregate, assign, seq, return}
use mir.Val.{Val}
use seplogic.Ra.Ura.{Ura}
use base.Logic.{SProp, ent, emp, id⊢}
use base.Fml.{Fml, ftrue}
use contract.Monad.{fact}
use contract.Running.{Running, tables}
use prog.Model.{Model}
use prog.Wp.{WpFn, Closed}
use types.Logic.{Logic}
use types.Kit.{‵, raw, ◌⊛◌, ◌$◌, ◌∵◌, !, qed, drop, keep, join, rewrite, split, fsplit, fjoin, suffices, done}
use types.Part.{whole, sub, agg}
use types.Run.{stop, fld, no_more, and_then, of_opd, returns, enter}
use types.ByLocal.{alloc_all, pass_all, free_all, look_at, get, get_in, sets}
use denote.Exit.{Last, yes}
use denote.Param.{layout}
use denote.Param.Laws.{Laws}
use denote.RattleType.{RattleType, owns}
use denote.Signature.{types_at, plain}
use denote.Steps.{nothing}
use denote.Triple.Clauses.{Ended, Clauses, closing}
use denote.Triple.Spec.{Meets}
use denote.Triple.Walked.{Stays, Silent, stay_dropped, walk_of, Goes-dropped, ends_at, says}
use Rattle.core.proofs.atomic.Steps.{Ptr-Good}
use Rattle.std.proofs.raw_atomic.Walks.{proved_at}
use Rattle.std_heap.specs.contracts.Global as Global
use Rattle.c_values.proofs.Rows.{HandleRow, handle_word, handle_typed, handle_bits}

-- a struct of a pointer and an allocator, as the machine has it
abbrev pair : Sym → Ty
pair name = ty_struct name (tcons ty_ptr (tcons (layout Global.the_row) tnil))

-- the code that takes one such struct apart and makes another of its fields
abbrev pub moving : Sym → Sym → Fn
moving from to = record {
  lifetimes = 0;
  outlives = [];
  ty_params = [];
  givens = 0;
  params = 1;
  locals = local (pair to) value_local ∷ local (pair from) value_local ∷ local ty_ptr value_local ∷ local (layout Global.the_row) value_local ∷ local ty_ptr value_local ∷ [];
  body = seq (assign (place 2 []) (rv_opd (copy (place 1 (field 0 ∷ []))))) (seq (assign (place 3 []) (rv_opd (copy (place 1 (field 1 ∷ [])))))
      (seq (assign (place 4 []) (rv_opd (copy (place 2 [])))) (seq (assign (place 0 []) (aggregate (copy (place 4 []) ∷ copy (place 3 []) ∷ []))) return)));
}

-- from one type to another, each of which owns what a handle does that is seen in the first
module _ (X : RattleType) (L : Laws X) (From To : RattleType) (Told : From.Denot → To.Denot → Type 0) where
  abbrev pub one_to_one : Ended
  one_to_one = record { signature = record { lifetimes = 0; outlives = []; params = plain (λ _. From) ∷ []; result = plain (λ _. To) }; kept = (yes, tt) }

  -- the contract that says this of the result
  abbrev pub telling : {M : Type 1} (𝓤 : Ura M) → Clauses 𝓤 one_to_one
  telling 𝓤 κs a = record { ghost = Unit {0}; requires = λ _. emp 𝓤; ensures = λ _ r _. fact 𝓤 (Told a.0 r) }

  abbrev stayed : Stays one_to_one.signature.params one_to_one.kept
  stayed = (stay_dropped (plain (λ _. From)) yes, tt)

  -- the code meets it: the two fields are moved, and what is owned goes with them
  pub moved : (seen : From.Denot → (HandleRow X L).Denot) (made : From.Denot → To.Denot)
      → ((d : From.Denot) (vs : List Val) → From.own_val d vs ≡ (HandleRow X L).own_val (seen d) vs)
      → ((d : From.Denot) (vs : List Val) → (HandleRow X L).own_val (seen d) vs ≡ To.own_val (made d) vs)
      → ((d : From.Denot) → Told d (made d)) → ((d : From.Denot) → Last (From.exit yes) d)
      → (from to : Sym) {M : Type 1} (𝓤 : Ura M) (𝓛 : Logic 𝓤) (𝓜 : Model 𝓤 𝓛.H) (𝓡 : Running 𝓤 𝓛.H 𝓜) → Silent 𝓛 0 (plain (λ _. From)) yes → (k : Callee)
      → Closed 𝓤 𝓛.H (tables 𝓤 𝓛.H 𝓜 𝓡 𝓡.env).C (tables 𝓤 𝓛.H 𝓜 𝓡 𝓡.env).Λ k (moving from to)
      → Meets 𝓛 one_to_one.signature ((tables 𝓤 𝓛.H 𝓜 𝓡 𝓡.env).C k) (closing 𝓛 one_to_one (telling 𝓤))
  moved seen made opens closes told last from to 𝓤 𝓛 𝓜 𝓡 silent k closed =
      let c = telling 𝓤 in let 𝓣 = tables 𝓤 𝓛.H 𝓜 𝓡 𝓡.env in let fn = moving from to in
      proved_at 𝓛 one_to_one stayed c 𝓜 𝓡 (Goes-dropped 𝓛 0 (plain (λ _. From)) yes silent, tt) k fn closed (λ z are.
      let d = z.0.3.0 in let p = (seen d).ptr in let good = Ptr-Good p in
      let Post : Val → SProp 𝓤 = (walk_of 𝓛 one_to_one stayed c).post z in
      let Run : List Val → SProp 𝓤 = λ ws. WpFn 𝓤 𝓛.H 𝓣.C 𝓣.Λ fn ws Post in
      qed 𝓛 ((‵ ftrue ⊛ ‵ (owns (types_at one_to_one.signature.params z.0.0) z.0.3 z.0.4)) ∷ raw ((c z.0.0 z.0.3).requires z.1) ∷ []) ∵
      split ! $ drop ! $ fsplit ! $ rewrite ! 0 (λ (F : Fml). ‵ F) (opens d z.0.4.0) refl $ handle_bits X L ! (seen d) z.0.4.0 (λ h ws fits.
      let w : Val = handle_word X L p h in let typed = handle_typed X L p h fits in
      rewrite ! 0 (λ (F : Fml). ‵ F) (closes d (w ∷ [])) refl $ keep ! (0 ∷ []) $
      suffices ! (Run (w ∷ [])) (subst (λ (us : List Val). ent 𝓤 (Run (w ∷ [])) (Run us)) (sym (λ i. ws i ++ [])) (id⊢ 𝓤 (Run (w ∷ [])))) $
      enter ! 𝓣.C 𝓣.Λ fn (w ∷ []) Post $ alloc_all ! (λ l. pass_all ! refl (typed, tt) $
      sets ! (of_opd ! (get_in ! (fld ! refl (stop !)) (sub ! 0 refl (whole !)))) refl good $
      sets ! (of_opd ! (get_in ! (fld ! refl (stop !)) (sub ! 1 refl (whole !)))) refl fits $
      sets ! (of_opd ! (get ! refl)) refl good $
      sets ! (agg ! (and_then ! (get ! refl) (and_then ! (get ! refl) (no_more !)))) refl typed $
      returns ! (look_at ! 0 refl) $ free_all ! refl $
      suffices ! _ (ends_at 𝓛 one_to_one stayed c z w (made d) (last d, tt) (tt, tt)) $ says ! (told d) $
      nothing ! $ nothing ! $ fjoin ! $ join ! $ nothing ! $ join ! $ done !)))
