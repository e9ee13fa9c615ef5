-- The methods of a handle meet their contracts.
use mathlib.Core.Path.{◌≡◌, refl, sym, subst, ap, ◌∙◌}
use mathlib.Core.List.{List, [], ◌∷◌, ◌++◌}
use Rattle.std.proofs.Common.{◌<◌, length, arith, lit<}
use seplogic.Ra.Ura.{Ura}
use mir.Syntax.{Sym, Callee}
use mir.Val.{Val, vstruct, of_list}
use base.Logic.{SProp, ent, emp}
use base.Fml.{ftrue, fsep}
use prog.Model.{Model}
use prog.Wp.{WpFn, Tables}
use types.Logic.{Logic}
use contract.Monad.{fact}
use contract.Running.{Running}
use types.Kit.{Item, ‵, raw, ⋆, ◌⊛◌, ◌$◌, ◌∵◌, !, qed, by, move, keep, drop, join, split, fsplit, fjoin, feq_i, fpack, suffices, rewrite, done}
use types.Part.{whole, sub, agg}
use types.Run.{stop, fld, lit, no_more, and_then, of_opd, returns, enter}
use types.ByLocal.{alloc_all, pass_all, free_all, look_at, get, get_in, sets}
use denote.RattleType.{Valss}
use denote.Builtin.{RawPtr}
use denote.RawPtr.{null_ptr, ptr_val}
use denote.Struct.Struct.{within}
use denote.Steps.{nothing, heard}
use denote.Triple.Walked.{says, ends_at}
use Rattle.std.proofs.alloc.Calls.{handle_tells}
use Rattle.std.proofs.BoxSteps.Form.{Bx, D, B, word, box_typed}
use Rattle.std.proofs.BoxSteps.Steps.{box_out, box_in}
use Rattle.std_alloc.proofs.ResultValues.{and_tt}
use Rattle.std_heap.specs.contracts.Global as Heap
use Rattle.kigvarp_c.proofs.BoxForm.{heap_box}
use Rattle.kigvarp_c.proofs.HandleForm.{HandleForm, handle_fields}
use Rattle.kigvarp_c.proofs.HandleCode.{closing_code, moving_code}
use Rattle.kigvarp_c.proofs.HandleContracts.{making, stayed, PartsRow, parts_name, closed_clauses, of_parts_clauses, into_parts_clauses, walk_tables, walking, MethodMeets, method_meets}

-- the one that is there
headed : {X : Type 0} (xs : List X) → 0 < length xs
    → (x : X) × ((others : List X) × (xs ≡ x ∷ others))
headed [] some = absurd (omega (arith, some))
headed (x ∷ others) some = (x, (others, refl))

module _ (form : HandleForm) {M : Type 1} {𝓤 : Ura M} (𝓛 : Logic 𝓤) where
  open 𝓛 use {H}

  abbrev E : Bx
  E = heap_box form.thing form.laws

  -- two fields are moved, and what they own goes with them
  moving_walk : (𝓣 : Tables 𝓤 H) (from to : Sym) (v : D E) (us : List Val) (Post : Val → SProp 𝓤)
      → ((w : Val) → ent 𝓤 (⋆ 𝓛 (‵ ((B E).own_val v (w ∷ [])) ∷ [])) (Post w))
      → ent 𝓤 (⋆ 𝓛 (‵ ((B E).own_val v us) ∷ []))
      (WpFn 𝓤 H 𝓣.C 𝓣.Λ (moving_code from to) (us ++ []) Post)
  moving_walk 𝓣 from to v us Post ends =
      qed 𝓛 (‵ ((B E).own_val v us) ∷ []) ∵
      box_out E ! v us (λ b o hv e ws fa. box_in E ! v b o v.value e refl $
      let w = word E hv b o in
      let Γ : List (Item 𝓤) = ‵ ((B E).own_val v (w ∷ [])) ∷ [] in
      by ! (subst (λ (us : List Val). ent 𝓤 (⋆ 𝓛 Γ)
      (WpFn 𝓤 H 𝓣.C 𝓣.Λ (moving_code from to) (us ++ []) Post)) (sym ws)
      (qed 𝓛 Γ ∵ enter ! 𝓣.C 𝓣.Λ (moving_code from to) (w ∷ []) _ $
      alloc_all ! (λ ls. pass_all ! refl (box_typed E hv b o fa, tt) $
      sets ! (of_opd ! (get_in ! (fld ! refl (stop !)) (sub ! 0 refl (whole !)))) refl (tt, tt) $
      sets ! (of_opd ! (get_in ! (fld ! refl (stop !)) (sub ! 1 refl (whole !)))) refl fa $
      sets ! (of_opd ! (get ! refl)) refl (tt, tt) $
      sets ! (agg ! (and_then ! (get ! refl) (and_then ! (get ! refl) (no_more !)))) refl
      (box_typed E hv b o fa) $ returns ! (look_at ! 0 refl) $ free_all ! refl $ by ! (ends w)))))

  module _ (𝓜 : Model 𝓤 H) (𝓡 : Running 𝓤 H 𝓜) (key : Callee) where
    abbrev 𝓣 : Tables 𝓤 H
    𝓣 = walk_tables 𝓛 𝓜 𝓡

    -- a handle of the parts' value
    pub of_parts_met : MethodMeets 𝓛 (of_parts_clauses form 𝓤) 𝓜 𝓡 key
        (moving_code (parts_name form) form.name)
    of_parts_met =
        let c = of_parts_clauses form 𝓤 in
        let T = making (PartsRow form) form.row in
        let hs = stayed (PartsRow form) form.row in
        let code = moving_code (parts_name form) form.name in
        method_meets 𝓛 c 𝓜 𝓡 key code (λ x w. refl) (λ y.
        let p = y.0.3.0 in
        let us = y.0.4.0 in
        let v : D E = record { ptr = p.ptr; alloc = p.alloc; value = p.value } in
        let made = form.make p.ptr p.alloc (p.value ∷ []) in
        qed 𝓛 ((‵ ftrue ⊛ ‵ (fsep ((PartsRow form).own_val p us) ftrue)) ∷ raw (emp 𝓤) ∷ []) ∵
        split ! $ drop ! $ fsplit ! $ keep ! (0 ∷ []) $ rewrite ! 0 ‵ (form.parts_own p us) refl $
        by ! (moving_walk 𝓣 (parts_name form) form.name v us ((walking 𝓛 c).post y) (λ w.
        qed 𝓛 (‵ ((B E).own_val v (w ∷ [])) ∷ []) ∵
        rewrite ! 0 ‵ (sym (form.made_owns p.ptr p.alloc (p.value ∷ []) (w ∷ []))) refl $
        suffices ! _ (ends_at 𝓛 T hs c y w made (tt, tt) (tt, tt)) $
        says ! (form.made_things p.ptr p.alloc (p.value ∷ [])) $
        nothing ! $ nothing ! $ fjoin ! $ join ! $ nothing ! $ join ! $ done !)))

    -- the parts of the value that a handle has
    pub into_parts_met : MethodMeets 𝓛 (into_parts_clauses form 𝓤) 𝓜 𝓡 key
        (moving_code form.name (parts_name form))
    into_parts_met =
        let c = into_parts_clauses form 𝓤 in
        let T = making form.row (PartsRow form) in
        let hs = stayed form.row (PartsRow form) in
        let code = moving_code form.name (parts_name form) in
        method_meets 𝓛 c 𝓜 𝓡 key code form.leaves_nothing (λ y.
        let h = y.0.3.0 in
        let us = y.0.4.0 in
        let has_one = 0 < length (form.things h) in
        qed 𝓛 ((‵ ftrue ⊛ ‵ (fsep (form.row.own_val h us) ftrue)) ∷ raw (fact 𝓤 has_one) ∷ []) ∵
        move ! (1 ∷ []) $ heard ! has_one (λ some.
        let found = headed (form.things h) some in
        let v : D E = record { ptr = form.at h; alloc = form.alloc h; value = found.0 } in
        let made : (PartsRow form).Denot = record {
          ptr = v.ptr;
          alloc = v.alloc;
          value = v.value;
        } in
        split ! $ drop ! $ fsplit ! $ keep ! (0 ∷ []) $
        rewrite ! 0 (λ g. ‵ (form.row.own_val g us))
        (form.made h ∙ ap (form.make v.ptr v.alloc) found.1.1) refl $
        rewrite ! 0 ‵ (form.made_owns v.ptr v.alloc (found.0 ∷ found.1.0) us) refl $
        by ! (moving_walk 𝓣 form.name (parts_name form) v us ((walking 𝓛 c).post y) (λ w.
        qed 𝓛 (‵ ((B E).own_val v (w ∷ [])) ∷ []) ∵
        rewrite ! 0 ‵ (sym (form.parts_own made (w ∷ []))) refl $
        suffices ! _ (ends_at 𝓛 T hs c y w made (form.last h, tt) (tt, tt)) $
        says ! found.1 $
        nothing ! $ nothing ! $ fjoin ! $ join ! $ nothing ! $ join ! $ done !))))

    -- a handle of nothing
    pub closed_met : MethodMeets 𝓛 (closed_clauses form 𝓤) 𝓜 𝓡 key (closing_code form.name)
    closed_met =
        let c = closed_clauses form 𝓤 in
        let T = making Heap.the_row form.row in
        let hs = stayed Heap.the_row form.row in
        let code = closing_code form.name in
        method_meets 𝓛 c 𝓜 𝓡 key code (λ x w. refl) (λ y.
        let Post = (walking 𝓛 c).post y in
        let a = y.0.3.0 in
        let us = y.0.4.0 in
        let made = form.make null_ptr a [] in
        qed 𝓛 ((‵ ftrue ⊛ ‵ (fsep ((Heap.the_row).own_val a us) ftrue)) ∷ raw (emp 𝓤) ∷ []) ∵
        split ! $ drop ! $ fsplit ! $ keep ! (0 ∷ []) $ handle_tells E.al ! a us (λ hv ea fa.
        let w : Val = vstruct (of_list (ptr_val null_ptr ∷ hv ∷ [])) in
        let Γ : List (Item 𝓤) = ‵ ((Heap.the_row).own_val a (hv ∷ [])) ∷ [] in
        by ! (subst (λ (us : List Val). ent 𝓤 (⋆ 𝓛 Γ)
        (WpFn 𝓤 H 𝓣.C 𝓣.Λ code (us ++ []) Post)) (sym ea)
        (qed 𝓛 Γ ∵ enter ! 𝓣.C 𝓣.Λ code (hv ∷ []) _ $
        alloc_all ! (λ ls. pass_all ! refl (fa, tt) $
        sets ! (agg ! (and_then ! (lit ! tt) (and_then ! (get ! refl) (no_more !)))) refl
        (and_tt _ fa.0, (record { fits = lit< tt }, (fa.1, tt))) $
        returns ! (look_at ! 0 refl) $ free_all ! refl $
        nothing ! $ nothing ! $ move ! (2 ∷ 0 ∷ []) $ fjoin ! $
        feq_i ! (List Val) (ptr_val null_ptr ∷ []) (ptr_val null_ptr ∷ []) refl $ fjoin ! $
        feq_i ! (List Val) (w ∷ []) (w ∷ []) refl $ fjoin ! $
        fpack ! (Valss (RawPtr ∷ Heap.the_row ∷ []))
        (within handle_fields (null_ptr, (a, tt)) (w ∷ []))
        (ptr_val null_ptr ∷ [], (hv ∷ [], tt)) $ fjoin ! $
        rewrite ! 0 ‵ (sym (form.made_owns null_ptr a [] (w ∷ []))) refl $
        suffices ! _ (ends_at 𝓛 T hs c y w made (tt, tt) (tt, tt)) $
        says ! (form.made_things null_ptr a []) $
        nothing ! $ nothing ! $ fjoin ! $ join ! $ nothing ! $ join ! $ done !)))))
