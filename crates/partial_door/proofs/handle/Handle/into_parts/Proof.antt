-- `into_parts` tests the pointer, and moves the two fields where it isn't null.
use Rattle.partial_door.proofs.{Common.{◌≡◌, refl, sym, subst, List, [], ◌∷◌, ◌++◌, lit<, Ura, Val, vstruct, vcons, vnil, SProp, ent, emp, id⊢, ftrue, fsep, Memory, Routine, WpFn, Tables, Logic, Fun, tables, WpFn-mono, Item, ‵, raw, ◌⊛◌, at_ret, ◌$◌, ◌∵◌, !, qed, by, move, drop, use0, use1, join, split, fsplit, fjoin, suffices, done, whole, sub, agg, stop, fld, lit, no_more, and_then, of_opd, bin, first, branches, exec, returns, enter, alloc_all, pass_all, free_all, look_at, get, get_in, sets, sets_last, env, yes, RattleType, Ptr, block_ptr, null_ptr, ptr_val, tests_null, type_at, nothing, triple_of, entered, says, Stays, stay_dropped, walk_of, ends_at, Goes-dropped, walk_Meets, None, Some, D, word, box_typed, box_in, ghosts, live, layout, after, Some-of, none_of, and_tt}, AsBox.{E, FromHandle as From}, HandleSteps.{handle_out, owned_out, null_typed}}
use contract.Running.{tables_of}
use Rattle.core.proofs.cell.Inside.{Good}
use Rattle.std_heap.specs.contracts.Global as Heap
use Rattle.partial_door.specs.contracts.held.Held as Held
use Rattle.partial_door.specs.contracts.parts.Parts as Parts
use Rattle.partial_door.specs.contracts.handle.Handle as Handle
use Rattle.partial_door.specs.contracts.handle.Handle.into_parts as F
use Rattle.partial_door.specs.contracts.handle.Handle.into_parts.Key.{name as #self}
use Rattle.partial_door.proofs.handle.Handle.into_parts.Statement as stated
use Rattle.partial_door.proofs.handle.Handle.into_parts.Code as code

abbrev stayed : Stays (F.ended).signature.params (F.ended).kept
stayed = (stay_dropped From yes, tt)

abbrev Piece : RattleType
Piece = Parts.the_row Held.the_row Heap.the_row ghosts

module _ {M : Type 1} {𝓤 : Ura M} (𝓛 : Logic 𝓤) (at_mem : Memory → SProp 𝓤) (run : Routine → Fun 𝓤) (𝓣 : Tables 𝓤 𝓛.H) where
  open 𝓛 use {H}

  abbrev After : (z : (walk_of 𝓛 F.ended stayed (F.clauses 𝓛 at_mem run)).Ghost) → Val → SProp 𝓤
  After z = (walk_of 𝓛 F.ended stayed (F.clauses 𝓛 at_mem run)).post z

  abbrev Runs : (z : (walk_of 𝓛 F.ended stayed (F.clauses 𝓛 at_mem run)).Ghost) → List Val → SProp 𝓤
  Runs z us = WpFn 𝓤 H 𝓣.C 𝓣.Λ code.function (us ++ []) (After z)

  walk : (z : (walk_of 𝓛 F.ended stayed (F.clauses 𝓛 at_mem run)).Ghost) → ent 𝓤 ((walk_of 𝓛 F.ended stayed (F.clauses 𝓛 at_mem run)).pre z) (Runs z z.0.4.0)
  walk z =
      let d = z.0.3.0 in
      let fn = code.function in
      let Out : RattleType = type_at (F.signature).result tt in
      let words = λ (p : Ptr) (hv : Val). vstruct (vcons (ptr_val p) (vcons hv vnil)) ∷ [] in
      qed 𝓛 ((‵ ftrue ⊛ ‵ (fsep ((Handle.the_row).own_val d z.0.4.0) ftrue)) ∷ raw (emp 𝓤) ∷ []) ∵ split ! $ drop ! $ fsplit ! $
      handle_out ! d z.0.4.0 (λ hv ws fa. owned_out ! d.alloc d.ptr d.held
      (λ is e. drop ! $ drop ! $ drop ! $
      let at_null = subst (λ (p : Ptr). z.0.4.0 ≡ words p hv) e ws in
      let w : Val = vstruct (vcons (ptr_val null_ptr) (vcons hv vnil)) in
      by ! (subst (λ (us : List Val). ent 𝓤 (types.Kit.⋆ 𝓛 []) (Runs z us)) (sym at_null)
      (qed 𝓛 [] ∵ enter ! 𝓣.C 𝓣.Λ fn (w ∷ []) _ $ alloc_all ! (λ ls. pass_all ! refl (null_typed hv fa, tt) $ let Ev = env fn.locals ls in
      sets ! (of_opd ! (get_in ! (fld ! refl (stop !)) (sub ! 0 refl (whole !)))) refl (tt, record { fits = lit< tt }) $
      sets ! (of_opd ! (get_in ! (fld ! refl (stop !)) (sub ! 1 refl (whole !)))) refl fa $
      sets ! (bin ! (get ! refl) (lit ! tt) tt) refl (tt, tt) $ first ! $ branches ! (get ! refl)
      (λ _. sets_last ! (agg ! (and_then ! (lit ! tt) (no_more !))) refl (tt, (record { fits = lit< tt }, tt)) $ exec ! 𝓣.C 𝓣.Λ Ev (after 4 fn.body) (at_ret Ev (After z)) $
      sets ! (of_opd ! (get ! refl)) refl (tt, (record { fits = lit< tt }, tt)) $
      use0 𝓛 (‵ (Out.own_val None (live 0 vnil ∷ []))) (none_of 𝓛 Piece) $ returns ! (look_at ! 0 refl) $ free_all ! refl $
      suffices ! _ (ends_at 𝓛 F.ended stayed (F.clauses 𝓛 at_mem run) z (live 0 vnil) None (tt, tt) (tt, tt)) $ says ! is $
      nothing ! $ nothing ! $ fjoin ! $ join ! $ nothing ! $ join ! $ done !)
      (λ wrong. absurd wrong)))))
      (λ b o x is e ok. fsplit ! $
      let v : D E = record { ptr = block_ptr b o; alloc = d.alloc; value = x } in
      let made : Piece.Denot = record { ptr = block_ptr b o; alloc = d.alloc; value = x } in
      let w : Val = word E hv b o in
      let typed = box_typed E hv b o fa in
      let held : Val = live 1 (vcons w vnil) in
      let good : Good (layout Out) held = (and_tt _ typed.0, (record { fits = lit< tt }, (typed.1, tt))) in
      let at_block = subst (λ (p : Ptr). z.0.4.0 ≡ words p hv) e ws in
      box_in E ! v b o x refl refl $ use1 𝓛 (‵ (Piece.own_val made (w ∷ []))) (id⊢ 𝓤 _) $ move ! (1 ∷ 2 ∷ []) $ drop ! $ drop ! $
      let Γ : List (Item 𝓤) = ‵ (Piece.own_val made (w ∷ [])) ∷ [] in
      by ! (subst (λ (us : List Val). ent 𝓤 (types.Kit.⋆ 𝓛 Γ) (Runs z us)) (sym at_block)
      (qed 𝓛 Γ ∵ enter ! 𝓣.C 𝓣.Λ fn (w ∷ []) _ $ alloc_all ! (λ ls. pass_all ! refl (typed, tt) $ let Ev = env fn.locals ls in
      sets ! (of_opd ! (get_in ! (fld ! refl (stop !)) (sub ! 0 refl (whole !)))) refl (tt, tt) $ sets ! (of_opd ! (get_in ! (fld ! refl (stop !)) (sub ! 1 refl (whole !)))) refl fa $
      sets ! (bin ! (get ! refl) (lit ! tt) (tests_null (block_ptr b o) ok)) refl (tt, tt) $ first ! $ branches ! (get ! refl)
      (λ wrong. absurd wrong)
      (λ _. sets ! (of_opd ! (get ! refl)) refl (tt, tt) $ sets ! (agg ! (and_then ! (get ! refl) (and_then ! (get ! refl) (no_more !)))) refl typed $
      sets_last ! (agg ! (and_then ! (lit ! tt) (and_then ! (get ! refl) (no_more !)))) refl good $ exec ! 𝓣.C 𝓣.Λ Ev (after 4 fn.body) (at_ret Ev (After z)) $
      sets ! (of_opd ! (get ! refl)) refl good $
      use1 𝓛 (‵ (Out.own_val (Some made) (held ∷ []))) (Some-of 𝓛 Piece made w) $ returns ! (look_at ! 0 refl) $ free_all ! refl $
      suffices ! _ (ends_at 𝓛 F.ended stayed (F.clauses 𝓛 at_mem run) z held (Some made) (tt, tt) (tt, tt)) $ says ! is $
      nothing ! $ nothing ! $ fjoin ! $ join ! $ nothing ! $ join ! $ done !))))))

pub into_parts_spec : {M : Type 1} → stated.statement M
unfolding tables_of
into_parts_spec 𝓤 𝓛 𝓜 𝓡 wired =
    let 𝓣 : Tables 𝓤 𝓛.H = tables_of 𝓤 𝓛.H 𝓜 (tables 𝓤 𝓛.H 𝓜 𝓡 𝓡.env) in
    entered 𝓤 𝓛.H (triple_of 𝓛 F.signature (F.spec 𝓛 𝓜.mem 𝓡.returns)) 𝓣.C 𝓣.Λ #self code.function (code.unfolded 𝓤 𝓛.H 𝓜 𝓡 wired)
    (walk_Meets 𝓛 F.ended stayed (Goes-dropped 𝓛 0 From yes (λ κs x f. refl), tt) (F.clauses 𝓛 𝓜.mem 𝓡.returns) (WpFn 𝓤 𝓛.H 𝓣.C 𝓣.Λ code.function) (WpFn-mono 𝓤 𝓛.H 𝓛.laws 𝓣 code.function)
    (walk 𝓛 𝓜.mem 𝓡.returns 𝓣))
