-- `held` lends what the pointer refers to, where that isn't null, and the handle follows it.
use Rattle.partial_door.proofs.{Common.{◌≡◌, refl, sym, subst, List, [], ◌∷◌, Ura, lit<, named, Val, vptr, vnull, vstruct, vcons, vnil, SProp, ent, sep, emp, via, fst∗, id⊢, Lft, GName, Share, Fml, ftrue, flft, fres, fsep, Memory, Routine, Env, WpFn, Tables, Logic, sem, Fun, tables, WpFn-mono, ‵, raw, ◌⊛◌, some, later, at_ret, ◌$◌, ◌∵◌, !, qed, by, move, keep, drop, split, split3, join, group, frame, rewrite, fsplit, fsplit3, fjoin, fpack, pick, suffices, use0, use1, await, done, agg, look_in, sub, whole, stop, fld, load, addr, lit, of_opd, no_more, and_then, bin, first, blocks, branches, skips, exec, returns, returns_within, enter, alloc_all, pass_all, free_all, look_at, get, through, sets, sets_last, env, no, RattleType, owns, Ptr, block_ptr, ptr_val, tests_null, mem, cell_at, part_at, plain, type_at, mut_ref_to, nothing, opens, closes, Clauses, at_exit, triple_of, entered, says, Stays, stay_dropped, walk_of, ends_at, walked, walk_Meets, Goes-spent_ref, Option, None, Some, X, R, τ, handle, word, box_in, ghosts, full_share, live, Some-of, none_of, after}, AsBox.E, HandleSteps.{handle_out, owned_out, null_in}}
use Prim.Native.Nat.{ℕ}
use mir.Raw.{raw as bare}
use contract.Running.{tables_of}
use denote.{Ref.{MutRef, MutBor, mut_vals, mut_Tells}, Memory.part_of, Follow.{follows, follows_by, lends_Part}}
use denote.Triple.Entry.{on_entry}
use Rattle.partial_door.specs.Lending.{with_held}
use Rattle.partial_door.specs.contracts.held.Held as Held
use Rattle.partial_door.specs.contracts.handle.Handle as Handle
use Rattle.partial_door.specs.contracts.handle.Handle.held as F
use Rattle.partial_door.specs.contracts.handle.Handle.held.Key.{name as #self}
use Rattle.partial_door.proofs.handle.Handle.held.Statement as stated
use Rattle.partial_door.proofs.handle.Handle.held.Code as code

abbrev Self : RattleType
Self = Handle.the_row

abbrev stayed : Stays (F.ended).signature.params (F.ended).kept
stayed = (stay_dropped (mut_ref_to (0 ∷ []) tt (plain (λ _. Self))) no, tt)

module _ {M : Type 1} {𝓤 : Ura M} (𝓛 : Logic 𝓤) (at_mem : Memory → SProp 𝓤) (run : Routine → Fun 𝓤) (κ : Lft) (q : Share) (rb ro : ℕ) (γ : GName) (h : Self.Denot) where
  open 𝓛 use {H, A}

  abbrev clauses : Clauses 𝓤 F.ended
  clauses = F.clauses 𝓛 at_mem run

  -- the reference to the handle, as it was passed
  abbrev passed : MutBor Self.Denot
  passed = record { ref_ptr = (rb, ro); ghost_name = γ; now = h }

  abbrev bound : (walk_of 𝓛 F.ended stayed clauses).Ghost
  bound = (((κ, tt), (q, tt), tt, (passed, tt), (vptr rb ro ∷ [], tt)), tt)

  abbrev Post : Val → SProp 𝓤
  Post = (walk_of 𝓛 F.ended stayed clauses).post bound

  abbrev Lent : RattleType
  Lent = MutRef (named 0) κ Held.the_row

  abbrev Out : RattleType
  Out = type_at (F.signature).result (κ, tt)

  -- the result r, as the value v, with what the contract says of it
  leaves : (v : Val) (r : Out.Denot) (P : SProp 𝓤) → ent 𝓤 P ((clauses (κ, tt) (passed, tt)).ensures tt r (at_exit F.ended (κ, tt) (passed, tt) (tt, tt)))
      → ent 𝓤 (sep 𝓤 (sem 𝓛 (Out.own_val r (v ∷ []))) (sep 𝓤 (A.lft κ q) P)) (Post v)
  leaves v r P says_so =
      qed 𝓛 (‵ (Out.own_val r (v ∷ [])) ∷ ‵ (flft κ q) ∷ raw P ∷ []) ∵
      suffices ! _ (ends_at 𝓛 F.ended stayed clauses bound v r (tt, tt) (tt, tt)) $
      nothing ! $ nothing ! $ fjoin ! $ join ! $ nothing ! $ move ! (2 ∷ 0 ∷ []) $ join ! $ join ! $ frame ! $ by ! says_so

  module _ (b o : ℕ) (hv : Val) where
    -- all of the handle but what it holds
    abbrev Rest : Fml
    Rest = fsep (fsep (ghosts.dealloc_token h.alloc (bare (τ E)) (block_ptr b o)) (handle E h.alloc hv)) (cell_at full_share Self.mir (word E hv b o ∷ []) rb ro)

    back : h.ptr ≡ block_ptr b o → (x : X E) → ent 𝓤 (sep 𝓤 (sem 𝓛 ((mem Held.the_row).own_at x b o)) (sem 𝓛 Rest)) (sem 𝓛 ((mem Self).own_at (with_held h x) rb ro))
    unfolding part_of
    back at_b x =
        qed 𝓛 (‵ (part_at (R E) full_share x b o) ∷ ‵ Rest ∷ []) ∵ move ! (1 ∷ []) $ fsplit ! $ fsplit ! $ move ! (3 ∷ []) $
        box_in E ! (record { ptr = h.ptr; alloc = h.alloc; value = x }) b o x at_b refl $
        use1 𝓛 (‵ (Self.own_val (with_held h x) (word E hv b o ∷ []))) (id⊢ 𝓤 _) $ move ! (1 ∷ 0 ∷ []) $ fjoin ! $
        fpack ! (List Val) (λ us. fsep (cell_at full_share Self.mir us rb ro) (Self.own_val (with_held h x) us)) (word E hv b o ∷ []) $ done !

  abbrev words : Val → Ptr → List Val
  words hv p = vstruct (vcons (ptr_val p) (vcons hv vnil)) ∷ []

  module _ (𝓣 : Tables 𝓤 H) where
    walk : ent 𝓤 (on_entry 𝓛 (F.ended).signature (κ, tt) (q, tt) (passed, tt) (vptr rb ro ∷ [], tt)) (WpFn 𝓤 H 𝓣.C 𝓣.Λ code.function (vptr rb ro ∷ []) Post)
    unfolding follows_by
    walk =
        let fn = code.function in
        qed 𝓛 ((‵ (flft κ q) ⊛ ‵ ftrue) ∷ ‵ (owns (MutRef (named 0) κ Self ∷ []) (passed, tt) (vptr rb ro ∷ [], tt)) ∷ []) ∵
        enter ! 𝓣.C 𝓣.Λ fn (vptr rb ro ∷ []) _ $
        alloc_all ! (λ l. pass_all ! refl ((tt, tt), tt) $
        let En : Env 𝓤 H = env fn.locals l in
        move ! (1 ∷ []) $ fsplit ! $ fsplit3 ! $ drop ! $ move ! (3 ∷ []) $ split ! $ move ! (2 ∷ 3 ∷ 0 ∷ []) $
        opens ! tt Self {h = h} rb ro (λ vs. move ! (1 ∷ []) $ handle_out ! h vs (λ hv ws fits.
        owned_out ! h.alloc h.ptr h.held
        (λ is e.
        let none : Val = vstruct (vcons vnull (vcons hv vnil)) in
        rewrite ! 1 (λ (us : List Val). ‵ (cell_at full_share Self.mir us rb ro)) (subst (λ (p : Ptr). vs ≡ words hv p) e ws) refl $
        sets ! (of_opd ! (load ! (through ! refl (fld ! refl (stop !))) (look_in ! 1 (sub ! 0 refl (whole !))))) refl (tt, record { fits = lit< tt }) $
        sets ! (of_opd ! (get ! refl)) refl (tt, record { fits = lit< tt }) $
        sets ! (bin ! (get ! refl) (lit ! tt) tt) refl (tt, tt) $ first ! $ branches ! (get ! refl)
        (λ _. sets ! (agg ! (and_then ! (lit ! tt) (no_more !))) refl (tt, (record { fits = lit< tt }, tt)) $
        null_in ! hv h.alloc $
        rewrite ! 0 (λ (p : Ptr). ‵ (Self.own_val (record { ptr = p; alloc = h.alloc; held = None }) (none ∷ []))) (sym e) refl $
        rewrite ! 0 (λ (x : Option (X E)). ‵ (Self.own_val (record { ptr = h.ptr; alloc = h.alloc; held = x }) (none ∷ []))) (sym is) refl $
        move ! (1 ∷ 0 ∷ 2 ∷ 3 ∷ 4 ∷ []) $ closes ! tt Self h (none ∷ []) rb ro $
        use1 𝓛 (‵ (fres γ (Self.coded.code h))) (𝓛.names.obs-res γ (Self.coded.code h)) $
        use0 𝓛 (‵ (Out.own_val None (live 0 vnil ∷ []))) (none_of 𝓛 Lent) $
        returns_within ! Post refl (look_at ! 0 refl) $ free_all ! refl $ keep ! (0 ∷ 3 ∷ 1 ∷ []) $
        by ! (leaves (live 0 vnil) None (A.res γ (Self.coded.code h)) (qed 𝓛 (‵ (fres γ (Self.coded.code h)) ∷ []) ∵ says ! is $ done !)))
        (λ wrong. absurd wrong))
        (λ b o x is e ok.
        rewrite ! 2 (λ (us : List Val). ‵ (cell_at full_share Self.mir us rb ro)) (subst (λ (p : Ptr). vs ≡ words hv p) e ws) refl $
        fsplit ! $ move ! (1 ∷ 2 ∷ []) $ fjoin ! $ move ! (1 ∷ []) $
        sets ! (of_opd ! (load ! (through ! refl (fld ! refl (stop !))) (look_in ! 2 (sub ! 0 refl (whole !))))) refl (tt, tt) $
        sets ! (of_opd ! (get ! refl)) refl (tt, tt) $
        sets ! (bin ! (get ! refl) (lit ! tt) (tests_null (block_ptr b o) ok)) refl (tt, tt) $ first ! $ branches ! (get ! refl)
        (λ wrong. absurd wrong)
        (λ _. skips ! $ exec ! 𝓣.C 𝓣.Λ En (after 4 fn.body) (at_ret En Post) $
        first ! $ blocks ! $ sets ! (addr ! (through ! refl (stop !))) refl (tt, tt) $
        sets_last ! (agg ! (and_then ! (lit ! tt) (and_then ! (get ! refl) (no_more !)))) refl (tt, (record { fits = lit< tt }, (tt, tt))) $
        exec ! 𝓣.C 𝓣.Λ En (after 5 fn.body) (at_ret En Post) $ sets ! (of_opd ! (get ! refl)) refl (tt, (record { fits = lit< tt }, (tt, tt))) $
        move ! (1 ∷ 2 ∷ []) $ fjoin ! $ move ! (2 ∷ 3 ∷ 4 ∷ 1 ∷ 0 ∷ []) $ group ! 5 $
        use1 𝓛 (later (some (λ (γ' : GName).
        ‵ (Lent.own_val (record { ref_ptr = (b, o); ghost_name = γ'; now = x }) (vptr b o ∷ [])) ⊛ ‵ (flft κ q) ⊛ ‵ (follows Self Held.the_row γ γ' (with_held h)))))
        (lends_Part 𝓛 Self Held.the_row (with_held h) (named 0) κ q rb ro b o γ (sem 𝓛 (Rest b o hv)) (back b o hv e) (Self.coded.code h) (Self.coded.code h) x) $ await ! tt $ pick ! (λ γ'.
        let r : MutBor (X E) = record { ref_ptr = (b, o); ghost_name = γ'; now = x } in
        let follow : Fml = follows Self Held.the_row γ γ' (with_held h) in
        split3 ! $ use1 𝓛 (‵ (Out.own_val (Some r) (live 1 (vcons (vptr b o) vnil) ∷ []))) (Some-of 𝓛 Lent r (vptr b o)) $
        returns ! (look_at ! 0 refl) $ free_all ! refl $ keep ! (0 ∷ 1 ∷ 2 ∷ []) $
        by ! (leaves (live 1 (vcons (vptr b o) vnil)) (Some r) (sem 𝓛 follow) (qed 𝓛 (‵ follow ∷ []) ∵ says ! is $ done !))))))))

pub held_spec : {M : Type 1} → stated.statement M
unfolding tables_of
held_spec 𝓤 𝓛 𝓜 𝓡 wired =
    let 𝓣 : Tables 𝓤 𝓛.H = tables_of 𝓤 𝓛.H 𝓜 (tables 𝓤 𝓛.H 𝓜 𝓡 𝓡.env) in
    let run = WpFn 𝓤 𝓛.H 𝓣.C 𝓣.Λ code.function in
    entered 𝓤 𝓛.H (triple_of 𝓛 F.signature (F.spec 𝓛 𝓜.mem 𝓡.returns)) 𝓣.C 𝓣.Λ #self code.function (code.unfolded 𝓤 𝓛.H 𝓜 𝓡 wired)
    (walk_Meets 𝓛 F.ended stayed (Goes-spent_ref 𝓛 1 (0 ∷ []) tt (plain (λ _. Self)), tt) (F.clauses 𝓛 𝓜.mem 𝓡.returns) run (WpFn-mono 𝓤 𝓛.H 𝓛.laws 𝓣 code.function)
    (walked 𝓛 F.ended stayed (F.clauses 𝓛 𝓜.mem 𝓡.returns) run (λ κs. (mut_vals, tt)) (λ κs. (mut_Tells (named 0) κs.0 Self, tt))
    (λ κs qs bounds a g are. via 𝓤 _ (fst∗ 𝓤 _ (emp 𝓤)) (walk 𝓛 𝓜.mem 𝓡.returns κs.0 qs.0 a.0.ref_ptr.0 a.0.ref_ptr.1 a.0.ghost_name a.0.now 𝓣))))
