-- A handle by value is null and owns nothing, or is a box of what it holds. Assumes `Logic`.
use Rattle.partial_door.proofs.{Common.{◌≡◌, refl, subst, List, [], ◌∷◌, ◌++◌, Ura, T, lit<, Val, WT, has_ty, vstruct, vcons, vnil, vnull, of_list, ent, via, snd∗, fst∗, never, guard, guard_i, Logic, sem, Goal, Seq, Step, step, Item, ‵, given, ◌$◌, move, drop, use1, learn, fsplit, fjoin, fpick, fpack, feq_l, feq_i, fact_use, lone, Valss, nothing, Ptr, Testable, block_ptr, null_ptr, ptr_val, lies_at, in_a_block, Fits, α, handle_tells, Option, None, Some, box_owns, X, R, handle, box_ty, ghosts, full_share, within, shape, fields, to, and_tt, Global, handle_owns}, AsBox.E}
use Prim.Native.Nat.{ℕ}
use mir.Raw.{raw as bare}
use Rattle.std_heap.proofs.GlobalToken.{dealloc_token-Testable}
use Rattle.partial_door.specs.contracts.handle.Handle as Handle

module _ {M : Type 1} {𝓤 : Ura M} (𝓛 : Logic 𝓤) where
  tested : (a : Global) (p : Ptr) (x : X E) → ent 𝓤 (sem 𝓛 (box_owns (ghosts.dealloc_token a) (R E) p x)) (guard 𝓤 (Testable p) (sem 𝓛 (box_owns (ghosts.dealloc_token a) (R E) p x)))
  tested a p x =
      let B = sem 𝓛 (box_owns (ghosts.dealloc_token a) (R E) p x) in
      fact_use 𝓤 (Testable p) (via 𝓤 _ (snd∗ 𝓤 (sem 𝓛 (lies_at (R E) full_share p x)) (sem 𝓛 (ghosts.dealloc_token a (bare (lone (R E).mir)) p)))
      (dealloc_token-Testable 𝓛 a (bare (lone (R E).mir)) p)) (guard_i 𝓤 (Testable p) B)

module _ {M : Type 1} {𝓤 : Ura M} {𝓛 : Logic 𝓤} {K : Type 0} {Γ : List (Item 𝓤)} {G : Goal 𝓤 𝓛.H} where
  -- what a handle owns, by what it holds
  pub owned_out : K → (a : Global) (p : Ptr) (h : Option (X E))
      → (h ≡ None → p ≡ null_ptr → Seq K 𝓛 Γ G)
      → ((b o : ℕ) (x : X E) → h ≡ Some x → p ≡ block_ptr b o → Testable (block_ptr b o)
      → Seq K 𝓛 (‵ (box_owns (ghosts.dealloc_token a) (R E) (block_ptr b o) x) ∷ Γ) G)
      → Seq K 𝓛 (‵ (handle_owns a p h) ∷ Γ) G
  owned_out t a p None none some = feq_l t (λ e. none refl e)
  owned_out t a p (Some x) none some =
      in_a_block t p (λ r. box_owns (ghosts.dealloc_token a) (R E) r x) (fst∗ 𝓤 (never 𝓤) (sem 𝓛 (ghosts.dealloc_token a (bare (lone (R E).mir)) null_ptr)))
      (λ b o e. use1 𝓛 (given (Testable (block_ptr b o)) (‵ (box_owns (ghosts.dealloc_token a) (R E) (block_ptr b o) x))) (tested 𝓛 a (block_ptr b o) x) $
      learn t (λ ok. some b o x refl e ok))

  -- a handle by value is a pointer and the allocator's handle, and owns what it holds
  pub handle_out : K → (d : (Handle.the_row).Denot) (vs : List Val)
      → ((hv : Val) → vs ≡ vstruct (of_list (ptr_val d.ptr ∷ hv ∷ [])) ∷ [] → Fits E.al hv
      → Seq K 𝓛 (‵ (handle_owns d.alloc d.ptr d.held) ∷ ‵ (handle E d.alloc hv) ∷ Γ) G)
      → Seq K 𝓛 (‵ ((Handle.the_row).own_val d vs) ∷ Γ) G
  handle_out t d vs k =
      fsplit t $ fpick t (λ vss. fsplit t $ feq_l t (λ ev. fsplit t $ feq_l t (λ ep. fsplit t $ handle_tells E.al t d.alloc vss.1.0 (λ hv ea fits. move t (1 ∷ []) $ drop t $ move t (1 ∷ []) $
      k hv (subst (λ (ws : List Val). vs ≡ vstruct (of_list (ptr_val d.ptr ∷ (ws ++ []))) ∷ []) ea (subst (λ (ps : List Val). vs ≡ vstruct (of_list (ps ++ (vss.1.0 ++ []))) ∷ []) ep ev)) fits))))

  -- an empty handle by value
  pub null_in : K → (hv : Val) (a : Global)
      → Step K 𝓛 (‵ ((Handle.the_row).own_val (record { ptr = null_ptr; alloc = a; held = None }) (vstruct (vcons vnull (vcons hv vnil)) ∷ [])) ∷ Γ) G (‵ (handle E a hv) ∷ Γ) G
  null_in t hv a = step (λ s. let v : Val = vstruct (vcons vnull (vcons hv vnil)) in
      feq_i t Ptr null_ptr null_ptr refl $ nothing t $ move t (2 ∷ 0 ∷ []) $ fjoin t $ feq_i t (List Val) (vnull ∷ []) (vnull ∷ []) refl $ fjoin t $ feq_i t (List Val) (v ∷ []) (v ∷ []) refl $
      fjoin t $
      fpack t (Valss (fields Handle.the_type)) (within (shape Handle.the_type) (to Handle.the_type (record { ptr = null_ptr; alloc = a; held = None })) (v ∷ [])) (vnull ∷ [], (hv ∷ [], tt)) $
      fjoin t $ s)

pub null_typed : (hv : Val) → Fits E.al hv → T (has_ty (box_ty E) (vstruct (vcons vnull (vcons hv vnil)))) × WT (vstruct (vcons vnull (vcons hv vnil)))
null_typed hv fa = (and_tt (has_ty (α E.al) hv) fa.0, (record { fits = lit< tt }, (fa.1, tt)))
