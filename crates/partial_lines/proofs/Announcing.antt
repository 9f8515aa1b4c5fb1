-- The announcement of a scan in straight lines: which store is due, and where its answer leads.
use Rattle.partial_words.specs.Layout.{slot_counter}
use Rattle.partial_lines.proofs.Common.{ℕ, lt-ltb, ◌≡◌, ◌+◌, ◌<◌, ◌≤◌, ◌==◌, Bool, true, false, if◌then◌else◌, length, Some, refl, sym, ap, ◌∙◌, arith, slice_index, ne_eqb, eq-eqb, eqb-true, eqb-false, le-ltb, pool_end, Stage, ScanBegun, StoringAnnouncement, CoreState, advance, advance_at, at_stage, begin_joining, pool_refused, step_of, announcing_scan, Add, Store, announcement_block, announcement_size}

abbrev either : CoreState → ℕ → ℕ → Bool → CoreState
either s at k b = if b then begin_joining s at else at_stage s (StoringAnnouncement at k)

pub storing : (s d : CoreState) (at k : ℕ) → d ≡ announcing_scan s at k → k < announcement_size (length s.asked) → d ≡ at_stage s (StoringAnnouncement at k)
storing s d at k is less = is ∙ ap (either s at k) (ne_eqb k (announcement_size (length s.asked)) (λ e. omega (arith, e, less)))

module _ (s d : CoreState) (at k : ℕ) (storing : d ≡ at_stage s (StoringAnnouncement at k)) where
  pub store_due : (word : ℕ) → word ≡ slice_index (announcement_block s.asked) k → step_of d ≡ Some (Store (at + k) word)
  store_due word e = ap step_of storing ∙ ap (λ v. Some (Store (at + k) v)) (sym e)

  same_end : (b : Bool) → (k == length s.asked) ≡ b → b ≡ (k + 1 == announcement_size (length s.asked))
  same_end true e = let last = eqb-true k (length s.asked) e in sym (eq-eqb (k + 1) (announcement_size (length s.asked)) (omega (arith, last)))
  same_end false e = let more = eqb-false k (length s.asked) e in sym (ne_eqb (k + 1) (announcement_size (length s.asked)) (λ e'. more (omega (arith, e'))))

  pub store_then : (v : CoreState) (a : ℕ) → v ≡ advance d a → v ≡ announcing_scan s at (k + 1)
  store_then v a thereafter = thereafter ∙ ap (λ (t : CoreState). advance t a) storing ∙ ap (either s at (k + 1)) (same_end (k == length s.asked) refl)

-- its words are past the end of the pool
pub not_fitting : (s d : CoreState) (at : ℕ) → d ≡ advance s at → s.stage ≡ ScanBegun → pool_end s.sizes < at + announcement_size (length s.asked) → d ≡ pool_refused s
not_fitting s d at is begun past =
    is ∙ ap (λ (t : Stage). advance_at s t at) begun ∙ ap (λ (b : Bool). if b then at_stage s (StoringAnnouncement at 0) else pool_refused s)
    (le-ltb (at + announcement_size (length s.asked)) (pool_end s.sizes + 1) (omega (arith, past)))

-- they are not, and the first store is due
pub fitting : (s d : CoreState) (at : ℕ) → d ≡ advance s at → s.stage ≡ ScanBegun → at + announcement_size (length s.asked) ≤ pool_end s.sizes → d ≡ at_stage s (StoringAnnouncement at 0)
fitting s d at is begun within =
    is ∙ ap (λ (t : Stage). advance_at s t at) begun ∙ ap (λ (b : Bool). if b then at_stage s (StoringAnnouncement at 0) else pool_refused s)
    (lt-ltb (at + announcement_size (length s.asked)) (pool_end s.sizes + 1) (omega (arith, within)))

-- after the last store the claim of a slot is due
pub slot_due : (s d : CoreState) (at : ℕ) → d ≡ begin_joining s at → (w : ℕ) → w ≡ slot_counter s.sizes → step_of d ≡ Some (Add w 1)
slot_due s d at is w here = ap step_of is ∙ ap (λ v. Some (Add v 1)) (sym here)
