-- The word of a step that is due is one of the words.
use Rattle.partial_machine.proofs.Sound.{size_few, record_step_cases}
use Rattle.partial_machine.proofs.Common.{◌+◌, ℕ, ◌≡◌, ◌<◌, Bool, true, false, if◌then◌else◌, Option, Some, None, List, slice_index, sym, ap, subst, arith, IfSome, IsTrue, ltb-true, Step, Store, Layout, IsLayout, slot_word, total, word_of, fits_join, join_step, JoinStage, Claiming, Storing, Joined, Spent, Stage, CoreState, getting, scanning, step_at, IsSound, is_sound_at, DueWordsAreThere, record_size}
use Rattle.partial_active.specs.declared.get_set.Stage.{Stage as SetStage}
use Rattle.partial_active.specs.declared.get_set.Stage.TheVariants as set
use Rattle.partial_active.specs.GetSet as finding
use Rattle.partial_active.specs.GetSetAnswers as finding_answers
use Rattle.partial_embedded.specs.declared.embedded.Stage.{Stage as ViewStage}
use Rattle.partial_embedded.specs.declared.embedded.Stage.TheVariants as view
use Rattle.partial_embedded.specs.Embedded as viewing
use Rattle.partial_machine.specs.declared.stage.Stage.TheVariants.{Idle, ReadBegun, LoadingValue, UpdateBegun, GettingSet, Viewing, ClaimingRecord, StoringRecord, Exchanging, ScanBegun, StoringAnnouncement, Joining, Scanning, Leaving, Finished}

-- the word of the step, where one is due
abbrev IsThere : Layout → Option Step → Type 0
IsThere z f = IfSome f (λ step. word_of step < total z)

if_some : (z : Layout) (f : Option Step) (step : Step) → f ≡ Some step → IsThere z f → word_of step < total z
if_some z f step is w = subst (IsThere z) is w

-- a getSet's
set_there : (z : Layout) (head : ℕ) (t : SetStage) (p : finding.SetPair) → IsLayout z → p.0.sizes ≡ z → finding_answers.set_goes_at t p → IsThere z (finding.set_step_at z head t)
set_there z head set.Head p layout same w = omega arith
set_there z head (set.ListLen at) p layout same w = let w' = subst (λ (y : Layout). finding_answers.set_goes_at (set.ListLen at) (record p.0 { sizes = y }, p.1)) same w in let below =
    w'.3 in omega (arith, below)
set_there z head (set.ListLow at left) p layout same w =
    let w' = subst (λ (y : Layout). finding_answers.set_goes_at (set.ListLow at left) (record p.0 { sizes = y }, p.1)) same w in
    let some = w'.0.some in let below = w'.1 in omega (arith, some, below)
set_there z head (set.ListHigh at left lo) p layout same w =
    let w' = subst (λ (y : Layout). finding_answers.set_goes_at (set.ListHigh at left lo) (record p.0 { sizes = y }, p.1)) same w in
    let some = w'.0.some in let below = w'.1 in omega (arith, some, below)
set_there z head set.Counter p layout same w = omega arith
set_there z head (set.Slot slot) p layout same w =
    let w' = subst (λ (y : Layout). finding_answers.set_goes_at (set.Slot slot) (record p.0 { sizes = y }, p.1)) same w in
    let below = w'.below in let within = w'.walking.end_within in omega (arith, below, within)
set_there z head (set.Len slot at) p layout same w = let w' = subst (λ (y : Layout). finding_answers.set_goes_at (set.Len slot at) (record p.0 { sizes = y }, p.1)) same w in let below =
    w'.2 in omega (arith, below)
set_there z head (set.Index slot at left) p layout same w =
    let w' = subst (λ (y : Layout). finding_answers.set_goes_at (set.Index slot at left) (record p.0 { sizes = y }, p.1)) same w in
    let some = w'.1 in let below = w'.3 in omega (arith, some, below)
set_there z head (set.Claim words) p layout same w = let some = layout.slots.0 in omega (arith, some)
set_there z head (set.Write at k words word) p layout same w =
    let w' = subst (λ (y : Layout). finding_answers.set_goes_at (set.Write at k words word) (record p.0 { sizes = y }, p.1)) same w in
    let less = w'.1 in let below = w'.2 in omega (arith, less, below)
set_there z head (set.Publish at) p layout same w = omega arith
set_there z head set.Done p layout same w = tt

-- an embedded scan's
view_there : (z : Layout) (indices : List ℕ) (t : ViewStage) (p : viewing.ViewPair) → p.0.sizes ≡ z → viewing.ArePositions p.0.sizes indices → viewing.view_goes_at indices p t →
    IsThere z (viewing.view_step_at z indices p.1.last t)
view_there z indices (view.Collect k) p same positions w =
    let below : slice_index indices k < z.m = subst (λ (y : Layout). slice_index indices k < y.m) same (positions.components k w.0) in omega (arith, below)
view_there z indices (view.View stamp) p same positions w = let r = subst (λ (y : Layout). viewing.IsPlainRecord y stamp) same w in let below = r.1 in omega (arith, below)
view_there z indices (view.Len at) p same positions w = let w' = subst (λ (y : Layout). viewing.view_goes_at indices (record p.0 { sizes = y }, p.1) (view.Len at)) same w in let below =
    w'.1 in omega (arith, below)
view_there z indices (view.Index at left) p same positions w =
    let w' = subst (λ (y : Layout). viewing.view_goes_at indices (record p.0 { sizes = y }, p.1) (view.Index at left)) same w in
    let some = w'.0 in let below = w'.2 in omega (arith, some, below)
view_there z indices (view.PairValue at left index) p same positions w =
    let w' = subst (λ (y : Layout). viewing.view_goes_at indices (record p.0 { sizes = y }, p.1) (view.PairValue at left index)) same w in
    let some = w'.0 in let below = w'.2 in omega (arith, some, below)
view_there z indices (view.Value k) p same positions w =
    let r = subst (λ (y : Layout). viewing.IsPlainRecord y (slice_index p.1.last k)) same (w.1 k w.0) in let below = r.1 in omega (arith, below)
view_there z indices view.Done p same positions w = tt

-- a join's
join_there : (z : Layout) (announcement : ℕ) (t : JoinStage) → IsTrue (fits_join z t) → IsThere z (join_step z announcement t)
join_there z announcement Claiming fits = omega arith
join_there z announcement (Storing slot) fits = let below = ltb-true slot z.slots fits in omega (arith, below)
join_there z announcement (Joined slot) fits = tt
join_there z announcement Spent fits = tt

due_there : (s : CoreState) (t : Stage) → IsLayout s.sizes → IsSound s → is_sound_at s t → IsThere s.sizes (step_at s t)
due_there s Idle layout w h = tt
due_there s (ReadBegun j) layout w h = omega (arith, h)
due_there s (LoadingValue stamp) layout w h = let below = h.1 in omega (arith, below)
due_there s (UpdateBegun c) layout w h = let below = h.0 in omega (arith, below)
due_there s (GettingSet c old) layout w h =
    subst (λ (y : Layout). IsThere s.sizes (finding.set_step_at y s.get_set.head s.get_set.stage)) (sym h.2) (set_there s.sizes s.get_set.head s.get_set.stage (getting s) layout h.2 h.1.stage)
due_there s (Viewing c old) layout w h =
    subst (λ (y : Layout). IsThere s.sizes (viewing.view_step_at y s.found.indices s.rows.last s.embedded.stage)) (sym h.2)
    (view_there s.sizes s.found.indices s.embedded.stage (scanning s) h.2 h.1.positions h.1.stage)
due_there s (ClaimingRecord c old) layout w h = record_step_cases s old (λ t. word_of t < total s.sizes) (λ some. let room = ltb-true (record_size s) (s.spare.size + 1) some in let size = (size_few s w.indices.few).0 in let to = w.spare.1 in omega (arith, room, size, to)) (λ none. omega arith)
due_there s (StoringRecord c old at k) layout w h = let last = h.1.1 in let less = h.2 in omega (arith, last, less)
due_there s (Exchanging c old at) layout w h = let below = h.0.0 in omega (arith, below)
due_there s ScanBegun layout w h = omega arith
due_there s (StoringAnnouncement at k) layout w h = let last = h.2.1 in let less = h.3 in omega (arith, last, less)
due_there s Joining layout w h =
    subst (λ (y : Layout). IsThere s.sizes (join_step y s.join.announcement s.join.stage)) (sym h.2)
    (join_there s.sizes s.join.announcement s.join.stage (subst (λ (y : Layout). IsTrue (fits_join y s.join.stage)) h.2 h.5))
due_there s Scanning layout w h =
    subst (λ (y : Layout). IsThere s.sizes (viewing.view_step_at y s.asked s.rows.last s.embedded.stage)) (sym h.1)
    (view_there s.sizes s.asked s.embedded.stage (scanning s) h.1 h.0.positions h.0.stage)
due_there s Leaving layout w h = left s.leave.left
  where
    below : s.leave.slot < s.sizes.slots
    below = h.1

    left : (b : Bool) → IsThere s.sizes (if b then None else Some (Store (slot_word s.leave.sizes s.leave.slot) 1))
    left true = tt
    left false =
        let here = below in
        let same : slot_word s.leave.sizes s.leave.slot ≡ slot_word s.sizes s.leave.slot = ap (λ (y : Layout). slot_word y s.leave.slot) h.0 in
        omega (arith, here, same)
due_there s (Finished r) layout w h = tt

pub due_words_are_there : DueWordsAreThere
due_words_are_there s step layout w is = if_some s.sizes (step_at s s.stage) step is (due_there s s.stage layout w w.stage)
