-- The entry that a step adds to the history: by the stage of the machine that makes it, and by the step and the words.
use Rattle.partial_core.proofs.{Common.{ℕ, ◌≡◌, ◌<◌, ◌≤◌, ◌==◌, Bool, true, false, Some, None, List, [], ◌∷◌, length, slice_index, refl, sym, ap, subst, ◌∙◌, arith, ⊤, nat_lt, is_some, if◌then◌else◌, lt-ltb, Applied, Step, Load, Store, Exchange, Add, Layout, slot_word, record_value, view_word, answer_of, join_step, JoinStage, Claiming, Storing, Joined, Spent, Change, Stage, CoreState, step_at, is_sound_at, added_by, PublishesWithin, record_step_cases}, MidCalls.view_loads}
use Rattle.partial_model.proofs.ListLemmas.{some_same}
use Rattle.partial_active.specs.declared.get_set.Stage.{Stage as SetStage}
use Rattle.partial_active.specs.declared.get_set.Stage.TheVariants as set
use Rattle.partial_active.specs.GetSet as finding
use Rattle.partial_embedded.specs.declared.embedded.Stage.{Stage as ViewStage}
use Rattle.partial_embedded.specs.Embedded as viewing
use Rattle.partial_machine.specs.declared.stage.Stage.TheVariants.{Idle, ReadBegun, LoadingValue, UpdateBegun, GettingSet, Viewing, ClaimingRecord, StoringRecord, Exchanging, ScanBegun, StoringAnnouncement, Joining, Scanning, Leaving, Finished}

-- a won exchange of a component adds one
abbrev pub added_at : ℕ → Stage → ℕ → List Applied
added_at port (Exchanging c old at) x = if x == old then record { port = port; component = c.component; value = c.value; stamp = at } ∷ [] else []
added_at port _ x = []

pub not_below : (a b : ℕ) → b ≤ a → nat_lt a b ≡ false
not_below a b h = search (arith, h)

-- a step that exchanges no component word
abbrev IsQuiet : Layout → Step → Type 0
IsQuiet z (Exchange w old new) = z.m ≤ w
IsQuiet z _ = ⊤

-- what a step at a stage adds to the history, and that the record of an exchange lies within the words
pub record StepAdds (z : Layout) (port : ℕ) (t : Stage) (words : List ℕ) (step : Step) : Type 0 where
  pub entries : added_by z port words step ≡ added_at port t (answer_of words step)
  pub within : PublishesWithin z words step

adds_quiet : (z : Layout) (port : ℕ) (t : Stage) (words : List ℕ) (step : Step) → IsQuiet z step → ((a : ℕ) → added_at port t a ≡ []) → StepAdds z port t words step
adds_quiet z port t words (Load w) quiet none = record { entries = sym (none (slice_index words w)); within = tt }
adds_quiet z port t words (Store w v) quiet none = record { entries = sym (none 0); within = tt }
adds_quiet z port t words (Add w v) quiet none = record { entries = sym (none (slice_index words w)); within = tt }
adds_quiet z port t words (Exchange w old new) quiet none = record {
  entries = ap (λ (c : Bool). if c then (if slice_index words w == old then record { port = port; component = w; value = record_value words new; stamp = new } ∷ [] else []) else [])
      (not_below w z.m quiet) ∙ sym (none (slice_index words w));
  within = λ below. absurd (omega (arith, quiet, below));
}

-- a getSet exchanges the list head alone
getting_at : (z : Layout) (head : ℕ) (t : SetStage) (step : Step) → finding.set_step_at z head t ≡ Some step → IsQuiet z step
getting_at z head set.Head step e = subst (IsQuiet z) (some_same e) tt
getting_at z head (set.ListLen at) step e = subst (IsQuiet z) (some_same e) tt
getting_at z head (set.ListLow at left) step e = subst (IsQuiet z) (some_same e) tt
getting_at z head (set.ListHigh at left lo) step e = subst (IsQuiet z) (some_same e) tt
getting_at z head set.Counter step e = subst (IsQuiet z) (some_same e) tt
getting_at z head (set.Slot slot) step e = subst (IsQuiet z) (some_same e) tt
getting_at z head (set.Len slot at) step e = subst (IsQuiet z) (some_same e) tt
getting_at z head (set.Index slot at left) step e = subst (IsQuiet z) (some_same e) tt
getting_at z head (set.Claim count) step e = subst (IsQuiet z) (some_same e) tt
getting_at z head (set.Write at k count word) step e = subst (IsQuiet z) (some_same e) tt
getting_at z head (set.Publish at) step e = subst (IsQuiet z) (some_same e) (omega arith)
getting_at z head set.Done step e = absurd cc

-- an embedded scan exchanges nothing, and neither do joins and leaves
viewing_at : (z y : Layout) (indices last : List ℕ) (t : ViewStage) (step : Step) → viewing.view_step_at y indices last t ≡ Some step → IsQuiet z step
viewing_at z y indices last t step e = let load = view_loads y indices last t (ap is_some e) in subst (IsQuiet z) (some_same (sym load.1 ∙ e)) tt

joining_at : (z y : Layout) (at : ℕ) (t : JoinStage) (step : Step) → join_step y at t ≡ Some step → IsQuiet z step
joining_at z y at Claiming step e = subst (IsQuiet z) (some_same e) tt
joining_at z y at (Storing slot) step e = subst (IsQuiet z) (some_same e) tt
joining_at z y at (Joined slot) step e = absurd cc
joining_at z y at Spent step e = absurd cc

leaving_at : (z y : Layout) (slot : ℕ) (b : Bool) (step : Step) → (if b then None else Some (Store (slot_word y slot) 1)) ≡ Some step → IsQuiet z step
leaving_at z y slot true step e = absurd cc
leaving_at z y slot false step e = subst (IsQuiet z) (some_same e) tt

-- a component's exchange that is due: its component is there, and its record stands within the words
pub record IsExchange (z : Layout) (words : List ℕ) (c : Change) (at : ℕ) : Type 0 where
  pub component : c.component < z.m
  pub value : record_value words at ≡ c.value
  pub within : view_word at < length words

exchange_adds : (z : Layout) (port : ℕ) (words : List ℕ) (c : Change) (old at : ℕ) → IsExchange z words c at → StepAdds z port (Exchanging c old at) words (Exchange c.component old at)
exchange_adds z port words c old at x =
    let found = slice_index words c.component in
    record {
      entries = ap (λ (b : Bool). if b then (if found == old then record { port = port; component = c.component; value = record_value words at; stamp = at } ∷ [] else []) else [])
          (lt-ltb c.component z.m x.component)
          ∙ ap (λ v. if found == old then record { port = port; component = c.component; value = v; stamp = at } ∷ [] else []) x.value;
      within = λ _. x.within;
    }

pub step_adds : (z : Layout) (port : ℕ) (s : CoreState) (words : List ℕ) (t : Stage) (step : Step) → s.sizes ≡ z → is_sound_at s t → step_at s t ≡ Some step →
    ((c : Change) (old at : ℕ) → t ≡ Exchanging c old at → IsExchange z words c at) → StepAdds z port t words step
step_adds z port s words Idle step sizes sound e f = absurd cc
step_adds z port s words (ReadBegun j) step sizes sound e f = adds_quiet z port (ReadBegun j) words step (subst (IsQuiet z) (some_same e) tt) (λ a. refl)
step_adds z port s words (LoadingValue stamp) step sizes sound e f = adds_quiet z port (LoadingValue stamp) words step (subst (IsQuiet z) (some_same e) tt) (λ a. refl)
step_adds z port s words (UpdateBegun c) step sizes sound e f = adds_quiet z port (UpdateBegun c) words step (subst (IsQuiet z) (some_same e) tt) (λ a. refl)
step_adds z port s words (GettingSet c old) step sizes sound e f = adds_quiet z port (GettingSet c old) words step
    (subst (λ (y : Layout). IsQuiet y step) (sound.2 ∙ sizes) (getting_at s.get_set.sizes s.get_set.head s.get_set.stage step e)) (λ a. refl)
step_adds z port s words (Viewing c old) step sizes sound e f = adds_quiet z port (Viewing c old) words step
    (viewing_at z s.embedded.sizes s.found.indices s.rows.last s.embedded.stage step e) (λ a. refl)
step_adds z port s words (ClaimingRecord c old) step sizes sound e f = adds_quiet z port (ClaimingRecord c old) words step (subst (IsQuiet z) (some_same e) (record_step_cases s old (IsQuiet z) (λ _. tt) (λ _. tt))) (λ a. refl)
step_adds z port s words (StoringRecord c old at k) step sizes sound e f = adds_quiet z port (StoringRecord c old at k) words step (subst (IsQuiet z) (some_same e) tt) (λ a. refl)
step_adds z port s words (Exchanging c old at) step sizes sound e f = subst (StepAdds z port (Exchanging c old at) words) (some_same e) (exchange_adds z port words c old at (f c old at refl))
step_adds z port s words ScanBegun step sizes sound e f = adds_quiet z port ScanBegun words step (subst (IsQuiet z) (some_same e) tt) (λ a. refl)
step_adds z port s words (StoringAnnouncement at k) step sizes sound e f = adds_quiet z port (StoringAnnouncement at k) words step (subst (IsQuiet z) (some_same e) tt) (λ a. refl)
step_adds z port s words Joining step sizes sound e f = adds_quiet z port Joining words step (joining_at z s.join.sizes s.join.announcement s.join.stage step e) (λ a. refl)
step_adds z port s words Scanning step sizes sound e f = adds_quiet z port Scanning words step (viewing_at z s.embedded.sizes s.asked s.rows.last s.embedded.stage step e) (λ a. refl)
step_adds z port s words Leaving step sizes sound e f = adds_quiet z port Leaving words step (leaving_at z s.leave.sizes s.leave.slot s.leave.left step e) (λ a. refl)
step_adds z port s words (Finished r) step sizes sound e f = absurd cc
