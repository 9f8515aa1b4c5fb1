-- An embedded scan as a machine: collects of its positions until two agree or one position shows a third
-- record, and the values or the borrowed view that this gives.
use Rattle.std.specs.Prelude.{ℕ, ◌≡◌, ◌+◌, ◌-◌, ◌*◌, ◌<◌, ◌≤◌, ◌⊎◌, ◌==◌, Bool, false, not, ◌&&◌, ◌||◌, ⊤, nat_lt, Option, Some, None, List, length, zero, suc, [], ◌∷◌, slice_index, slice_index_or, slice_set, if◌then◌else◌}
use Rattle.partial_words.specs.declared.step.Step.{Step}
use Rattle.partial_words.specs.declared.step.Step.TheVariants.{Load}
use Rattle.partial_words.specs.Layout.{Layout, component_word, pool_base, pool_end}
use Rattle.partial_words.specs.Record.{plain_record_size, view_size, value_word, view_word, pairs_size, pairs_word, next_word}
use Rattle.partial_embedded.specs.declared.embedded.Stage.{Stage}
use Rattle.partial_embedded.specs.declared.embedded.Stage.TheVariants.{Collect, View, Len, Index, PairValue, Value, Done}

-- the sizes; whether a borrowed view is shared and not loaded; how many collects were begun; whether the
-- collect under way has shown a change; the record whose view is borrowed and that view; and the stage
pub record EmbeddedState : Type 0 where
  pub sizes : Layout
  pub shares : Bool
  pub collects : ℕ
  pub moved : Bool
  pub borrowed : Option ℕ
  pub view : ℕ
  pub stage : Stage

-- of each position the latest load and whether it has changed, and the value of each component
pub record RowsState : Type 0 where
  pub last : List ℕ
  pub changed : List Bool
  pub values : List ℕ

-- the buffers that are these three
abbrev pub buffers : List ℕ → List Bool → List ℕ → RowsState
buffers last changed values = record { last = last; changed = changed; values = values }

-- the machine and its buffers
abbrev pub ViewPair : Type 0
ViewPair = EmbeddedState × RowsState

-- the buffers were made for these sizes
pub record AreRowsFor (s : Layout) (r : RowsState) : Type 0 where
  pub last : length r.last ≡ s.m
  pub changed : length r.changed ≡ s.m
  pub values : length r.values ≡ s.m

-- at this stage the collects are over: no component word is loaded any more
abbrev pub IsPastCollects : Stage → Type 0
IsPastCollects (Collect k) = ⊥
IsPastCollects _ = ⊤

-- an embedded scan that has made no step
abbrev pub fresh_view : Layout → Bool → EmbeddedState
fresh_view s shares = record { sizes = s; shares = shares; collects = 1; moved = false; borrowed = None; view = 0; stage = Collect 0 }

-- the step that is due at a stage
abbrev pub view_step_at : Layout → List ℕ → List ℕ → Stage → Option Step
view_step_at s indices last (Collect k) = Some (Load (component_word s (slice_index indices k)))
view_step_at s indices last (View stamp) = Some (Load (view_word stamp))
view_step_at s indices last (Len at) = Some (Load at)
view_step_at s indices last (Index at left) = Some (Load at)
view_step_at s indices last (PairValue at left index) = Some (Load at)
view_step_at s indices last (Value k) = Some (Load (value_word (slice_index last k)))
view_step_at s indices last Done = None

-- the step that is due
abbrev pub view_step_due : List ℕ → ViewPair → Option Step
view_step_due indices p = view_step_at p.0.sizes indices p.1.last p.0.stage

-- the collect under way is the first
abbrev pub is_first : ViewPair → Bool
is_first p = p.0.collects == 1

-- the load of position k differs from the one in the collect before
abbrev pub differs : ViewPair → ℕ → ℕ → Bool
differs p k x = not (is_first p) && not (slice_index p.1.last k == x)

-- position k has changed before
abbrev pub was_changed : ViewPair → ℕ → Bool
was_changed p k = not (is_first p) && slice_index_or p.1.changed k false

-- the machine at another stage
abbrev pub view_at_stage : ViewPair → Stage → ViewPair
view_at_stage p stage = (record p.0 { stage = stage }, p.1)

-- the third record at a position: its view is borrowed
abbrev pub borrow : ViewPair → ℕ → ViewPair
borrow p x = (record p.0 { borrowed = Some x; stage = View x }, p.1)

-- the load of position k is noted
abbrev pub noted_load : ViewPair → ℕ → ℕ → ViewPair
noted_load p k x =
    let changed : List Bool = slice_set p.1.changed k (differs p k x || was_changed p k) in
    (record p.0 { moved = p.0.moved || differs p k x }, record p.1 { last = slice_set p.1.last k x; changed = changed })

-- the collect is whole: another one is made when it was the first or has shown a change
abbrev pub after_collect : ViewPair → ViewPair
after_collect p =
    if is_first p || p.0.moved then (record p.0 { collects = p.0.collects + 1; moved = false; stage = Collect 0 }, p.1)
    else view_at_stage p (Value 0)

-- the position after k, or the end of the collect
abbrev pub go_on : ℕ → ViewPair → ℕ → ViewPair
go_on r p k = if nat_lt (k + 1) r then view_at_stage p (Collect (k + 1)) else after_collect p

-- a load of position k in a collect: when it differs from the last one and the position had changed before, a view is borrowed
abbrev pub after_load : ℕ → ViewPair → ℕ → ℕ → ViewPair
after_load r p k x = if differs p k x && was_changed p k then borrow p x else go_on r (noted_load p k x) k

-- the view of the borrowed record: it is shared, empty, or loaded
abbrev pub after_view : EmbeddedState → ℕ → EmbeddedState
after_view e x = record e { view = x; stage = if (x == 0) || e.shares then Done else Len x }

-- so many pairs are left, from that word on
abbrev pub pairs_from : ℕ → ℕ → Stage
pairs_from at left = if left == 0 then Done else Index at left

-- the value of a component, in the place of what was there
abbrev pub with_value : ViewPair → ℕ → ℕ → ViewPair
with_value p j x = (p.0, record p.1 { values = slice_set p.1.values j x })

-- what an answer makes of the machine at a stage
abbrev pub advance_view_at : List ℕ → ViewPair → Stage → ℕ → ViewPair
advance_view_at indices p (Collect k) x = after_load (length indices) p k x
advance_view_at indices p (View stamp) x = (after_view p.0 x, p.1)
advance_view_at indices p (Len at) x = view_at_stage p (pairs_from (pairs_word at) x)
advance_view_at indices p (Index at left) x = view_at_stage p (PairValue (next_word at) left x)
advance_view_at indices p (PairValue at left index) x = view_at_stage (with_value p index x) (pairs_from (next_word at) (left - 1))
advance_view_at indices p (Value k) x =
    view_at_stage (with_value p (slice_index indices k) x) (if nat_lt (k + 1) (length indices) then Value (k + 1) else Done)
advance_view_at indices p Done x = p

-- what the answer x makes of an embedded scan and its rows
abbrev pub advance_view : List ℕ → ViewPair → ℕ → ViewPair
advance_view indices p x = advance_view_at indices p p.0.stage x

-- the words of a record that begins at `at` are pool words
abbrev pub IsPlainRecord : Layout → ℕ → Type 0
IsPlainRecord s at = (pool_base s ≤ at) × (at + plain_record_size ≤ pool_end s)

-- how many of the first r are true
abbrev pub count_true : ℕ → List Bool → ℕ
count_true zero bs = 0
count_true (suc r) [] = 0
count_true (suc r) (b ∷ bs) = (if b then 1 else 0) + count_true r bs

-- how many of the positions have changed
abbrev pub changes : ℕ → RowsState → ℕ
changes r rows = count_true r rows.changed

-- how many collects there may be after the one under way: each but the last shows a position's first change
abbrev pub future : ℕ → ViewPair → ℕ
future r p = if is_first p then r + 1 else if p.0.moved then r - changes r p.1 + 1 else r - changes r p.1

-- the greatest number of steps of an embedded scan of r positions: its collects, and the loads of a view and of what refers to it
abbrev pub most_view_steps : Layout → ℕ → ℕ
most_view_steps s r = r * (r + 2) + view_size s.m + 1

-- how many steps are left at most at a stage
abbrev pub view_left_at : ℕ → ViewPair → Stage → ℕ
view_left_at r p (Collect k) = r - k + r * future r p + view_size p.0.sizes.m + 1
view_left_at r p (View stamp) = view_size p.0.sizes.m + 1
view_left_at r p (Len at) = view_size p.0.sizes.m
view_left_at r p (Index at left) = pairs_size left
view_left_at r p (PairValue at left index) = pairs_size left - 1
view_left_at r p (Value k) = r - k
view_left_at r p Done = 0

-- how many steps are left at most
abbrev pub view_left : List ℕ → ViewPair → ℕ
view_left indices p = view_left_at (length indices) p p.0.stage

-- the positions name components, at least one and at most m
pub record ArePositions (s : Layout) (indices : List ℕ) : Type 0 where
  pub some : 0 < length indices
  pub few : length indices ≤ s.m
  pub components : (k : ℕ) → k < length indices → slice_index indices k < s.m

-- the positions from one on up to another were loaded: their latest loads are records
abbrev pub AreLoaded : Layout → RowsState → ℕ → Type 0
AreLoaded s rows n = (k : ℕ) → k < n → IsPlainRecord s (slice_index rows.last k)

-- what is known at a stage
abbrev pub view_goes_at : List ℕ → ViewPair → Stage → Type 0
view_goes_at indices p (Collect k) =
    (k < length indices) × (p.0.collects + future (length indices) p ≤ length indices + 2) × (1 ≤ p.0.collects)
    × AreLoaded p.0.sizes p.1 (if is_first p then k else length indices)
view_goes_at indices p (View stamp) = IsPlainRecord p.0.sizes stamp
view_goes_at indices p (Len at) = (pool_base p.0.sizes ≤ at) × (at < pool_end p.0.sizes)
view_goes_at indices p (Index at left) = (0 < left) × (left ≤ p.0.sizes.m) × (at + pairs_size left ≤ pool_end p.0.sizes)
    × (pool_base p.0.sizes ≤ at)
view_goes_at indices p (PairValue at left index) =
    (0 < left) × (left ≤ p.0.sizes.m) × (at + pairs_size left ≤ pool_end p.0.sizes + 1) × (index < p.0.sizes.m) × (pool_base p.0.sizes ≤ at)
view_goes_at indices p (Value k) = (k < length indices) × AreLoaded p.0.sizes p.1 (length indices)
view_goes_at indices p Done = ⊤

-- the machine, its positions and its buffers go together
pub record ViewGoesTogether (indices : List ℕ) (p : ViewPair) : Type 0 where
  pub positions : ArePositions p.0.sizes indices
  pub rows : AreRowsFor p.0.sizes p.1
  pub collects : p.0.collects ≤ length indices + 2
  pub stage : view_goes_at indices p p.0.stage

-- the answers that words may give
abbrev pub IsPossibleInViewAt : Layout → Stage → ℕ → Type 0
IsPossibleInViewAt s (Collect k) x = IsPlainRecord s x
IsPossibleInViewAt s (View stamp) x = (x ≡ 0) ⊎ ((pool_base s ≤ x) × (x < pool_end s))
IsPossibleInViewAt s (Len at) x = (x ≤ s.m) × (at + view_size x ≤ pool_end s)
IsPossibleInViewAt s (Index at left) x = x < s.m
IsPossibleInViewAt s (PairValue at left index) x = ⊤
IsPossibleInViewAt s (Value k) x = ⊤
IsPossibleInViewAt s Done x = ⊥

-- an answer that lawful words may give to the due step
abbrev pub IsPossibleInView : ViewPair → ℕ → Type 0
IsPossibleInView p x = IsPossibleInViewAt p.0.sizes p.0.stage x
