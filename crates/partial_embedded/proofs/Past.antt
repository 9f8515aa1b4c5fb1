-- After its collects an embedded scan loads no component word.
use Rattle.partial_embedded.proofs.Common.{ℕ, Bool, true, false, ◌≡◌, ◌+◌, ◌-◌, ◌≤◌, ◌==◌, ◌||◌, if◌then◌else◌, nat_lt, Some, List, length, slice_index, sym, subst, arith, Load, Stage, Collect, View, Len, Index, PairValue, Value, Done, ViewPair, IsPastCollects, advance_view_at, view_goes_at, view_step_at, next_word, pairs_word, value_word, view_word}

past_if : (b : Bool) (s t : Stage) → IsPastCollects s → IsPastCollects t → IsPastCollects (if b then s else t)
past_if true s t first second = first
past_if false s t first second = second

-- the collects stay over
pub stay_past : (indices : List ℕ) (p : ViewPair) (s : Stage) (x : ℕ) → p.0.stage ≡ s → IsPastCollects s → IsPastCollects (advance_view_at indices p s x).0.stage
stay_past indices p (Collect k) x is past = absurd past
stay_past indices p (View stamp) x is past = past_if ((x == 0) || p.0.shares) Done (Len x) tt tt
stay_past indices p (Len at) x is past = past_if (x == 0) Done (Index (pairs_word at) x) tt tt
stay_past indices p (Index at left) x is past = tt
stay_past indices p (PairValue at left index) x is past = past_if (left - 1 == 0) Done (Index (next_word at) (left - 1)) tt tt
stay_past indices p (Value k) x is past = past_if (nat_lt (k + 1) (length indices)) (Value (k + 1)) Done tt tt
stay_past indices p Done x is past = subst IsPastCollects (sym is) tt

-- a word that is due after the collects is one of the pool
pub due_behind : (indices : List ℕ) (p : ViewPair) (s : Stage) (word : ℕ) → view_goes_at indices p s → IsPastCollects s →
    view_step_at p.0.sizes indices p.1.last s ≡ Some (Load word) → p.0.sizes.m ≤ word
due_behind indices p (Collect k) word goes past due = absurd past
due_behind indices p (View stamp) word goes past due = (let is : view_word stamp ≡ word = cc in omega (arith, goes, is))
due_behind indices p (Len at) word goes past due = (let is : at ≡ word = cc in omega (arith, goes, is))
due_behind indices p (Index at left) word goes past due = (let is : at ≡ word = cc in omega (arith, goes, is))
due_behind indices p (PairValue at left index) word goes past due = (let is : at ≡ word = cc in omega (arith, goes, is))
due_behind indices p (Value k) word goes past due = (let is : value_word (slice_index p.1.last k) ≡ word = cc in let plain = goes.1 k goes.0 in omega (arith, plain, is))
due_behind indices p Done word goes past due = absurd cc
