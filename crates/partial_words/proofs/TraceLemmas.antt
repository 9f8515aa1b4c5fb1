-- What a trace keeps determines its events.
use Rattle.std.proofs.Common.{add-one, append_assoc, drop-cons}
use Rattle.std.proofs.lemmas.List.{length-drop}
use Rattle.std.specs.Prelude.{Some, None, drop}
use Rattle.partial_model.proofs.ListLemmas.{some_same}
use Rattle.partial_words.proofs.Common.{ℕ, suc, ◌≡◌, ◌<◌, ◌+◌, ◌++◌, ◌∙◌, List, [], ◌∷◌, length, slice_index_or, ap, sym, refl, arith}
use Rattle.partial_words.specs.declared.step.Event.{Event}
use Rattle.partial_words.specs.declared.step.Step.TheVariants.{Load, Store}
use Rattle.partial_words.specs.declared.trace.Kept.{Kept}
use Rattle.partial_words.specs.Kept.{event_kept, kept_events, others_in}

-- there are as many events as steps are kept
pub as_many : (kept : List Kept) (others : List Event) → others_in kept ≡ length others → length (kept_events kept others) ≡ length kept
as_many [] others f = refl
as_many (Kept.Load p w a ∷ kept) others f = let more = as_many kept others f in omega (arith, more)
as_many (Kept.Store p w v ∷ kept) others f = let more = as_many kept others f in omega (arith, more)
as_many (Kept.Other ∷ kept) [] f = absurd (omega (arith, f))
as_many (Kept.Other ∷ kept) (e ∷ others) f = let more = as_many kept others (omega (arith, f)) in omega (arith, more)

-- the events of one step that is kept as it is
event_alone : (k : Kept) (e : Event) (others : List Event) → event_kept k ≡ Some e → kept_events (k ∷ []) others ≡ e ∷ []
event_alone (Kept.Load p w a) e others is = ap (λ d. d ∷ []) (some_same is)
event_alone (Kept.Store p w v) e others is = ap (λ d. d ∷ []) (some_same is)
event_alone Kept.Other e others is = let bad : None ≡ Some e = is in cc

-- a step is kept after the others
pub step_kept : (kept : List Kept) (others : List Event) (k : Kept) (e : Event) → event_kept k ≡ Some e → others_in kept ≡ length others →
    kept_events (kept ++ k ∷ []) others ≡ kept_events kept others ++ e ∷ []
step_kept [] others k e is f = event_alone k e others is
step_kept (Kept.Load q v b ∷ kept) others k e is f = ap (λ es. record { port = q; step = Load v; answer = b } ∷ es) (step_kept kept others k e is f)
step_kept (Kept.Store q v b ∷ kept) others k e is f = ap (λ es. record { port = q; step = Store v b; answer = 0 } ∷ es) (step_kept kept others k e is f)
step_kept (Kept.Other ∷ kept) [] k e is f = absurd (omega (arith, f))
step_kept (Kept.Other ∷ kept) (o ∷ others) k e is f = ap (λ es. o ∷ es) (step_kept kept others k e is (omega (arith, f)))

-- any other step is kept after them
pub other_kept : (kept : List Kept) (others : List Event) (e : Event) → others_in kept ≡ length others →
    kept_events (kept ++ Kept.Other ∷ []) (others ++ e ∷ []) ≡ kept_events kept others ++ e ∷ []
other_kept [] [] e f = refl
other_kept [] (o ∷ others) e f = absurd (omega (arith, f))
other_kept (Kept.Load q v b ∷ kept) others e f = ap (λ es. record { port = q; step = Load v; answer = b } ∷ es) (other_kept kept others e f)
other_kept (Kept.Store q v b ∷ kept) others e f = ap (λ es. record { port = q; step = Store v b; answer = 0 } ∷ es) (other_kept kept others e f)
other_kept (Kept.Other ∷ kept) [] e f = absurd (omega (arith, f))
other_kept (Kept.Other ∷ kept) (o ∷ others) e f = ap (λ es. o ∷ es) (other_kept kept others e (omega (arith, f)))

-- a step that is kept as it is is none of the others
no_other : (k : Kept) (e : Event) → event_kept k ≡ Some e → others_in (k ∷ []) ≡ 0
no_other (Kept.Load p w a) e is = refl
no_other (Kept.Store p w v) e is = refl
no_other Kept.Other e is = let bad : None ≡ Some e = is in cc

-- how many of them are others then
pub others_behind_step : (kept : List Kept) (k : Kept) (e : Event) → event_kept k ≡ Some e → others_in (kept ++ k ∷ []) ≡ others_in kept
others_behind_step [] k e is = no_other k e is
others_behind_step (Kept.Load q v b ∷ kept) k e is = others_behind_step kept k e is
others_behind_step (Kept.Store q v b ∷ kept) k e is = others_behind_step kept k e is
others_behind_step (Kept.Other ∷ kept) k e is = ap (λ n. n + 1) (others_behind_step kept k e is)

pub others_behind_other : (kept : List Kept) → others_in (kept ++ Kept.Other ∷ []) ≡ others_in kept + 1
others_behind_other [] = refl
others_behind_other (Kept.Load q v b ∷ kept) = others_behind_other kept
others_behind_other (Kept.Store q v b ∷ kept) = others_behind_other kept
others_behind_other (Kept.Other ∷ kept) = ap (λ n. n + 1) (others_behind_other kept)

-- what a step that is kept as it is gives, and how many others come after it
first_kept : (k : Kept) (e : Event) (kept : List Kept) (others : List Event) → event_kept k ≡ Some e → kept_events (k ∷ kept) others ≡ e ∷ kept_events kept others
first_kept (Kept.Load p w a) e kept others is = ap (λ d. d ∷ kept_events kept others) (some_same is)
first_kept (Kept.Store p w v) e kept others is = ap (λ d. d ∷ kept_events kept others) (some_same is)
first_kept Kept.Other e kept others is = let bad : None ≡ Some e = is in cc

others_from_first : (k : Kept) (e : Event) (kept : List Kept) → event_kept k ≡ Some e → others_in (k ∷ kept) ≡ others_in kept
others_from_first (Kept.Load p w a) e kept is = refl
others_from_first (Kept.Store p w v) e kept is = refl
others_from_first Kept.Other e kept is = let bad : None ≡ Some e = is in cc

-- the step from which on there is more to give
here : (kept : List Kept) (i : ℕ) (d k : Kept) → i < length kept → slice_index_or kept i d ≡ k → drop i kept ≡ k ∷ drop (i + 1) kept
here kept i d k inside at = rw add-one (drop-cons kept i d inside ∙ ap (λ s. s ∷ drop (suc i) kept) at)

-- all is given after one more event
behind_event : (told more : List Event) (e : Event) (rest all : List Event) → more ≡ told ++ e ∷ [] → told ++ e ∷ rest ≡ all → more ++ rest ≡ all
behind_event told more e rest all is all_is = ap (λ l. l ++ rest) is ∙ append_assoc told (e ∷ []) rest ∙ all_is

-- a step that is kept as it is is given
pub kept_is_told : (kept : List Kept) (others left : List Event) (i : ℕ) (d k : Kept) (e : Event) (told more all : List Event) → i < length kept →
    slice_index_or kept i d ≡ k → event_kept k ≡ Some e → more ≡ told ++ e ∷ [] → left ≡ others → told ++ kept_events (drop i kept) others ≡ all →
    more ++ kept_events (drop (i + 1) kept) left ≡ all
kept_is_told kept others left i d k e told more all inside at is more_is same all_is =
    let first = ap (λ s. kept_events s others) (here kept i d k inside at) ∙ first_kept k e (drop (i + 1) kept) others is in
    ap (λ s. more ++ kept_events (drop (i + 1) kept) s) same ∙
    behind_event told more e (kept_events (drop (i + 1) kept) others) all more_is (sym (ap (λ l. told ++ l) first) ∙ all_is)

pub others_from_kept : (kept : List Kept) (i : ℕ) (d k : Kept) (e : Event) (n : ℕ) → i < length kept → slice_index_or kept i d ≡ k → event_kept k ≡ Some e →
    others_in (drop i kept) ≡ n → others_in (drop (i + 1) kept) ≡ n
others_from_kept kept i d k e n inside at is left =
    sym (ap others_in (here kept i d k inside at) ∙ others_from_first k e (drop (i + 1) kept) is) ∙ left

-- the next of the others is given
next_is_there : (kept : List Kept) (others : List Event) (i n : ℕ) (d : Kept) → i < length kept → slice_index_or kept i d ≡ Kept.Other →
    others_in (drop i kept) ≡ length (drop n others) → n < length others
next_is_there kept others i n d inside at left =
    let some = ap others_in (here kept i d Kept.Other inside at) in
    let long = length-drop n others in
    omega (arith, some, long, left)

pub other_is_told : (kept : List Kept) (others : List Event) (i n : ℕ) (d : Kept) (o : Event) (told more all : List Event) → i < length kept →
    slice_index_or kept i d ≡ Kept.Other → others_in (drop i kept) ≡ length (drop n others) → more ≡ told ++ slice_index_or others n o ∷ [] →
    told ++ kept_events (drop i kept) (drop n others) ≡ all → more ++ kept_events (drop (i + 1) kept) (drop (n + 1) others) ≡ all
other_is_told kept others i n d o told more all inside at left more_is all_is =
    let e : Event = slice_index_or others n o in
    let next : drop n others ≡ e ∷ drop (n + 1) others = rw add-one (drop-cons others n o (next_is_there kept others i n d inside at left)) in
    let first = ap (λ s. kept_events s (drop n others)) (here kept i d Kept.Other inside at) ∙ ap (kept_events (Kept.Other ∷ drop (i + 1) kept)) next in
    behind_event told more e (kept_events (drop (i + 1) kept) (drop (n + 1) others)) all more_is (sym (ap (λ l. told ++ l) first) ∙ all_is)

pub others_behind_next : (kept : List Kept) (others : List Event) (i n : ℕ) (d : Kept) → i < length kept → slice_index_or kept i d ≡ Kept.Other →
    others_in (drop i kept) ≡ length (drop n others) → others_in (drop (i + 1) kept) ≡ length (drop (n + 1) others)
others_behind_next kept others i n d inside at left =
    let some = ap others_in (here kept i d Kept.Other inside at) in
    let long = length-drop n others in
    let longer = length-drop (n + 1) others in
    omega (arith, some, long, longer, left)
