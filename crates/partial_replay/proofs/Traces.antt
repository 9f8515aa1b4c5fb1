-- What a trace says, event by event.
use Rattle.partial_replay.proofs.Common.{ℕ, suc, ◌-◌, ◌≡◌, ◌+◌, ◌<◌, ◌==◌, ◌++◌, Bool, true, false, if◌then◌else◌, List, [], ◌∷◌, length, map, slice_index_or, slice_index, take, nat_lt, Option, Some, None, slice_get, refl, sym, ◌∙◌, ap, arith, filter_map, cons_option, filter_map-append, map-append, get_or_from_slice_get, Applied, Opening, IsHistory, initial_stamp, last_entry, stamp_of, option_map_or, word_of, last_entry-found, place_below, AllByRecursion-get, Step, Event, record_value, Agrees, is_won, new_of, event_entry, entry_at, unvalued, Load, Store, Exchange, Add, value_behind_stamp, Call, answer_of, Memory, Port, StepMade, event_of}
use Rattle.partial_model.specs.History as history

entry_won : (p w old new v : ℕ) (c b : Bool) → cons_option (if (if c then b else false) then Some (record { port = p; component = w; value = 0; stamp = new }) else None) [] ≡ map unvalued
    (if c then (if b then record { port = p; component = w; value = v; stamp = new } ∷ [] else []) else [])
entry_won p w old new v true true = refl
entry_won p w old new v true false = refl
entry_won p w old new v false b = refl

-- the entry of an event is the one that the history gains
entry_same : (m : ℕ) (words : List ℕ) (p : ℕ) (step : Step) (a : ℕ) → cons_option (event_entry m (λ _. 0) (record { port = p; step = step; answer = a })) [] ≡ map unvalued (entry_at m words p step a)
entry_same m words p (Load w) a = refl
entry_same m words p (Store w v) a = refl
entry_same m words p (Add w k) a = refl
entry_same m words p (Exchange w old new) a = entry_won p w old new (record_value words new) (nat_lt w m) (a == old)

pub entries_push : {calls : List Call} {old now : Memory} {port new : Port} (m : ℕ) → port.core.sizes.m ≡ m → filter_map (event_entry m (λ _. 0)) old.trace ≡ map unvalued old.history.items →
    StepMade calls old now port new → filter_map (event_entry m (λ _. 0)) now.trace ≡ map unvalued now.history.items
entries_push {old} {now} {port} m is same s =
    let value = event_entry m (λ _. 0) in
    let a = answer_of old.words s.step in
    let gained = entry_at m now.words port.number s.step a in
    ap (filter_map value) s.trace_is
    ∙ filter_map-append value old.trace (event_of old port.number s.step ∷ [])
    ∙ ap (λ (l : List Applied). l ++ cons_option (value (event_of old port.number s.step)) []) same
    ∙ ap (λ (l : List Applied). map unvalued old.history.items ++ l) (entry_same m now.words port.number s.step a)
    ∙ sym (map-append unvalued old.history.items gained)
    ∙ ap (map unvalued) (sym (s.log_is ∙ ap (λ n. old.history.items ++ entry_at n now.words port.number s.step a) is))

-- an entry with the value that its record has
abbrev valued : (ℕ → ℕ) → Applied → Applied
valued value e = record { port = e.port; component = e.component; value = value e.stamp; stamp = e.stamp }

valued_won : (value : ℕ → ℕ) (e : Event) (b : Bool) (xs ys : List Applied) → xs ≡ map (valued value) ys →
    cons_option (if b then Some (record { port = e.port; component = word_of e.step; value = value (new_of e.step); stamp = new_of e.step }) else None) xs ≡ map (valued value)
    (cons_option (if b then Some (record { port = e.port; component = word_of e.step; value = 0; stamp = new_of e.step }) else None) ys)
valued_won value e true xs ys same = ap (λ (l : List Applied). record { port = e.port; component = word_of e.step; value = value (new_of e.step); stamp = new_of e.step } ∷ l) same
valued_won value e false xs ys same = same

valued_trace : (m : ℕ) (value : ℕ → ℕ) (trace : List Event) → filter_map (event_entry m value) trace ≡ map (valued value) (filter_map (event_entry m (λ _. 0)) trace)
valued_trace m value [] = refl
valued_trace m value (e ∷ trace) = valued_won value e (is_won m e.step e.answer) (filter_map (event_entry m value) trace) (filter_map (event_entry m (λ _. 0)) trace) (valued_trace m value trace)

-- the record of each entry holds its value
entry_value : (o : Opening) (words : List ℕ) (h : List Applied) (k : ℕ) (e : Applied) → IsHistory o h → Agrees o words h → slice_get h k ≡ Some e → record_value words e.stamp ≡ e.value
entry_value o words h k e hist agrees stands =
    let below = place_below h k e stands in
    let here : slice_index_or h (k + 1 - 1) e ≡ e = ap (λ i. slice_index_or h i e) (omega arith) ∙ get_or_from_slice_get h k e e stands in
    let last : last_entry e.component (take (k + 1) h) ≡ Some e = last_entry-found h (k + 1) e.component e (omega arith) (omega (arith, below))
    (ap (λ (f : Applied). f.component) here) ∙ ap Some here in
    let stamp : stamp_of o (take (k + 1) h) e.component ≡ e.stamp = ap (λ (f : Option Applied). option_map_or (λ (x : Applied). x.stamp) f (initial_stamp o e.component)) last in
    let value : history.value_of o (take (k + 1) h) e.component ≡ e.value = ap (λ (f : Option Applied). option_map_or (λ (x : Applied). x.value) f (slice_index o.values e.component)) last in
    ap (record_value words) (sym stamp) ∙ value_behind_stamp o words h e.component (k + 1) agrees (AllByRecursion-get (λ (f : Applied). f.component < length o.values) h k e hist.components stands)
    ∙ value

valued_here : (value : ℕ → ℕ) (e : Applied) → value e.stamp ≡ e.value → e ≡ valued value (unvalued e)
valued_here value e is = ap (λ v. record { port = e.port; component = e.component; value = v; stamp = e.stamp }) (sym is)

valued_back : (value : ℕ → ℕ) (h : List Applied) → ((k : ℕ) (e : Applied) → slice_get h k ≡ Some e → value e.stamp ≡ e.value) → h ≡ map (valued value) (map unvalued h)
valued_back value [] f = refl
valued_back value (e ∷ h) f = ap (λ (x : Applied). x ∷ h) (valued_here value e (f 0 e refl)) ∙ ap (λ (l : List Applied). valued value (unvalued e) ∷ l) (valued_back value h (λ k x s. f (suc k) x s))

-- the entries that the trace adds are the history, with the values that their records hold
pub entries_told : (m : ℕ) (o : Opening) (words : List ℕ) (trace : List Event) (log : List Applied) → IsHistory o log → Agrees o words log →
    filter_map (event_entry m (λ _. 0)) trace ≡ map unvalued log → log ≡ filter_map (event_entry m (record_value words)) trace
entries_told m o words trace log hist agrees same =
    valued_back (record_value words) log (λ k e s. entry_value o words log k e hist agrees s)
    ∙ ap (map (valued (record_value words))) (sym same)
    ∙ sym (valued_trace m (record_value words) trace)
