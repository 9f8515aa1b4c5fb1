-- When a call begins, and where a port that looks stands.
use Rattle.partial_long_lived.proofs.{Common.{ℕ, ◌≡◌, ◌<◌, ◌≤◌, ◌++◌, Bool, true, false, List, [], ◌∷◌, length, slice_index, refl, sym, ap, ◌∙◌, arith, length-append, Applied, Noted, current_word, packed, history_of, Port, Beside, LawfulEpochs, site_now, LawfulMemory, one_history, current_is, packed_arena, About, Began, BeganInTime, IsSeat, SeatedPort, plan_of, seen_in, BeganBy, same_site, Reckoning}, Seen.seen_begins}

-- what a port has seen is no more than there is
pub seen_few : (a : About) (words : List ℕ) (ports : ℕ → Port) (notes : ℕ → List Noted) (b : Beside) (reckoned : Reckoning) (x : SeatedPort) → LawfulMemory (plan_of a) words ports b notes →
    IsSeat a words ports notes b reckoned x → length (seen_in x.port) ≤ length (one_history b)
seen_few a words ports notes b reckoned x w s =
    let r = w.noted.reached x.number s.number in
    let g = seen_begins b x.port s.seen r.later r.log (r.is ∙ ap (λ (p : Port). r.later ++ r.log ∷ p.before) (sym s.port)) in
    let long = ap (λ (l : List Applied). length l) g.1 in
    let both = length-append (seen_in x.port) g.0 in
    omega (arith, long, both)

-- the call begins now
abbrev pub now : Beside → Began
now b = record { epoch = length b.before; length = length (one_history b) }

pub now_has_begun : (b : Beside) → BeganInTime b (now b)
now_has_begun b = record { come = omega arith; reached = λ later before log is epoch. by later before log is epoch }
  where
    by : (later before : List (List Applied)) (log : List Applied) → b.log ∷ b.before ≡ later ++ log ∷ before → length before ≡ length b.before → length (one_history b) ≤ length (history_of (log ∷ before))
    by [] before log is epoch = let same = ap (λ (l : List (List Applied)). length (history_of l)) is in omega (arith, same)
    by (h ∷ later) before log is epoch =
        let long = ap (λ (l : List (List Applied)). length l) is in
        let both = length-append later (log ∷ before) in
        absurd (omega (arith, long, both, epoch))

-- when the call of a step began
pub began_by : (first : Bool) (x : SeatedPort) (b : Beside) → length (seen_in x.port) ≤ length (one_history b) → BeganInTime b x.began → (n : Began) × BeganBy first x n × BeganInTime b n
began_by true x b few w = (now b, few, now_has_begun b)
began_by false x b few w = (x.began, refl, w)

-- a port that finds its own site as the current one stands there
pub here_is : (a : About) (words : List ℕ) (ports : ℕ → Port) (b : Beside) → LawfulEpochs (plan_of a) words ports b → (k : ℕ) → k < a.ports →
    slice_index words current_word ≡ packed (ports k).control.here → (ports k).control.here ≡ site_now b
here_is a words ports b w k below at =
    let both = packed_arena (plan_of a) (ports k).control.here (site_now b) w.plan.arenas (w.control.sites k below).arena w.control.site.arena (sym at ∙ current_is (plan_of a) words ports b k w below) in
    same_site (ports k).control.here (site_now b) both.0 both.1
