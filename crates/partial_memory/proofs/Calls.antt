-- The steps of a call, one after the other.
use Rattle.partial_memory.proofs.Common.{ℕ, ◌≡◌, ◌+◌, ◌<◌, ◌++◌, ◌⊎◌, ◌||◌, Bool, true, false, if◌then◌else◌, Some, None, List, [], ◌∷◌, length, sym, ap, subst, ◌∙◌, inl, inr, arith, length_push, Step, Layout, IsLayout, total, word_of, CoreState, advance, step_of, reply_of, is_begun, refuses_pool, refuses_slots, due_is_unreplied, due_words_are_there, Part, KeptAnswer, HasBegun, IsMachineOf, StepShows, first_steps_make_calls, further_steps_make_calls, About, SeatedPort, AreByOpened, SeatShows, Begins, CallMade, CountsOn, HasCounted}

-- the machine that a step leads to, and its port
module _ (x : SeatedPort) (c : CoreState) (y : SeatedPort) (a : ℕ) (z : SeatedPort) (about : y.about ≡ x.about) (t : SeatShows c y a z) where
  abbrev TellsFor : About → Type 0
  TellsFor o = StepShows o.sizes o.opening t.log t.entries y.part c a z.part

  tells_here : TellsFor x.about
  tells_here = subst TellsFor about t.tells

  others_here : AreByOpened x.about z.part.seen
  others_here = subst (λ (o : About). AreByOpened o z.part.seen) about t.others

-- the first step
first_made : (b : CoreState) (x : SeatedPort) (a : ℕ) (z : SeatedPort) → Begins b x → SeatShows b x a z → CallMade b x (advance b a) z
first_made b x a z w t =
    let m = first_steps_make_calls x.about.sizes x.about.opening t.log t.entries b x.part a z.part w.begun w.sound t.tells in
    record {
      about = t.about;
      made = m;
      others = t.others;
      pool = t.tells.behind.pool;
      slots = t.tells.behind.slots;
    }

-- a further step
next_made : (b : CoreState) (x : SeatedPort) (c : CoreState) (y : SeatedPort) (a : ℕ) (z : SeatedPort) → CallMade b x c y → reply_of c ≡ None → SeatShows c y a z →
    CallMade b x (advance c a) z
next_made b x c y a z m none t =
    record {
      about = t.about ∙ m.about;
      made = further_steps_make_calls x.about.sizes x.about.opening t.log t.entries b x.part c y.part a z.part m.made (tells_here x c y a z m.about t);
      others = others_here x c y a z m.about t;
      pool = t.tells.behind.pool ∙ ap (λ p. refuses_pool (reply_of (advance c a)) || p) (m.pool ∙ ap (λ r. refuses_pool r || b.pool_spent) none);
      slots = t.tells.behind.slots ∙ ap (λ p. refuses_slots (reply_of (advance c a)) || p) (m.slots ∙ ap (λ r. refuses_slots r || b.slots_spent) none);
    }

-- the answer of a step is kept, after those of the call before it
kept_then : (c : CoreState) (y : SeatedPort) (a : ℕ) (z : SeatedPort) (began : Bool) → is_begun c.stage ≡ began → (t : SeatShows c y a z) →
    z.part.kept ≡ (if began then [] else y.part.kept) ++ record { answer = a; at = length (t.log ++ t.entries) } ∷ []
kept_then c y a z began is t = ap (λ (v : Part). v.kept) t.tells.part ∙ ap (λ f. (if f then [] else y.part.kept) ++ record { answer = a; at = length (t.log ++ t.entries) } ∷ []) is

-- and a seat that has made one step more has counted it
pub first_counted : (b : CoreState) (x : SeatedPort) (a : ℕ) (z : SeatedPort) → Begins b x → SeatShows b x a z → (n m : ℕ) → m ≡ n + 1 → HasCounted n z m
first_counted b x a z w t n m more = more ∙ ap (λ (ks : List KeptAnswer). n + length ks) (sym (kept_then b x a z true w.begun.begun t))

pub next_counted : (c : CoreState) (y : SeatedPort) (a : ℕ) (z : SeatedPort) → is_begun c.stage ≡ false → SeatShows c y a z → (n m : ℕ) → m ≡ n + 1 → CountsOn n y m z
next_counted c y a z going t n m more k before =
    let count : length z.part.kept ≡ length y.part.kept + 1 = ap length (kept_then c y a z false going t) ∙ length_push y.part.kept _ in
    omega (arith, more, before, count)

-- A call in the middle: it is begun and has made no step, or it has made some.
abbrev pub Runs : CoreState → SeatedPort → CoreState → SeatedPort → Type 0
Runs b x c y = ((c ≡ b) × (y ≡ x)) ⊎ CallMade b x c y

pub runs_on : (b : CoreState) (x : SeatedPort) (c : CoreState) (y : SeatedPort) (a : ℕ) (z : SeatedPort) (s : Step) → Begins b x → Runs b x c y → step_of c ≡ Some s →
    SeatShows c y a z → CallMade b x (advance c a) z
runs_on b x c y a z s begins (inl w) due t =
    let told : SeatShows b x a z = subst (λ (d : CoreState). SeatShows d x a z) w.0 (subst (λ (v : SeatedPort). SeatShows c v a z) w.1 t) in
    subst (λ (d : CoreState). CallMade b x (advance d a) z) (sym w.0) (first_made b x a z begins told)
runs_on b x c y a z s begins (inr m) due t = next_made b x c y a z m (due_is_unreplied c s due) t

-- the machine of a call in the middle is its port's
pub runs_machine : (b : CoreState) (x : SeatedPort) (c : CoreState) (y : SeatedPort) → Begins b x → Runs b x c y → IsMachineOf c y.part
runs_machine b x c y begins (inl w) = inl (subst (λ (v : SeatedPort). HasBegun c v.part) (sym w.1) (subst (λ (d : CoreState). HasBegun d x.part) (sym w.0) begins.begun))
runs_machine b x c y begins (inr m) = inr m.made.machine

-- the word of the step that is due is there
pub runs_within : (b : CoreState) (x : SeatedPort) (c : CoreState) (y : SeatedPort) (s : Step) → Begins b x → Runs b x c y → step_of c ≡ Some s → word_of s < total x.about.sizes
runs_within b x c y s begins (inl w) due =
    subst (λ (z : Layout). word_of s < total z) begins.sizes (due_words_are_there b s begins.layout begins.sound (ap step_of (sym w.0) ∙ due))
runs_within b x c y s begins (inr m) due =
    let sizes : c.sizes ≡ x.about.sizes = m.made.sizes in
    subst (λ (z : Layout). word_of s < total z) sizes (due_words_are_there c s (subst IsLayout (begins.sizes ∙ sym sizes) begins.layout) m.made.sound due)
