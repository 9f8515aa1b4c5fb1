-- The passes of a search for a free arena are few.
use Rattle.std.proofs.Math.Nat.{mul-le-mul_right}
use Rattle.partial_long_lived.proofs.{Common.{ℕ, ◌≡◌, ◌+◌, ◌-◌, ◌*◌, ◌<◌, ◌≤◌, Bool, true, false, if◌then◌else◌, arith, inl, inr, eqb_tells, About, Stand, TableId, refl, ◌∙◌, IsHeld, IsIdle, IsPast, Remains, Searches, SearchesOn, search_at, PassBegun, SearchBegun, most_freed, arena_steps, claim_steps, pass_steps, port_at, ap}, Counts.round_more}

-- a pass that has tried the arenas below i
pub record OnePass (table : TableId) (about : About) (s : Stand) (i : ℕ) (t : Stand) : Type 0 where
  pub held : IsHeld table about t
  pub remains : Remains s t
  pub idle : IsIdle t
  pub searches : SearchesOn false i s t
  pub steps : t.seat.steps ≤ s.seat.steps + i * arena_steps about

-- no pass yet
pub none_passed : (s : Stand) → Searches false 0 s → SearchesOn false 0 s s
none_passed s w = record { searches = w; same = record { freed = refl; most = refl } }

-- the port's own arena is passed over
pub own_passed : (s t : Stand) (i : ℕ) → i ≡ (port_at t).port.control.here.arena → SearchesOn false i s t → SearchesOn false (i + 1) s t
own_passed s t i own w = record {
  searches = record {
    epoch = (w.searches).epoch;
    past = (w.searches).past;
    met_is = (w.searches).met_is;
    passed = λ y low. elim (eqb_tells y i) [
      | inl same ↦ inr (same.1 ∙ own)
      | inr ne ↦ let other = ne.1 in (w.searches).passed y (omega (arith, low, other))
    ];
  };
  same = w.same;
}

-- How many passes there may be yet.
abbrev pub passes_left : Bool → Stand → ℕ
passes_left current s = if current then 1 + ((search_at s).most - (search_at s).freed) else 0

-- The search after some passes, in each of which an arena has come free: another one may begin, or the port's epoch has ended.
abbrev pub GoesOnOrEnds : Bool → ℕ → About → Stand → Type 0
GoesOnOrEnds true passes about t = Searches false 0 t × ((search_at t).freed ≤ (search_at t).most) × ((search_at t).most + passes ≤ (search_at t).freed + most_freed about.ports)
GoesOnOrEnds false passes about t = IsPast t × (passes ≤ most_freed about.ports + 1)

pub record SearchedSo (current : Bool) (about : About) (s t : Stand) : Type 0 where
  pub passes : ℕ
  pub so : GoesOnOrEnds current passes about t
  pub steps : t.seat.steps ≤ s.seat.steps + (1 + passes * pass_steps about)

-- the look by which it begins
pub begins_so : (b : Bool) (about : About) (s t : Stand) → SearchBegun b t → (port_at t).about ≡ about → t.seat.steps ≤ s.seat.steps + 1 → SearchedSo b about s t
begins_so true about s t begun own one =
    let most = begun.1 in
    let ports = ap (λ (a : About). most_freed a.ports) own in record {
      passes = 0;
      so = (begun.0, omega (arith, most), omega (arith, most, ports));
      steps = omega (arith, one);
    }
begins_so false about s t begun own one = record { passes = 0; so = (begun, omega arith); steps = omega (arith, one) }

-- one pass more, and the look after it
module _ (about : About) (s t u v : Stand) (w : SearchedSo true about s t) (passed : SearchesOn false about.arenas t u) (tried : u.seat.steps ≤ t.seat.steps + about.arenas * arena_steps about) (one : v.seat.steps ≤ u.seat.steps + 1) where
  step : v.seat.steps ≤ s.seat.steps + (1 + (w.passes + 1) * pass_steps about)
  step =
      let so_far = w.steps in
      let now = round_more w.passes (pass_steps about) (s.seat.steps + 1) t.seat.steps v.seat.steps (omega (arith, so_far)) (omega (arith, tried, one)) in
      omega (arith, now)

  pub passes_on : (b : Bool) → PassBegun b u v → SearchedSo b about s v
  passes_on true begun =
      let same = (passed.same).freed in
      let most = (passed.same).most in
      let kept = begun.1 in
      let more = begun.2 in
      let within = begun.3 in
      let few = (w.so).2 in record {
        passes = w.passes + 1;
        so = (begun.0, within, omega (arith, few, same, most, kept, more));
        steps = let now = step in omega (arith, now);
      }
  passes_on false begun =
      let freed = (w.so).1 in
      let few = (w.so).2 in record {
        passes = w.passes + 1;
        so = (begun, omega (arith, freed, few));
        steps = let now = step in omega (arith, now);
      }

  -- fewer are left
  pub fewer_left : (b : Bool) → PassBegun b u v → passes_left b v < passes_left true t
  fewer_left true begun =
      let same = (passed.same).freed in
      let most = (passed.same).most in
      let kept = begun.1 in
      let more = begun.2 in
      let within = begun.3 in
      omega (arith, same, most, kept, more, within)
  fewer_left false begun = omega arith

-- all passes, and a last one that isn't whole
pub ends_within : (about : About) (s t u : Stand) → SearchedSo true about s t → u.seat.steps ≤ t.seat.steps + about.arenas * arena_steps about → u.seat.steps ≤ s.seat.steps + claim_steps about
ends_within about s t u w tried =
    let freed = (w.so).1 in
    let few = (w.so).2 in
    let so_far = w.steps in
    let all : (w.passes + 1) * pass_steps about ≤ (most_freed about.ports + 1) * pass_steps about = mul-le-mul_right (pass_steps about) (omega (arith, freed, few)) in
    let last = round_more w.passes (pass_steps about) (s.seat.steps + 1) t.seat.steps u.seat.steps (omega (arith, so_far)) (omega (arith, tried)) in
    omega (arith, all, last)

pub ended_within : (about : About) (s t : Stand) → SearchedSo false about s t → t.seat.steps ≤ s.seat.steps + claim_steps about
ended_within about s t w =
    let few = (w.so).1 in
    let so_far = w.steps in
    let all : w.passes * pass_steps about ≤ (most_freed about.ports + 1) * pass_steps about = mul-le-mul_right (pass_steps about) few in
    omega (arith, so_far, all)
