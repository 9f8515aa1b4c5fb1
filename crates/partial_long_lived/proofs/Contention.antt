-- What a port has met never shrinks, and how the search of each port goes on.
use Rattle.partial_long_lived.proofs.{Common.{ℕ, ◌≡◌, ◌+◌, ◌<◌, ◌≤◌, ◌==◌, nat_lt, Bool, true, false, if◌then◌else◌, List, refl, arith, seal, entering_bit, OwnedArena, Site, Port, Contention, Search, Reckoning, IsSearching, passing, meeting, contention_giving, contention_taking, contention_there, contention_loading, contention_putting, entering_from, unpacked, Wish, Glances, Reads, Expects, Finds, contention_by, Plan, Counts, Move}}

either_seals : (c : Bool) (m x y : Contention) → x.seals ≡ m.seals → y.seals ≡ m.seals → (if c then x else y).seals ≡ m.seals
either_seals true m x y p q = p
either_seals false m x y p q = q

-- a search is no seal
pub taking_seals : (i a : ℕ) (m : Contention) → (contention_taking i a m).seals ≡ m.seals
taking_seals i a m = either_seals (a == 0) m m (passing i m) refl refl

pub giving_seals : (past : Bool) (o : OwnedArena) (m : Contention) → (contention_giving past o m).seals ≡ m.seals
giving_seals past o m = either_seals past m m (passing o.arena m) refl refl

there_seals : (a : ℕ) (o : OwnedArena) (m : Contention) → (contention_there a o m).seals ≡ m.seals
there_seals a o m = either_seals ((unpacked a).arena == o.arena) m (meeting m) m refl refl

pub loading_seals : (a : ℕ) (o : OwnedArena) (m : Contention) → (contention_loading a o m).seals ≡ m.seals
loading_seals a o m = either_seals (nat_lt a entering_bit) m (contention_there a o m) m (there_seals a o m) refl

pub putting_seals : (d : Site) (a : ℕ) (o : OwnedArena) (m : Contention) → (contention_putting d a o m).seals ≡ m.seals
putting_seals d a o m = either_seals (a == entering_from d) m m (if nat_lt a entering_bit then contention_there a o m else meeting m) refl
    (either_seals (nat_lt a entering_bit) m (contention_there a o m) (meeting m) (there_seals a o m) refl)

either_more : (c : Bool) (m x y : Contention) → m.seals ≤ x.seals → m.seals ≤ y.seals → m.seals ≤ (if c then x else y).seals
either_more true m x y p q = p
either_more false m x y p q = q

-- a load may find a seal more, and leaves the search as it was
pub by_more : (wish : Wish) (a : ℕ) (m : Contention) → m.seals ≤ (contention_by wish a m).seals
by_more Glances a m = omega arith
by_more Reads a m = omega arith
by_more Finds a m = omega arith
by_more (Expects expected v) a m = either_more (nat_lt a seal) m m (record m { seals = m.seals + 1 }) (omega arith) (omega arith)

pub by_search : (wish : Wish) (a : ℕ) (m : Contention) → (contention_by wish a m).search ≡ m.search
by_search Glances a m = refl
by_search Reads a m = refl
by_search Finds a m = refl
by_search (Expects expected v) a m = by (nat_lt a seal)
  where
    by : (c : Bool) → (if c then m else record m { seals = m.seals + 1 }).search ≡ m.search
    by true = refl
    by false = refl

-- the search of each port goes on by each step
pub searching_on : (e : Plan) (words words' : List ℕ) (ports ports' : ℕ → Port) (now now' : Site) (r : Reckoning) (since' : ℕ → ℕ) (k : ℕ) (m : Move) (c : Counts e words words' ports ports' now now' r.since since' r.tally k m) →
    now.epoch ≤ now'.epoch → (q : ℕ) (s : Search) → q < e.ports → IsSearching e words ports now r q s → IsSearching e words' ports' now' (record { since = since'; tally = c.there }) q s
searching_on e words words' ports ports' now now' r since' k m c later q s low w = record {
  come = let come = w.come in omega (arith, come, later);
  begun = let begun = w.begun in let more = c.grows in omega (arith, begun, more);
  within = w.within;
  bound = λ is.
      let come = w.come in
      let was = w.bound (omega (arith, is, come, later)) in
      let less = c.less (omega (arith, is, come, later)) in
      omega (arith, was, less);
  busy = λ is none x below.
      let come = w.come in
      let begun = w.begun in
      let more = c.grows in
      let within = w.within in
      c.stays (omega (arith, none, begun, more)) q x low (omega (arith, below, within)) (w.busy (omega (arith, is, come, later)) (omega (arith, none, begun, more)) x below);
}
