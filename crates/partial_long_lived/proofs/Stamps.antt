-- The stamps of a scan: those that the words name which it has collected last.
use Rattle.partial_long_lived.proofs.{Common.{ℕ, ◌≡◌, ◌++◌, Option, None, true, false, is_some, List, [], ◌∷◌, length, map, sym, ap, ◌∙◌, arith, ext_get_or, get_or-map, length-map, SeatedPort, Stand, port_at, seen_in, StaysAt, HasNotedScan, noted_scan, ArePublic, ScannedNamed, ScannedStamped, stamp_at}, Coming.goes_on}

-- A scan led from s to t, and the loads of its stamps on to u, of which nothing is new.
module _ (s t u : Stand) (which values : List ℕ) (collects : ℕ) (borrowed : Option ℕ) (ws stamps : List ℕ) (named : ScannedNamed s t which values collects borrowed ws) (none : borrowed ≡ None)
    (kept : StaysAt t u) (same : port_at u ≡ port_at t) (many : length stamps ≡ length which) (public : ArePublic (port_at t) which ws stamps (length which)) where
  scanned_on : HasNotedScan s u which values collects borrowed
  scanned_on = let w = named.scanned in record {
    shape = kept.shape ∙ w.shape;
    number = kept.number ∙ w.number;
    later = let up = w.later in let epoch = kept.epoch in omega (arith, up, epoch);
    goes = goes_on (port_at s) (port_at t) (port_at u) w.goes kept.goes;
    idle = record {
      stands = ap (λ (z : SeatedPort). z.port.control.entering) same ∙ w.idle.stands;
      free = ap (λ (z : SeatedPort). z.port.control.owned) same ∙ w.idle.free;
    };
    place = w.place;
    notes = ap (λ (z : SeatedPort). z.notes) same ∙ w.notes
        ∙ ap (λ e. (port_at s).notes ++ noted_scan e which values collects borrowed w.place ∷ []) (sym kept.epoch);
    first = let first = w.first in let began = ap (λ (z : SeatedPort). z.began.length) same in omega (arith, first, began);
    behind = let behind = w.behind in let began = ap (λ (z : SeatedPort). z.began.length) same in omega (arith, behind, began);
    within = let within = w.within in let seen = ap (λ (z : SeatedPort). length (seen_in z.port)) same in omega (arith, within, seen);
  }

  pub stamped_after : ScannedStamped s u which values collects borrowed stamps
  unfolding scanned_on
  stamped_after = record {
    scanned = scanned_on;
    stamps_are = λ _.
        let there : ℕ → ℕ = λ j. stamp_at (port_at t) named.scanned.place j in
        let long = length-map which there in
        let names = named.stamps none in
        ext_get_or 0 stamps (map there which) (many ∙ sym long)
        (λ k low.
        public k (omega (arith, low, many)) ∙ (names k (omega (arith, low, many))).1 ∙ sym (get_or-map there which k 0 0 (omega (arith, low, many))))
        ∙ ap (λ (z : SeatedPort). map (λ j. stamp_at z named.scanned.place j) which) (sym same);
  }

-- a scan that took a view returns none
pub stamped_none : (s t : Stand) (which values : List ℕ) (collects : ℕ) (borrowed : Option ℕ) (ws stamps : List ℕ) → is_some borrowed ≡ true →
    ScannedNamed s t which values collects borrowed ws → ScannedStamped s t which values collects borrowed stamps
stamped_none s t which values collects borrowed ws stamps some named = record {
  scanned = named.scanned;
  stamps_are = λ none. (let bad : true ≡ false = sym some ∙ ap is_some none in cc);
}
