-- A change of epoch, from its look to the epoch that is entered.
use Rattle.partial_long_lived.proofs.{Common.{ℕ, ◌≡◌, ◌<◌, ◌≤◌, Bool, List, None, refl, ap, subst, ◌∙◌, Noted, Site, Port, arrived_port, About, Stand, Began, SeatedPort, plan_of, port_at, EpochEntered, StaysAt, LookFound, EpochChanged, Stays}, Coming.goes_on, Looking.looked_keeps}

module _ (first : Bool) (s t u v : Stand) (b : Bool) (kept : StaysAt s t) (looked : LookFound first s b t) (stays : Stays t u) (entered : EpochEntered u v) where
  abbrev site : Site
  site = record { epoch = v.epoch; arena = v.arena }

  -- a port that has entered that site
  abbrev come : About → ℕ → List Noted → Began → SeatedPort
  come a k notes n = record { about = a; number = k; port = arrived_port (plan_of a) k site entered.before; notes = notes; began = n; found = None; contention = (port_at u).contention }

  about_is : (port_at u).about ≡ (port_at s).about
  about_is = stays.goes.about ∙ kept.goes.about

  number_is : (port_at u).number ≡ (port_at s).number
  number_is = stays.goes.number ∙ kept.goes.number

  notes_are : (port_at u).notes ≡ (port_at s).notes
  notes_are = stays.notes ∙ ap (λ (x : SeatedPort). x.notes) looked.looks.2

  began_is : (port_at u).began ≡ looked.looks.0
  began_is = stays.began ∙ ap (λ (x : SeatedPort). x.began) looked.looks.2

  pub changed : EpochChanged first s v
  changed = record {
    shape = entered.shape ∙ stays.shape ∙ kept.shape;
    number = entered.number ∙ stays.number ∙ kept.number;
    goes = goes_on (port_at s) (port_at t) (port_at v) kept.goes (goes_on (port_at t) (port_at u) (port_at v) stays.goes entered.goes);
    n = looked.looks.0;
    began = looked.looks.1;
    before = entered.before;
    contention = (port_at u).contention;
    is = entered.is ∙ ap (λ a. come a (port_at u).number (port_at u).notes (port_at u).began) about_is ∙ ap (λ k. come (port_at s).about k (port_at u).notes (port_at u).began) number_is
        ∙ ap (λ l. come (port_at s).about (port_at s).number l (port_at u).began) notes_are ∙ ap (come (port_at s).about (port_at s).number (port_at s).notes) began_is;
    later = subst (λ (d : Site). d.epoch < v.epoch) (stays.here ∙ looked_keeps first s t b looked (λ (p : Port). p.control.here) (λ o. refl) refl) entered.later;
    fresh = subst (λ (n : Began). n.epoch ≤ v.epoch) began_is entered.fresh;
  }
