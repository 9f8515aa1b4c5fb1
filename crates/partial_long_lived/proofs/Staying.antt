-- A port stays where it stands, from part to part of a call.
use Rattle.partial_long_lived.proofs.{Common.{refl, ◌∙◌, TableId, About, Stand, IsHeld, port_at, HasSamePart, Remains, Stays}, Coming.{goes_on, goes_same}}

pub stays_same : (table : TableId) (about : About) (s : Stand) → IsHeld table about s → Stays s s
stays_same table about s h = record {
  shape = refl;
  number = refl;
  epoch = refl;
  arena = refl;
  base = refl;
  goes = goes_same (port_at s) h.known;
  here = refl;
  entering = refl;
  notes = refl;
  began = refl;
}

pub stays_then : (s t u : Stand) → Stays s t → Stays t u → Stays s u
stays_then s t u a b = record {
  shape = b.shape ∙ a.shape;
  number = b.number ∙ a.number;
  epoch = b.epoch ∙ a.epoch;
  arena = b.arena ∙ a.arena;
  base = b.base ∙ a.base;
  goes = goes_on (port_at s) (port_at t) (port_at u) a.goes b.goes;
  here = b.here ∙ a.here;
  entering = b.entering ∙ a.entering;
  notes = b.notes ∙ a.notes;
  began = b.began ∙ a.began;
}

pub same_itself : (s : Stand) → HasSamePart s s
same_itself s = record { part = refl; before = refl; over = refl }

pub same_then : (s t u : Stand) → HasSamePart s t → HasSamePart t u → HasSamePart s u
same_then s t u a b = record { part = b.part ∙ a.part; before = b.before ∙ a.before; over = b.over ∙ a.over }

pub remains_same : (table : TableId) (about : About) (s : Stand) → IsHeld table about s → Remains s s
remains_same table about s h = record { stays = stays_same table about s h; same = same_itself s; passed = refl }

pub remains_then : (s t u : Stand) → Remains s t → Remains t u → Remains s u
remains_then s t u a b = record { stays = stays_then s t u a.stays b.stays; same = same_then s t u a.same b.same; passed = b.passed ∙ a.passed }
