-- The rounds of a conditional update: a comparison, perhaps an attempt, and a change of epoch, and so on.
use Rattle.partial_long_lived.proofs.{Common.{◌≡◌, ◌≤◌, ◌++◌, Bool, true, false, ◌∷◌, [], List, refl, ap, subst, ◌∙◌, TableId, Noted, CoreState, About, UpdatedIf, Asked, Stand, SeatGoes, IsHeld, port_at, IsIdle, EndedIf, HasUpdatedIf, noted_if, RestsAt, CameBy, IsOwnMachine, MayCall, NotesNothing}, Coming.goes_on, Rounds.{BeganSo, began_on, goes_nowhere, may_own}, Updates.{rests_may, rests_own}}

-- A part of a call, after which the call goes on. `next` says that its next step is its first one, else the port's epoch was the current one
-- during the call; `spent` says that the port may make no claim there.
pub record ComparesOn (table : TableId) (about : About) (next spent : Bool) (s t : Stand) (core : CoreState) : Type 0 where
  pub held : IsHeld table about t
  pub idle : IsIdle t
  pub own : IsOwnMachine (port_at t) core
  pub may : spent ≡ false → MayCall (port_at t) core
  pub shape : t.shape ≡ s.shape
  pub number : t.number ≡ s.number
  pub goes : SeatGoes (port_at s) (port_at t)
  pub notes : (port_at t).notes ≡ (port_at s).notes
  pub began : BeganSo true next s t
  pub fresh : next ≡ false → (port_at t).began.epoch ≤ t.epoch

pub compares_begin : (table : TableId) (about : About) (s : Stand) (core : CoreState) (spent : Bool) → IsHeld table about s → RestsAt s core spent → ComparesOn table about true spent s s core
compares_begin table about s core spent h w = record {
  held = h;
  idle = w.free;
  own = rests_own table about s core spent h w;
  may = λ no. rests_may table about s core spent h w no;
  shape = refl;
  number = refl;
  goes = goes_nowhere table about s h;
  notes = refl;
  began = refl;
  fresh = λ bad. cc;
}

module _ (table : TableId) (about : About) (next spent : Bool) (s u : Stand) (core : CoreState) (on : ComparesOn table about next spent s u core) (t : Stand) where
  -- the round has ended the update
  pub compares_ended : (a : Asked) (r : UpdatedIf) → EndedIf next a r u t → HasUpdatedIf a r s t
  compares_ended a r w =
      let goes = w.stayed.kept.goes in
      record {
        shape = w.stayed.kept.shape ∙ on.shape;
        number = w.stayed.kept.number ∙ on.number;
        goes = goes_on (port_at s) (port_at u) (port_at t) on.goes goes;
        began = began_on true next s u (port_at t).began on.began on.goes w.stayed.began;
        place = w.place;
        notes = w.notes ∙ ap (λ (l : List Noted). l ++ noted_if a r w.place ∷ []) on.notes;
        behind = w.behind;
        within = w.within;
      }

  -- it has noted nothing, and so has come so far
  pub compares_met : NotesNothing next u t → CameBy true s t
  compares_met w = record {
    shape = w.stayed.kept.shape ∙ on.shape;
    number = w.stayed.kept.number ∙ on.number;
    goes = goes_on (port_at s) (port_at u) (port_at t) on.goes w.stayed.kept.goes;
    notes = w.notes ∙ on.notes;
    began = began_on true next s u (port_at t).began on.began on.goes w.stayed.began;
  }

-- the call goes on in a later epoch
pub compares_again : (table : TableId) (about : About) (s t : Stand) (core : CoreState) → IsHeld table about t → IsIdle t → MayCall (port_at t) core → CameBy true s t →
    (port_at t).began.epoch ≤ t.epoch → ComparesOn table about false false s t core
compares_again table about s t core h idle may came fresh_now = record {
  held = h;
  idle = idle;
  own = may_own (port_at t) core may;
  may = λ no. may;
  shape = came.shape;
  number = came.number;
  goes = came.goes;
  notes = came.notes;
  began = came.began;
  fresh = λ later. fresh_now;
}

-- so far the call has made a step, and noted nothing
pub compares_came : (table : TableId) (about : About) (next spent : Bool) (s t : Stand) (core : CoreState) → ComparesOn table about next spent s t core → next ≡ false → CameBy true s t
compares_came table about next spent s t core on later = record {
  shape = on.shape;
  number = on.number;
  goes = on.goes;
  notes = on.notes;
  began = subst (λ (n : Bool). BeganSo true n s t) later on.began;
}
