-- An update of a port, as callers see it.
use Rattle.partial_long_lived.proofs.{Common.{ℕ, ◌≡◌, ◌<◌, Bool, true, false, [], sym, subst, ◌∙◌, arith, append-nil, TableId, Applied, IsLegal, LegalNotes, seen_by, AllByRecursion-get, LegalNotes-last, Change, CoreState, Exchanged, About, UpdatedIf, Asked, Refused, Component, Overtaken, EpochsSpent, Stand, IsOf, MemoryView, PortView, port_view, seen_in, IsHeld, epoch_at, port_at, IsIdle, HasUpdatedIf, RestsAt, CameBy, IsLate, IsOwnMachine, MayCall, UpdateEnded, noted_change, public_update, stamp_from, Call}, Answering.{callers_see, goes_seen, rests_unmarked, cause_seen}}
use Rattle.partial_lines.specs.declared.exchange.Exchanged.TheVariants.{Applied as IsApplied, Overtaken as IsOvertaken}
use Rattle.partial_long_lived.specs.Calls as calls

-- a port in a call rests where the call ends
pub rests_may : (table : TableId) (about : About) (s : Stand) (core : CoreState) (spent : Bool) → IsHeld table about s → RestsAt s core spent → spent ≡ false → MayCall (port_at s) core
rests_may table about s core spent h w spare = let both = rests_unmarked table about s core spent h w spare in record { rests = both.0; over = both.1 }

pub rests_own : (table : TableId) (about : About) (s : Stand) (core : CoreState) (spent : Bool) → IsHeld table about s → RestsAt s core spent → IsOwnMachine (port_at s) core
rests_own table about s core spent h w = record { idle = w.idle; sound = w.sound; sizes = w.sizes; port = w.port ∙ h.number }

pub own_rests : (table : TableId) (about : About) (s : Stand) (core : CoreState) (spent : Bool) → IsHeld table about s → IsIdle s → IsOwnMachine (port_at s) core → (spent ≡ false → MayCall (port_at s) core) →
    RestsAt s core spent
own_rests table about s core spent h free own may = record {
  free = free;
  idle = own.idle;
  sound = own.sound;
  sizes = own.sizes;
  port = own.port ∙ sym h.number;
  between = λ no. let m = may no in (m.rests.between, m.over, m.rests.pool, m.rests.slots, m.rests.kept m.over);
}

-- the public stamp of the entry that an update names fits a word
module _ (s t : Stand) (c : Change) (r : Exchanged) (w : UpdateEnded true c r s t) where
  legal_update : IsLegal (port_at t).about.opening (seen_in (port_at t).port) (port_at t).number (seen_by 0 (port_at s).notes) (noted_change t.epoch c r w.place)
  legal_update = LegalNotes-last (port_at t).about.opening (seen_in (port_at t).port) (port_at t).number 0 (port_at s).notes (noted_change t.epoch c r w.place)
      (subst (LegalNotes (port_at t).about.opening (seen_in (port_at t).port) (port_at t).number 0) w.notes w.goes.known.knows.legal)

  fits_by : (r : Exchanged) → IsLegal (port_at t).about.opening (seen_in (port_at t).port) (port_at t).number (seen_by 0 (port_at s).notes) (noted_change t.epoch c r w.place) → stamp_from t.epoch r < 18446744073709551616
  fits_by (IsApplied stamp) is = AllByRecursion-get (λ (a : Applied). a.stamp < 18446744073709551616) (seen_in (port_at t).port) w.place _ w.goes.known.fits.each is.1.0
  fits_by (IsOvertaken by) is =
      let entry = is.1.0 in
      subst (λ n. n < 18446744073709551616) entry.3 (AllByRecursion-get (λ (a : Applied). a.stamp < 18446744073709551616) (seen_in (port_at t).port) w.place entry.0 w.goes.known.fits.each entry.1)

  pub update_fits : stamp_from t.epoch r < 18446744073709551616
  update_fits = fits_by r legal_update

-- an update that ended, as callers see it
has_updated_seen : (table : TableId) (s t : Stand) (c : Change) (r : Exchanged) → UpdateEnded true c r s t → c.component < (port_at s).about.sizes.m →
    calls.Updates (port_view table s.seat.steps (port_at s)) c.component c.value (public_update t.epoch r) (port_view table t.seat.steps (port_at t))
has_updated_seen table s t c (IsApplied stamp) w inside =
    let first = w.began in
    let behind = w.behind in
    let within = w.within in (
      w.place,
      record {
        inside = (inside, tt);
        goes = goes_seen table (port_at s) (port_at t) _ w.goes w.notes;
        first = first;
        behind = behind;
        within = omega (arith, within);
      },
      within,
    )
has_updated_seen table s t c (IsOvertaken by) w inside =
    let first = w.began in
    let behind = w.behind in
    let within = w.within in (
      w.place,
      record {
        inside = (inside, tt);
        goes = goes_seen table (port_at s) (port_at t) _ w.goes w.notes;
        first = first;
        behind = behind;
        within = omega (arith, within);
      },
    )

-- an update that was refused, as callers see it
not_updated_seen : (table : TableId) (s t : Stand) (j v : ℕ) (cause : Refused) → (epoch_at t ≡ t.epoch) → IsLate 16 15 s cause t → CameBy true s t → j < (port_at s).about.sizes.m →
    calls.IsRefused (port_view table s.seat.steps (port_at s)) (Call.Update j v) cause (port_view table t.seat.steps (port_at t))
not_updated_seen table s t j v Component is late w inside = absurd late
not_updated_seen table s t j v Overtaken is late w inside = ((inside, tt), goes_seen table (port_at s) (port_at t) [] w.goes (w.notes ∙ sym (append-nil (port_at s).notes)), late)
not_updated_seen table s t j v EpochsSpent is late w inside = ((inside, tt), goes_seen table (port_at s) (port_at t) [] w.goes (w.notes ∙ sym (append-nil (port_at s).notes)), cause_seen table s.seat.steps t.seat.steps s t EpochsSpent is late)

-- a conditional update that ended, as callers see it
has_updated_if_seen : (table : TableId) (s t : Stand) (a : Asked) (r : UpdatedIf) → HasUpdatedIf a r s t → a.component < (port_at s).about.sizes.m →
    calls.UpdatesIf (port_view table s.seat.steps (port_at s)) a.component a.expected a.value r (port_view table t.seat.steps (port_at t))
has_updated_if_seen table s t a (UpdatedIf.Applied stamp) w inside =
    let first = w.began in
    let behind = w.behind in
    let within = w.within in (
      w.place,
      record {
        inside = (inside, tt);
        goes = goes_seen table (port_at s) (port_at t) _ w.goes w.notes;
        first = first;
        behind = behind;
        within = omega (arith, within);
      },
      within,
    )
has_updated_if_seen table s t a (UpdatedIf.Changed by) w inside =
    let first = w.began in
    let behind = w.behind in (
      w.place,
      record {
        inside = (inside, tt);
        goes = goes_seen table (port_at s) (port_at t) _ w.goes w.notes;
        first = first;
        behind = behind;
        within = w.within;
      },
    )

-- one that was refused, as callers see it
not_updated_if_seen : (table : TableId) (s t : Stand) (j e v : ℕ) (cause : Refused) → (epoch_at t ≡ t.epoch) → IsLate 16 15 s cause t → CameBy true s t → j < (port_at s).about.sizes.m →
    calls.IsRefused (port_view table s.seat.steps (port_at s)) (Call.UpdateIf j e v) cause (port_view table t.seat.steps (port_at t))
not_updated_if_seen table s t j e v Component is late w inside = absurd late
not_updated_if_seen table s t j e v Overtaken is late w inside = ((inside, tt), goes_seen table (port_at s) (port_at t) [] w.goes (w.notes ∙ sym (append-nil (port_at s).notes)), late)
not_updated_if_seen table s t j e v EpochsSpent is late w inside = ((inside, tt), goes_seen table (port_at s) (port_at t) [] w.goes (w.notes ∙ sym (append-nil (port_at s).notes)), cause_seen table s.seat.steps t.seat.steps s t EpochsSpent is late)

-- the same, as callers see the port
module _ (m : MemoryView) (t u : Stand) (p : PortView) (view : port_view t.seat.table_id t.seat.steps (port_at t) ≡ p) (own : IsOf m p) (held : IsHeld m.table m.about u) where
  pub update_answered : (c : Change) (r : Exchanged) → UpdateEnded true c r t u → c.component < m.about.sizes.m →
      calls.Updates p c.component c.value (public_update u.epoch r) (port_view u.seat.table_id u.seat.steps (port_at u))
  update_answered c r w inside =
      callers_see m t u p view own held (λ (a b : PortView). calls.Updates a c.component c.value (public_update u.epoch r) b)
      (has_updated_seen m.table t u c r w (subst (λ (a : About). c.component < a.sizes.m) (sym (sym w.goes.about ∙ held.own)) inside))

  pub update_refused : (j v : ℕ) (cause : Refused) → IsLate 16 15 t cause u → CameBy true t u → j < m.about.sizes.m →
      calls.IsRefused p (Call.Update j v) cause (port_view u.seat.table_id u.seat.steps (port_at u))
  update_refused j v cause late w inside =
      callers_see m t u p view own held (λ (a b : PortView). calls.IsRefused a (Call.Update j v) cause b)
      (not_updated_seen m.table t u j v cause (sym held.epoch) late w (subst (λ (a : About). j < a.sizes.m) (sym (sym w.goes.about ∙ held.own)) inside))

  pub update_if_answered : (a : Asked) (r : UpdatedIf) → HasUpdatedIf a r t u → a.component < m.about.sizes.m →
      calls.UpdatesIf p a.component a.expected a.value r (port_view u.seat.table_id u.seat.steps (port_at u))
  update_if_answered a r w inside =
      callers_see m t u p view own held (λ (x y : PortView). calls.UpdatesIf x a.component a.expected a.value r y)
      (has_updated_if_seen m.table t u a r w (subst (λ (b : About). a.component < b.sizes.m) (sym (sym w.goes.about ∙ held.own)) inside))

  pub update_if_refused : (j e v : ℕ) (cause : Refused) → IsLate 16 15 t cause u → CameBy true t u → j < m.about.sizes.m →
      calls.IsRefused p (Call.UpdateIf j e v) cause (port_view u.seat.table_id u.seat.steps (port_at u))
  update_if_refused j e v cause late w inside =
      callers_see m t u p view own held (λ (a b : PortView). calls.IsRefused a (Call.UpdateIf j e v) cause b)
      (not_updated_if_seen m.table t u j e v cause (sym held.epoch) late w (subst (λ (a : About). j < a.sizes.m) (sym (sym w.goes.about ∙ held.own)) inside))
