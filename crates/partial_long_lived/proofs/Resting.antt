-- A port between two calls: what holds of its seat in a call, and after it.
use Rattle.partial_long_lived.proofs.Common.{ℕ, ◌≡◌, Bool, sym, ap, subst, ◌∙◌, CoreState, TableId, Plan, About, Stand, IsOf, MemoryView, port_view, IsResting, IsHeld, RestsAt, port_at}

-- the seat of a port that rests is held in a call
pub held_resting : (m : MemoryView) (s : Stand) (core : CoreState) (spent : Bool) → IsResting s core spent → IsOf m (port_view s.seat.table_id s.seat.steps (port_at s)) → IsHeld m.table m.about s
held_resting m s core spent w own = subst (λ (v : MemoryView). IsHeld v.table v.about s) own w.held

-- a port whose seat is held belongs to its memory
pub own_held : (m : MemoryView) (s : Stand) → IsHeld m.table m.about s → IsOf m (port_view s.seat.table_id s.seat.steps (port_at s))
own_held m s h = ap (λ (i : TableId). record { table = i; about = (port_at s).about }) h.fits ∙ ap (λ (a : About). record { table = m.table; about = a }) h.own

-- and rests where its call ends
pub rests_held : (m : MemoryView) (s : Stand) (core : CoreState) (spent : Bool) → IsHeld m.table m.about s → RestsAt s core spent → IsResting s core spent
rests_held m s core spent h w = record { held = subst (λ (v : MemoryView). IsHeld v.table v.about s) (sym (own_held m s h)) h; rests = w }

-- with as much room for the words of a collect as before
pub rests_on : (m : MemoryView) (s t : Stand) (core core' : CoreState) (spent spent' : Bool) (room : ℕ) → IsResting s core spent → IsOf m (port_view s.seat.table_id s.seat.steps (port_at s)) → room ≡ s.shape.sizes.m →
    IsHeld m.table m.about t → RestsAt t core' spent' → IsResting t core' spent' × (room ≡ t.shape.sizes.m)
rests_on m s t core core' spent spent' room w own is h rests =
    (rests_held m t core' spent' h rests, is ∙ ap (λ (e : Plan). e.sizes.m) (sym (held_resting m s core spent w own).shape ∙ h.shape))
