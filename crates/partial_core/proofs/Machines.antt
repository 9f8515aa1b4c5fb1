-- The machines of a lawful state.
use Rattle.partial_core.proofs.{Common.{◌⊎◌, sym, ap, subst, ◌∙◌, inl, inr, CoreState, IsSound, due_at, HasBegun, IsLedTo, IsReady, LawfulMachinesAreReady}, Steps.{known_here, sizes_here, sound_here, port_here}, AllSteps.{fresh_call, begin_lawful}}

pub lawful_machines_are_ready : LawfulMachinesAreReady
lawful_machines_are_ready z o m c w its = by its
  where
    by : HasBegun c m.part ⊎ IsLedTo c m.part → IsReady z c m.part
    by (inl h) =
        let k = known_here z o (record m { part = fresh_call c m.part }) (begin_lawful z o m w c h) in
        let sound = k.sound in
        record { sound = sound; sizes = k.sizes; number = h.like.port ∙ port_here z o m w; due = due_at c c.stage sound.stage }
    by (inr l) =
        let sound : IsSound c = subst IsSound (sym l.is) (sound_here z o m w) in
        record {
          sound = sound;
          sizes = ap (λ (s : CoreState). s.sizes) l.is ∙ sizes_here z o m w;
          number = ap (λ (s : CoreState). s.port) l.is ∙ port_here z o m w;
          due = due_at c c.stage sound.stage;
        }
