-- An idle machine, whose getSet or embedded scan was made.
use Rattle.partial_machine.proofs.Common.{ℕ, ◌≡◌, sym, subst, Layout, Idle, CoreState, IsMachine, is_sound_at, AreIndices, few_indices}
use Rattle.partial_active.specs.{Found.{Buffers, AreFoundFor as AreBuffersFor}, GetSet.GetSetState}
use Rattle.partial_embedded.specs.Embedded as viewing
use Rattle.partial_machine.specs.Lines.{with_embedded, with_set}

pub found_idle : (s : CoreState) (room : ℕ) (z : Layout) (f : Buffers) → IsMachine s room → s.stage ≡ Idle → z ≡ s.sizes → AreBuffersFor z f → AreIndices z.m f.indices →
    IsMachine (record s { found = f }) room
found_idle s room z f w idle same buffers indices =
    let named : AreIndices s.sizes.m f.indices = subst (λ (y : Layout). AreIndices y.m f.indices) same indices in
    record {
      sizes = w.sizes;
      port = w.port;
      sound = record {
        asked = w.sound.asked;
        found = subst (λ y. AreBuffersFor y f) same buffers;
        indices = record { few = few_indices s.sizes.m f.indices named; each = named.each };
        distinct = named.distinct;
        rows = w.sound.rows;
        ahead = w.sound.ahead;
        spare = w.sound.spare;
        stage = subst (is_sound_at (record s { found = f })) (sym idle) tt;
      };
      enough = w.enough;
    }

pub set_idle : (s : CoreState) (g : GetSetState) (room : ℕ) → IsMachine s room → s.stage ≡ Idle → IsMachine (with_set s g) room
set_idle s g room w idle = record {
  sizes = w.sizes;
  port = w.port;
  sound = record {
    asked = w.sound.asked;
    found = w.sound.found;
    indices = w.sound.indices;
    distinct = w.sound.distinct;
    rows = w.sound.rows;
    ahead = w.sound.ahead;
    spare = w.sound.spare;
    stage = subst (is_sound_at (with_set s g)) (sym idle) tt;
  };
  enough = w.enough;
}

pub kept_idle : (s : CoreState) (e : viewing.EmbeddedState) (room : ℕ) → IsMachine s room → s.stage ≡ Idle → IsMachine (with_embedded s e) room
kept_idle s e room w idle = record {
  sizes = w.sizes;
  port = w.port;
  sound = record {
    asked = w.sound.asked;
    found = w.sound.found;
    indices = w.sound.indices;
    distinct = w.sound.distinct;
    rows = w.sound.rows;
    ahead = w.sound.ahead;
    spare = w.sound.spare;
    stage = subst (is_sound_at (with_embedded s e)) (sym idle) tt;
  };
  enough = w.enough;
}
