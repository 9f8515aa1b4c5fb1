-- The machine that a port keeps after a call: with the marks of the call's machine, and sound.
use Rattle.partial_lines.proofs.Common.{◌≡◌, Bool, refl, sym, ap, subst, ◌∙◌, nat_eq, Layout, Stage, Idle, CoreState, at_stage, AreComponentIndices, IsSound, is_sound_at, IsMarkedLike, RestsLike}
use Rattle.partial_words.specs.declared.block.Block.{Block}
use Rattle.partial_machine.specs.Sound.{IsInPool}
use Rattle.std.specs.List.{IsDistinct}
use Rattle.partial_active.specs.{Found.{Buffers, AreFoundFor as AreBuffersFor}, GetSet.GetSetState}
use Rattle.partial_machine.proofs.Laws.{rests_are_sound}

-- the port goes on with the machine of the call
pub rests_there : (c core : CoreState) → IsSound c → core ≡ at_stage c Idle → RestsLike c core
rests_there c core known is = record {
  like = subst (IsMarkedLike c) (sym is) (record { sizes = refl; port = refl; pool = refl; slots = refl; lists = refl; spare = refl });
  ahead = ap (λ (d : CoreState). d.ahead) is;
  idle = ap (λ (d : CoreState). d.stage) is;
  sound = subst IsSound (sym is) (rests_are_sound.idle c known);
}

-- it goes on with the machine before an update, but for the marks and what the machine m after the getSet had found
pub update_rests : (s m c core : CoreState) (p : Bool) (g : GetSetState) (f : Buffers) (b : Block) → IsSound s → s.stage ≡ Idle → IsSound m → m.sizes ≡ s.sizes → m.found ≡ f → IsMarkedLike c core → core.ahead ≡ c.ahead →
    IsInPool core.sizes core.spare.at core.spare.size → core ≡ record s { pool_spent = p; get_set = g; found = f; spare = b } → RestsLike c core
update_rests s m c core p g f b sound idle known sizes found like ahead within is = record {
  like = like;
  ahead = ahead;
  idle = ap (λ (d : CoreState). d.stage) is ∙ idle;
  sound =
      let buffers : AreBuffersFor s.sizes m.found = subst (λ (z : Layout). AreBuffersFor z m.found) sizes known.found in
      let indices : AreComponentIndices s.sizes m.found.indices = subst (λ (z : Layout). AreComponentIndices z m.found.indices) sizes known.indices in
      subst IsSound (sym is) (record {
        asked = sound.asked;
        found = subst (AreBuffersFor s.sizes) found buffers;
        indices = subst (λ (l : Buffers). AreComponentIndices s.sizes l.indices) found indices;
        distinct = subst (λ (l : Buffers). IsDistinct nat_eq l.indices) found known.distinct;
        rows = sound.rows;
        ahead = sound.ahead;
        spare = subst (λ (d : CoreState). IsInPool d.sizes d.spare.at d.spare.size) is within;
        stage = subst (λ (t : Stage). is_sound_at (record s { pool_spent = p; get_set = g; found = f; spare = b }) t) (sym idle) tt;
      });
}
