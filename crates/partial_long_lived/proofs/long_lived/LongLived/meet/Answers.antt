use Rattle.partial_long_lived.proofs.{Common.{◌≡◌, arith, sym, ap, ◌∙◌, subst, vec_len, MemoryView, PortView, IsResting, Knows, seen_in, port_at}, Answering.{rests_anew, rests_here}, Meetings.{all_seen, comparable_seen, goes_met, met_lawfully, met_out}, Resting.rests_on}
use Rattle.partial_long_lived.proofs.long_lived.LongLived.meet.Goals.{then-one-first_epoch, else-one-first_epoch, then-other-second_epoch, else-other-second_epoch}
use Rattle.partial_long_lived.specs.declared.port.Port.TheInside.{Inside}
use Rattle.partial_long_lived.proofs.long_lived.LongLived.meet.Goals as goal

pub invariant_of-first : goal.invariant_of-first
invariant_of-first c =
    let m : MemoryView = record { table = c.self.inside.table.table_id; about = c.self.inside.table.key } in
    let own = ap (λ (q : PortView). q.memory) c.first.view_is ∙ c.requires.0 ∙ sym c.self.view_is in
    let s = c.first.inside.stand in
    let o = c.second.inside.stand in
    let out = c.take_out-one.ensures in
    let u = c.meet-one.result.0 in
    let come = (met_out s c.take_out-one.result o c.take_out-other.result u c.first.invariant.0.rests.free out.kept out.same c.take_out-other.ensures.same c.meet-one.ensures.met.0).come in
    let rests = c.first.invariant.0.rests in
    let number = c.first.invariant.0.held.number in
    elim c.if-one-first_epoch.branch [
      | then-one-first_epoch w ↦ subst (λ (x : Inside). IsResting u x.core x.spent × (vec_len x.collected ≡ u.shape.sizes.m)) (sym w.first-inside-is)
          (rests_on m s u _ _ _ _ _ c.first.invariant.0 own c.first.invariant.1 c.meet-one.ensures.first
          (rests_anew s u _ _ number c.first.invariant.0.held.known.plan come rests (λ same. w.if-one-first_epoch.true (same ∙ sym out.kept.epoch)) _ w.clear_marks.ensures))
      | else-one-first_epoch w ↦ subst (λ (x : Inside). IsResting u x.core x.spent × (vec_len x.collected ≡ u.shape.sizes.m)) (sym w.first-inside-is)
          (rests_on m s u _ _ _ _ _ c.first.invariant.0 own c.first.invariant.1 c.meet-one.ensures.first (rests_here s u _ _ come rests (w.if-one-first_epoch.false ∙ out.kept.epoch)))
    ]

pub invariant_of-second : goal.invariant_of-second
invariant_of-second c =
    let m : MemoryView = record { table = c.self.inside.table.table_id; about = c.self.inside.table.key } in
    let own = ap (λ (q : PortView). q.memory) c.second.view_is ∙ c.requires.1 ∙ sym c.self.view_is in
    let s = c.second.inside.stand in
    let o = c.first.inside.stand in
    let out = c.take_out-other.ensures in
    let u = c.meet-one.result.1 in
    let come = (met_out s c.take_out-other.result o c.take_out-one.result u c.second.invariant.0.rests.free out.kept out.same c.take_out-one.ensures.same c.meet-one.ensures.met.1).come in
    let rests = c.second.invariant.0.rests in
    let number = c.second.invariant.0.held.number in
    elim c.if-other-second_epoch.branch [
      | then-other-second_epoch w ↦ subst (λ (x : Inside). IsResting u x.core x.spent × (vec_len x.collected ≡ u.shape.sizes.m)) (sym w.second-inside-is)
          (rests_on m s u _ _ _ _ _ c.second.invariant.0 own c.second.invariant.1 c.meet-one.ensures.second
          (rests_anew s u _ _ number c.second.invariant.0.held.known.plan come rests (λ same. w.if-other-second_epoch.true (same ∙ sym out.kept.epoch)) _ w.clear_marks-then-other-second_epoch.ensures))
      | else-other-second_epoch w ↦ subst (λ (x : Inside). IsResting u x.core x.spent × (vec_len x.collected ≡ u.shape.sizes.m)) (sym w.second-inside-is)
          (rests_on m s u _ _ _ _ _ c.second.invariant.0 own c.second.invariant.1 c.meet-one.ensures.second (rests_here s u _ _ come rests (w.if-other-second_epoch.false ∙ out.kept.epoch)))
    ]

pub returns-clause-met : goal.returns-clause-met
returns-clause-met c =
    let m : MemoryView = record { table = c.self.inside.table.table_id; about = c.self.inside.table.key } in
    let own = c.requires.0 ∙ sym c.self.view_is in
    let own' = c.requires.1 ∙ sym c.self.view_is in
    let s = c.first.inside.stand in
    let o = c.second.inside.stand in
    let one = c.take_out-one.ensures in
    let other = c.take_out-other.ensures in
    let u = c.meet-one.result.0 in
    let v = c.meet-one.result.1 in
    let met = c.meet-one.ensures in
    let first = met_out s c.take_out-one.result o c.take_out-other.result u c.first.invariant.0.rests.free one.kept one.same other.same met.met.0 in
    let second = met_out o c.take_out-other.result s c.take_out-one.result v c.second.invariant.0.rests.free other.kept other.same one.same met.met.1 in
    record {
      first = goes_met _ s o u _ c.first.view_is own met.first first;
      second = goes_met _ o s v _ c.second.view_is own' met.second second;
      first_all = all_seen _ o _ c.second.view_is own' u met.first first.all;
      second_all = all_seen _ s _ c.first.view_is own v met.second second.all;
      first_knows = subst (λ (q : PortView). Knows q.memory.about q.number (seen_in (port_at u).port) q.notes) c.second.view_is first.knows;
      second_knows = subst (λ (q : PortView). Knows q.memory.about q.number (seen_in (port_at v).port) q.notes) c.first.view_is second.knows;
      one = comparable_seen u v met.order;
    }

pub returns-clause-lawful : goal.returns-clause-lawful
returns-clause-lawful c =
    let m : MemoryView = record { table = c.self.inside.table.table_id; about = c.self.inside.table.key } in
    met_lawfully m c.meet-one.result.0 c.meet-one.result.1 c.meet-one.ensures.first c.meet-one.ensures.lawful

pub returns-clause-steps : goal.returns-clause-steps
returns-clause-steps c =
    let one = c.take_out-one.ensures.steps in
    let other = c.take_out-other.ensures.steps in
    let met = c.meet-one.ensures.steps in
    let first = ap (λ (p : PortView). p.steps) c.first.view_is in
    let second = ap (λ (p : PortView). p.steps) c.second.view_is in
    omega (arith, one, other, met, first, second)
