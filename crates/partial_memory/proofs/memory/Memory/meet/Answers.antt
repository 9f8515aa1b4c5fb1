use Rattle.partial_memory.proofs.{Common.{rules, arith, ◌≡◌, ◌+◌, meeting_steps, ap, sym, ◌∙◌, List, [], ◌∷◌, Me, SeatedPort, first_port, one_in, further_ports, MemoryView, PortView, port_view}, Views.deals, Looks.{looks_on, gathers}, Meetings.{both_of, joined, looked, meets, meets_lawfully, rests_met}}
use Rattle.partial_memory.proofs.memory.Memory.meet.Goals as goal

pub join_seat-requires : goal.join_seat-requires
join_seat-requires c =
    let here = ap (λ (m : Me (Unit {0}) (List SeatedPort)). m.0) c.take_seat.ensures.one in
    (search rules, search rules, ap (λ (m : Me (Unit {0}) (List SeatedPort)). m.1) c.take_seat.ensures.one, search rules, gathers _ _ _ _ _ (one_in c.second.inside.badge.views) here)

pub load-requires : goal.load-requires
load-requires c =
    let own : (one_in c.first.inside.badge.views).about ≡ c.self.inside.table.key = search rules in
    let own' : (one_in c.second.inside.badge.views).about ≡ c.self.inside.table.key = search rules in
    let both = joined _ _ _ _ _ c.take_seat-seat.ensures.one c.take_seat.ensures.one c.join_seat.ensures.2 in
    (search rules, search rules, looks_on _ _ _ _ (both_of _ (one_in c.first.inside.badge.views) (one_in c.second.inside.badge.views) _ both own own'))

pub split_seat-requires : goal.split_seat-requires
split_seat-requires c = (search rules, search rules, deals _ _ _)

pub invariant_of-first : goal.invariant_of-first
invariant_of-first c =
    let x = one_in c.first.inside.badge.views in
    let y = one_in c.second.inside.badge.views in
    let told = looked x y _ c.load.new.seat.me c.load.result (joined x y _ _ _ c.take_seat-seat.ensures.one c.take_seat.ensures.one c.join_seat.ensures.2) c.load.ensures.2 in
    let view = c.into_badge.ensures.1 ∙ ap (λ (m : Me (Unit {0}) (List SeatedPort)). m.0 ∷ []) c.split_seat.ensures.4 ∙ ap (λ (v : List SeatedPort). first_port v ∷ []) told.is in
    rests_met _ _ _ _ told.log c.first.invariant told.first view

pub invariant_of-second : goal.invariant_of-second
invariant_of-second c =
    let x = one_in c.first.inside.badge.views in
    let y = one_in c.second.inside.badge.views in
    let told = looked x y _ c.load.new.seat.me c.load.result (joined x y _ _ _ c.take_seat-seat.ensures.one c.take_seat.ensures.one c.join_seat.ensures.2) c.load.ensures.2 in
    let view = c.into_badge-2.ensures.1 ∙ ap (λ (m : Me (Unit {0}) (List SeatedPort)). m.0 ∷ []) c.split_seat.ensures.2 ∙ ap (λ (v : List SeatedPort). further_ports v ∷ []) told.is in
    rests_met _ _ _ _ told.log c.second.invariant told.second view

pub returns-clause-met : goal.returns-clause-met
returns-clause-met c =
    let x = one_in c.first.inside.badge.views in
    let y = one_in c.second.inside.badge.views in
    let told = looked x y _ c.load.new.seat.me c.load.result (joined x y _ _ _ c.take_seat-seat.ensures.one c.take_seat.ensures.one c.join_seat.ensures.2) c.load.ensures.2 in
    let first = c.into_badge.ensures.1 ∙ ap (λ (m : Me (Unit {0}) (List SeatedPort)). m.0 ∷ []) c.split_seat.ensures.4 in
    let second = c.into_badge-2.ensures.1 ∙ ap (λ (m : Me (Unit {0}) (List SeatedPort)). m.0 ∷ []) c.split_seat.ensures.2 in
    let seat = c.load.ensures.0 ∙ c.join_seat.ensures.0 ∙ c.take_seat-seat.ensures.table in
    let same : c.into_badge.result.table_id ≡ c.first.inside.badge.table_id = c.into_badge.ensures.0 ∙ c.split_seat.ensures.3 ∙ seat in
    let memory : c.args.first.now.memory ≡ c.args.second.now.memory = c.requires.0 ∙ sym c.requires.1 in
    let tables : c.first.inside.badge.table_id ≡ c.second.inside.badge.table_id =
    ap (λ (p : PortView). p.memory.table) c.first.view_is ∙ ap (λ (m : MemoryView). m.table) memory ∙ ap (λ (p : PortView). p.memory.table) (sym c.second.view_is) in
    let same' : c.into_badge-2.result.table_id ≡ c.second.inside.badge.table_id = c.into_badge-2.ensures.0 ∙ c.split_seat.ensures.0 ∙ seat ∙ tables in
    let one = c.take_seat-seat.ensures.steps in
    let two = c.take_seat.ensures.steps in
    let both = c.join_seat.ensures.3 in
    let look = c.load.ensures.3 in
    let split = c.split_seat.ensures.6 in
    let last = c.into_badge.ensures.2 in
    let all : c.into_badge.result.steps ≡ c.first.inside.badge.steps + c.second.inside.badge.steps + meeting_steps = omega (arith, one, two, both, look, split, last) in
    meets _ _ _ _ _ _ _ _ x y c.load.new.seat.me.0 _ _ _ _ told c.first.view_is c.second.view_is same same' first second all (c.into_badge-2.ensures.2 ∙ c.split_seat.ensures.5)

pub returns-clause-lawful : goal.returns-clause-lawful
returns-clause-lawful c =
    let x = one_in c.first.inside.badge.views in
    let y = one_in c.second.inside.badge.views in
    let told = looked x y _ c.load.new.seat.me c.load.result (joined x y _ _ _ c.take_seat-seat.ensures.one c.take_seat.ensures.one c.join_seat.ensures.2) c.load.ensures.2 in
    let first = c.into_badge.ensures.1 ∙ ap (λ (m : Me (Unit {0}) (List SeatedPort)). m.0 ∷ []) c.split_seat.ensures.4 in
    let second = c.into_badge-2.ensures.1 ∙ ap (λ (m : Me (Unit {0}) (List SeatedPort)). m.0 ∷ []) c.split_seat.ensures.2 in
    let seat = c.load.ensures.0 ∙ c.join_seat.ensures.0 ∙ c.take_seat-seat.ensures.table in
    let memory : port_view c.first.inside.badge.table_id c.first.inside.badge.steps x ≡ c.args.first.now = c.first.view_is in
    let table : c.first.inside.badge.table_id ≡ c.args.self.now.table = ap (λ (p : PortView). p.memory.table) memory ∙ ap (λ (m : MemoryView). m.table) c.requires.0 in
    let about : x.about ≡ c.args.self.now.about = ap (λ (p : PortView). p.memory.about) memory ∙ ap (λ (m : MemoryView). m.about) c.requires.0 in
    let same : c.into_badge.result.table_id ≡ c.args.self.now.table = c.into_badge.ensures.0 ∙ c.split_seat.ensures.3 ∙ seat ∙ table in
    let same' : c.into_badge-2.result.table_id ≡ c.args.self.now.table = c.into_badge-2.ensures.0 ∙ c.split_seat.ensures.0 ∙ seat ∙ table in
    meets_lawfully _ _ _ _ x y c.load.new.seat.me.0 _ _ _ told same same' about first second
