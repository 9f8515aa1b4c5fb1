use Rattle.partial_long_lived.proofs.{Common.{IsOf, of_last, rules, ◌≡◌, ap, sym, ◌∙◌, subst, List, arith, slots_items, Me, TableId, About, SeatedPort, IsShapeOf, MemoryView, port_view}, Meets.gathers, Closes.{Ends, closes, closes_lawfully, ends, have_shape, taken_more, taken_none}}
use Rattle.partial_long_lived.proofs.long_lived.LongLived.close.Goals as goal

pub loop-port-init : goal.loop-port-init
loop-port-init c =
    let one = c.into_seat-seat.ensures.one in
    record {
      table = search rules;
      left = c.requires.rest;
      taken = taken_none _ c.args.self.table c.into_seat-seat.result.steps one.0 c.args.port c.args.rest.items one.1
          (ap (λ (t : TableId). port_view t c.into_seat-seat.result.steps one.0) (sym (ap (λ (m : MemoryView). m.table) c.requires.port)) ∙ one.2);
    }

pub join_seat-requires : goal.join_seat-requires
join_seat-requires c =
    let of = of_last (IsOf c.args.self) _ _ _ c.loop-port.invariant.left c.in-Some.ensures.items in
    let one = c.into_seat.ensures.one in
    let table = c.into_seat.ensures.table ∙ ap (λ (m : MemoryView). m.table) (of.1 ∙ sym c.self.view_is) in
    let words = c.self.invariant.1 in
    (c.loop-port.invariant.table, table, ap (λ (m : Me (Unit {0}) (List SeatedPort)). m.1) one.1, omega (arith, words), gathers _ _ _ _ _)

pub loop-port-preserved : goal.loop-port-preserved
loop-port-preserved c =
    let of = of_last (IsOf c.args.self) _ _ _ c.loop-port.invariant.left c.in-Some.ensures.items in
    let one = c.into_seat.ensures.one in
    let join = ap (λ (m : Me (Unit {0}) (List SeatedPort)). m.0) c.join_seat.ensures.2 in
    record {
      table = c.join_seat.ensures.0 ∙ c.loop-port.invariant.table;
      left = of.0;
      taken = taken_more _ c.args.self.table c.into_seat.result.steps one.0 c.args.port _ _ _ _ _ _ c.loop-port.invariant.taken c.in-Some.ensures.items one.1
          (ap (λ (t : TableId). port_view t c.into_seat.result.steps one.0) (sym (ap (λ (m : MemoryView). m.table) of.1)) ∙ one.2) join;
    }

pub last_values-requires-clause-last : goal.last_values-requires-clause-last
last_values-requires-clause-last c =
    let end = c.close_with-words.ensures.values.2 in
    let e = ends c.self.inside.table.key _ _ _ end.0 end.1.0 end.1.1 end.2 in
    have_shape c.self.inside.shape _ _ c.self.invariant.0 e.have

pub returns-clause-closed : goal.returns-clause-closed
returns-clause-closed c =
    let end = c.close_with-words.ensures.values.2 in
    let same : c.self.inside.table.key ≡ c.args.self.about = ap (λ (m : MemoryView). m.about) c.self.view_is in
    let words = slots_items c.close_with-words.result.words in
    let here : Ends c.args.self.about words c.loop-port.seat.me.0 =
    subst (λ (a : About). Ends a words c.loop-port.seat.me.0) same (ends c.self.inside.table.key _ _ _ end.0 end.1.0 end.1.1 end.2) in
    let shape : IsShapeOf c.self.inside.shape c.args.self.about = subst (IsShapeOf c.self.inside.shape) same c.self.invariant.0 in
    let none = sym c.loop-port.rest.ok.0 ∙ c.in_default-pop.ensures.cases.0 in
    closes c.args.self c.self.inside.shape c.args.port c.args.rest.items _ _ _ _ here c.loop-port.invariant.taken none shape c.last_values.ensures

pub returns-clause-lawful : goal.returns-clause-lawful
returns-clause-lawful c =
    let end = c.close_with-words.ensures.values.2 in
    let same : c.self.inside.table.key ≡ c.args.self.about = ap (λ (m : MemoryView). m.about) c.self.view_is in
    let words = slots_items c.close_with-words.result.words in
    let here : Ends c.args.self.about words c.loop-port.seat.me.0 =
    subst (λ (a : About). Ends a words c.loop-port.seat.me.0) same (ends c.self.inside.table.key _ _ _ end.0 end.1.0 end.1.1 end.2) in
    let shape : IsShapeOf c.self.inside.shape c.args.self.about = subst (IsShapeOf c.self.inside.shape) same c.self.invariant.0 in
    let none = sym c.loop-port.rest.ok.0 ∙ c.in_default-pop.ensures.cases.0 in
    closes_lawfully c.args.self c.self.inside.shape c.args.port c.args.rest.items _ _ _ _ here c.loop-port.invariant.taken none shape c.last_values.ensures
