use Rattle.partial_memory.proofs.{Common.{IsOf, of_last, rules, ◌≡◌, ap, sym, ◌∙◌, subst, List, arith, slots_items, Me, Layout, About, TableId, SeatedPort, MemoryView, port_view}, Looks.gathers, Closes.{Ends, taken_none, taken_more, own_one, own_more, ends, closes}}
use Rattle.partial_memory.proofs.memory.Memory.close.Goals as goal

pub loop-port-init : goal.loop-port-init
loop-port-init c =
    let about : About = c.self.inside.table.key in
    let own = ap (λ (m : MemoryView). m.about) (c.requires.port ∙ sym c.self.view_is) in
    let one = c.into_seat-seat.ensures.one in
    record {
      table = search rules;
      own = own_one _ _ _ one.0 c.args.port about one.1 one.2 own;
      left = c.requires.rest;
      taken = taken_none _ c.args.self.table _ one.0 c.args.port c.args.rest.items one.1
          (ap (λ (t : TableId). port_view t c.into_seat-seat.result.steps one.0) (sym (ap (λ (m : MemoryView). m.table) c.requires.port)) ∙ one.2);
    }

pub join_seat-requires : goal.join_seat-requires
join_seat-requires c =
    let of = of_last (IsOf c.args.self) _ _ _ c.loop-port.invariant.left c.in-Some.ensures.items in
    let one = c.into_seat.ensures.one in
    let table = c.into_seat.ensures.table ∙ ap (λ (m : MemoryView). m.table) (of.1 ∙ sym c.self.view_is) in
    (c.loop-port.invariant.table, table, ap (λ (m : Me (Unit {0}) (List SeatedPort)). m.1) one.1, search rules, gathers _ _ _ _ _ one.0 (ap (λ (m : Me (Unit {0}) (List SeatedPort)). m.0) one.1))

pub loop-port-preserved : goal.loop-port-preserved
loop-port-preserved c =
    let of = of_last (IsOf c.args.self) _ _ _ c.loop-port.invariant.left c.in-Some.ensures.items in
    let one = c.into_seat.ensures.one in
    let join = ap (λ (m : Me (Unit {0}) (List SeatedPort)). m.0) c.join_seat.ensures.2 in
    let own = ap (λ (m : MemoryView). m.about) (of.1 ∙ sym c.self.view_is) in
    record {
      table = c.join_seat.ensures.0 ∙ c.loop-port.invariant.table;
      own = own_more _ _ _ _ c.loop-port.invariant.own (own_one _ _ _ one.0 _ _ one.1 one.2 own) join;
      left = of.0;
      taken = taken_more _ c.args.self.table _ one.0 c.args.port _ _ _ _ _ _ c.loop-port.invariant.taken c.in-Some.ensures.items one.1
          (ap (λ (t : TableId). port_view t c.into_seat.result.steps one.0) (sym (ap (λ (m : MemoryView). m.table) of.1)) ∙ one.2) join;
    }

pub closed_of-closed-requires : goal.closed_of-closed-requires
closed_of-closed-requires c =
    let end = c.close_with-words.ensures.values.2 in
    let e = ends c.self.inside.table.key _ _ _ end.0 end.1.0 end.1.1 end.2 c.loop-port.invariant.own in
    let layout = e.records.sizes in
    let a = layout.components in
    let b = layout.slots in
    let l = layout.lists in
    let p = layout.pool in
    let count = c.close_with-words.ensures.counts.0 in
    let words = c.self.invariant.1 in
    let long = e.count in
    let m = c.m.ensures.value in
    record {
      full = (c.close_with-words.ensures.values.0, omega (arith, count, words, a.1, b.1, l, p.1));
      count = omega (arith, count, words, long);
      records = (c.self.inside.table.key.sizes, c.self.inside.table.key.opening, e.log, e.records, search rules);
    }

pub returns : goal.returns
returns c =
    let end = c.close_with-words.ensures.values.2 in
    let e : Ends c.self.inside.table.key _ _ = ends c.self.inside.table.key _ _ _ end.0 end.1.0 end.1.1 end.2 c.loop-port.invariant.own in
    let same : c.self.inside.table.key ≡ c.args.self.about = ap (λ (m : MemoryView). m.about) c.self.view_is in
    let words = slots_items c.close_with-words.result.words in
    let here : Ends c.args.self.about words c.loop-port.seat.me.0 = subst (λ (a : About). Ends a words c.loop-port.seat.me.0) same e in
    let count : c.m.result ≡ c.args.self.about.sizes.m = c.m.ensures.value ∙ ap (λ (z : Layout). z.m) c.self.invariant.0 ∙ ap (λ (a : About). a.sizes.m) same in
    let shown = c.in_ok-closed.ensures c.args.self.about.sizes c.args.self.about.opening here.log here.records (sym count) in
    let both = closes c.args.self c.args.port c.args.rest.items _ _ _ c.in_ok-closed.field-0 c.m.result here c.loop-port.invariant.taken
    (sym c.loop-port.rest.ok.0 ∙ c.in_default.ensures.cases.0) count shown in
    record { closed = both.0; lawful = both }
