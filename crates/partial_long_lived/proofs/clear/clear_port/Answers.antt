use Rattle.std.proofs.Common.{rules, tests}
use Rattle.partial_long_lived.proofs.{Common.{false, ◌∙◌, arith, sym}, Looking.{away_owns, away_past, looked_remains, looked_searching, entering_puts}, Working.{loaded_away, loaded_entering, loaded_there, meets_then, on_then}, Staying.{remains_then}}
use Rattle.partial_long_lived.proofs.clear.clear_port.Goals as goal

pub put_port-requires-clause-may : goal.put_port-requires-clause-may
put_port-requires-clause-may c =
    let holds = c.load_port-found.ensures.loaded.entering_from c.if-found-lt-ENTERING_BIT.false in
    entering_puts _ c.look.new.stand _ c.args.arena c.args.port c.load_port-found.result holds c.look.ensures.looked c.if-look.true

pub returns-else-found-from-clause-cleared : goal.returns-else-found-from-clause-cleared
returns-else-found-from-clause-cleared c = search (tests, rules)

pub returns-else-look : goal.returns-else-look
returns-else-look c =
    let load = c.load_port-found.ensures in
    let look = c.look.ensures in
    let holds = load.loaded.entering_from c.if-found-lt-ENTERING_BIT.false in record {
      held = look.held;
      remains = remains_then _ _ _ load.remains (looked_remains _ _ _ look.kept look.looked);
      cleared = (
        away_owns false c.load_port-found.new.stand c.look.new.stand c.look.result look.looked c.args.arena c.if-look.false
            (record { stands = holds.stands; owned = holds.owned; is = holds.is; arena = holds.arena }),
        away_past false c.load_port-found.new.stand c.look.new.stand c.look.result look.looked c.if-look.false,
      );
      meets = tt;
      steps = let one = load.steps in let more = look.steps in omega (arith, one, more);
    }

pub returns-then-found-from : goal.returns-then-found-from
returns-then-found-from c =
    let load = c.load_port-found.ensures in
    let same = c.if-found-from.true ∙ c.from.ensures in
    let there = load.loaded.there c.if-found-lt-ENTERING_BIT.true same in record {
      held = load.held;
      remains = load.remains;
      cleared = record { stands = there.stands; owned = there.owned; is = there.is; arena = there.arena };
      meets = loaded_there _ _ _ _ c.if-found-lt-ENTERING_BIT.true same load.meets;
      steps = let one = load.steps in omega (arith, one);
    }

pub returns-else-found-from-clause-meets : goal.returns-else-found-from-clause-meets
returns-else-found-from-clause-meets c =
    loaded_away _ _ _ _ c.if-found-lt-ENTERING_BIT.true (λ same. c.if-found-from.false (same ∙ sym c.from.ensures)) c.load_port-found.ensures.meets

pub put_port-requires-clause-searches : goal.put_port-requires-clause-searches
put_port-requires-clause-searches c =
    let load = loaded_entering _ _ _ _ c.if-found-lt-ENTERING_BIT.false c.load_port-found.ensures.meets in
    (looked_searching _ _ _ _ _ c.look.ensures.looked c.if-look.true load.searches).searches

pub returns-then-look-clause-meets : goal.returns-then-look-clause-meets
returns-then-look-clause-meets c =
    let load = loaded_entering _ _ _ _ c.if-found-lt-ENTERING_BIT.false c.load_port-found.ensures.meets in
    let look = looked_searching _ _ _ _ _ c.look.ensures.looked c.if-look.true load.searches in
    meets_then c.put_port.result c.args.arena _ _ _ (on_then _ _ _ _ _ _ _ load look) c.put_port.ensures.meets
