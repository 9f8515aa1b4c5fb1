use Rattle.partial_picture.proofs.Common.{ap, sym, ◌∙◌, ◌≡◌, rules}
use Rattle.std.proofs.Common.{map, length}
use Rattle.std.specs.List.{filter_map}
use Rattle.partial_picture.specs.Bars.{bar_of, bar_seen, bars_in}
use Rattle.partial_picture.specs.Made.{made_by_ports, made_seen, steps_by_port}
use Rattle.partial_picture.specs.Pins.{won_steps}
use Rattle.partial_picture.specs.Arrows.{arrow_at, arrow_of, arrow_seen, entry_step}
use Rattle.partial_picture.proofs.Seen.{arrows_seen, bars_seen, made_are}
use Rattle.partial_picture.proofs.picture.Picture.of_span.Goals as goal

pub returns-clause-bars : goal.returns-clause-bars
returns-clause-bars c =
    let o = c.args.outcome.now in
    let own : map (λ v. v.items) c.in_ok-own.own.items ≡ steps_by_port c.args.ports o.trace.items = search rules in
    let entries : c.in_ok-entries.entries.items ≡ won_steps c.args.sizes.m o.trace.items = search rules in
    let made : map made_seen c.in_ok-made.made.items ≡ made_by_ports (map (λ v. v.items) c.in_ok-own.own.items) c.in_ok-entries.entries.items o.calls.items = search rules in
    let is = made_are c.args.sizes.m c.args.ports o.trace.items o.calls.items c.in_ok-own.own.items c.in_ok-entries.entries.items c.in_ok-made.made.items own entries made in
    let bars : c.in_ok-bars_of.field-0.items ≡ filter_map (bar_of c.args.window (length o.trace.items)) c.in_ok-made.made.items = search rules in
    ap (map bar_seen) bars ∙ bars_seen c.args.window (length o.trace.items) c.in_ok-made.made.items ∙ ap (bars_in c.args.window (length o.trace.items)) is

pub returns-clause-arrows : goal.returns-clause-arrows
returns-clause-arrows c =
    let o = c.args.outcome.now in
    let m = c.args.sizes.m in
    let step = entry_step o.history.items (won_steps m o.trace.items) in
    let own : map (λ v. v.items) c.in_ok-own.own.items ≡ steps_by_port c.args.ports o.trace.items = search rules in
    let entries : c.in_ok-entries.entries.items ≡ won_steps m o.trace.items = search rules in
    let made : map made_seen c.in_ok-made.made.items ≡ made_by_ports (map (λ v. v.items) c.in_ok-own.own.items) c.in_ok-entries.entries.items o.calls.items = search rules in
    let is = made_are m c.args.ports o.trace.items o.calls.items c.in_ok-own.own.items c.in_ok-entries.entries.items c.in_ok-made.made.items own entries made in
    let found : c.in_ok-arrows_of.field-0.items ≡ filter_map (arrow_of m c.args.window o.trace.items (entry_step o.history.items c.in_ok-entries.entries.items)) c.in_ok-made.made.items = search rules in
    let arrows : c.in_ok-arrows_of.field-0.items ≡ filter_map (arrow_of m c.args.window o.trace.items step) c.in_ok-made.made.items = rw (sym entries) found in
    ap (map arrow_seen) arrows ∙ arrows_seen m c.args.window o.trace.items step c.in_ok-made.made.items ∙ ap (filter_map (arrow_at m c.args.window o.trace.items step)) is
