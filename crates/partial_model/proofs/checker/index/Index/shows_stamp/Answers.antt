use Rattle.partial_model.proofs.{Common.{nat_eq, sym, ◌∙◌, lt-leb}, IndexLaws.{shows_nothing, shows_late, shows_early}}
use Rattle.std.specs.HashMap as hash
use Rattle.partial_model.proofs.checker.index.Index.shows_stamp.Goals as goal

pub returns-in-None : goal.returns-in-None
returns-in-None c =
    sym (shows_nothing c.args.history.now c.args.prefix c.args.stamp c.args.components.now (hash.get nat_eq c.args.self.now.stamps) c.requires.index.stamps (sym c.in-None.ensures.value))

pub returns-then-prefix-place : goal.returns-then-prefix-place
returns-then-prefix-place c =
    c.contains.ensures.value ∙ sym (shows_late c.args.history.now c.args.prefix c.args.stamp c.in-Some.place.now c.args.components.now (hash.get nat_eq c.args.self.now.stamps)
    (record { port = 0; component = 0; value = 0; stamp = 0 }) c.requires.index.stamps (sym c.in-Some.ensures.value) c.if-prefix-place.true)

pub returns-else-prefix-place : goal.returns-else-prefix-place
returns-else-prefix-place c =
    lt-leb c.args.prefix c.in-Some.place.now c.if-prefix-place.false ∙ sym (shows_early c.args.history.now c.args.prefix c.args.stamp c.in-Some.place.now c.args.components.now
    (hash.get nat_eq c.args.self.now.stamps) (record { port = 0; component = 0; value = 0; stamp = 0 }) c.requires.index.stamps (sym c.in-Some.ensures.value) c.if-prefix-place.false)
