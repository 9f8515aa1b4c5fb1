use Rattle.std.proofs.Common.{rules}
use Rattle.partial_text.proofs.{Common.{◌≡◌, sym, subst, List, ℕ, ◌++◌}, TextGiven.{tells_then, tells_gathered}}
use Rattle.partial_text.specs.Inner.TextGiven.{GivesBytes, text_given}
use Rattle.partial_text.proofs.gathered.Gathered.tell.Goals as goal

pub returns-then-is_err : goal.returns-then-is_err
returns-then-is_err g c =
    let contents = g.W.Write.contents in
    let gathered : c.extend_from_slice.new.self.items ≡ c.make_room.new.self = search rules in
    let told : GivesBytes (text_given contents c.make_room.new.self c.make_room.new.writer) c.args.bytes.now (text_given contents c.write_through.new.self c.write_through.new.writer) = search rules in
    tells_then _ _ _ _ _ c.make_room.ensures told

pub returns-else-is_err : goal.returns-else-is_err
returns-else-is_err g c =
    let contents = g.W.Write.contents in
    let gathered : c.extend_from_slice.new.self.items ≡ c.make_room.new.self ++ c.args.bytes.now = search rules in
    let before = c.make_room.new in
    tells_then _ _ _ _ _ c.make_room.ensures
    (subst (λ (xs : List ℕ). GivesBytes (text_given contents before.self before.writer) c.args.bytes.now (text_given contents xs before.writer)) (sym gathered)
    (tells_gathered before.self c.args.bytes.now (contents before.writer.inner) before.writer.failed))
