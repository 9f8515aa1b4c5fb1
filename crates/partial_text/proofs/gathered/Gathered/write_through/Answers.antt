use Rattle.std.proofs.Common.{rules}
use Rattle.partial_text.proofs.{Common.[], TextGiven.tells_then}
use Rattle.partial_text.specs.Inner.TextGiven.{GivesBytes, text_given}
use Rattle.partial_text.proofs.gathered.Gathered.write_through.Goals as goal

pub returns : goal.returns
returns g c =
    let contents = g.W.Write.contents in
    let handed : GivesBytes (text_given contents c.args.self.now c.args.writer.now) [] (text_given contents [] c.hand_on.new.writer) = search rules in
    let told : GivesBytes (text_given contents [] c.hand_on.new.writer) c.args.bytes.now (text_given contents c.hand_on.new.self c.put.new.writer) = search rules in
    tells_then _ _ _ _ _ handed told
