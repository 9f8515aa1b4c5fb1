use Rattle.partial_text.proofs.{Common.{refl, ◌∙◌}, Bytes.written_more}
use Rattle.partial_text.proofs.writing.write_text.Goals as goal

pub loop-rest-preserved : goal.loop-rest-preserved
loop-rest-preserved g c =
    let w = c.in-Some.ensures in
    let h = written_more (g.W.Write.contents c.args.writer.now.inner) (g.W.Write.contents c.loop-rest.writer.inner) (g.W.Write.contents c.write.new.self.inner) c.args.text.now c.loop-rest.rest.now
    c.in-Some.count c.loop-rest.invariant.short c.loop-rest.invariant.left c.loop-rest.invariant.written w.bytes.1 w.bytes.3 _ refl in
    record { clean = w.bytes.2 ∙ c.loop-rest.invariant.clean; short = h.0; left = h.1; written = h.2 }
