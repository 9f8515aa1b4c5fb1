use Rattle.partial_long_lived.proofs.{Common.{false, refl, HasCome}, Answering.{rests_anew, rests_here}, Coming.{come_same, come_seen, read_ends, settled_began, settled_come, settled_fresh, settled_notes}}
use Rattle.partial_long_lived.proofs.read.read_late.Goals as goal

pub returns-then-stand-epoch-clause-rests : goal.returns-then-stand-epoch-clause-rests
returns-then-stand-epoch-clause-rests c =
    let t = c.args.stand.now in
    let v = c.load_record-value.new.stand in
    let again = c.see-at.ensures in
    let record_is = c.load_record-value.ensures in
    let come : HasCome t v = come_same t _ v (come_seen t _ _ _ _ _ _ c.settle.ensures.settled.come again.kept again.sees) record_is.kept record_is.same in
    rests_anew t v _ _ c.requires.held.number c.requires.held.known.plan come c.requires.rests c.if-stand-epoch.true _ c.clear_marks.ensures

pub returns-else-stand-epoch-clause-rests : goal.returns-else-stand-epoch-clause-rests
returns-else-stand-epoch-clause-rests c =
    let t = c.args.stand.now in
    let v = c.load_record-value.new.stand in
    let again = c.see-at.ensures in
    let record_is = c.load_record-value.ensures in
    let come : HasCome t v = come_same t _ v (come_seen t _ _ _ _ _ _ c.settle.ensures.settled.come again.kept again.sees) record_is.kept record_is.same in
    rests_here t v _ _ come c.requires.rests c.if-stand-epoch.false

pub returns-then-stand-epoch-clause-read : goal.returns-then-stand-epoch-clause-read
returns-then-stand-epoch-clause-read c s h idle stays met =
    let t = c.args.stand.now in
    let settled = c.settle.ensures in
    let again = c.see-at.ensures in
    let record_is = c.load_record-value.ensures in
    let v = c.settle.new.stand in
    let w = c.see-at.new.stand in
    let come = settled_come _ _ s t v w h idle stays _ _ met.sees met.sealed settled.settled settled.held _ again.sees in
    let fresh_now = settled_fresh _ _ s t v w h idle stays _ _ met.sees met.sealed settled.settled settled.held _ again.sees in
    let notes = settled_notes _ _ s t v w h idle stays _ _ met.sees met.sealed settled.settled settled.held _ again.sees in
    let began = settled_began _ _ s t v w h idle stays _ _ met.sees met.sealed settled.settled settled.held _ again.sees in
    read_ends _ _ s v w again.held come again.kept false _ _ again.sees fresh_now refl notes began _ _ c.see-at.result _ _ refl refl record_is.kept record_is.same record_is.value record_is.stamp

pub returns-else-stand-epoch-clause-read : goal.returns-else-stand-epoch-clause-read
returns-else-stand-epoch-clause-read c s h idle stays met =
    let t = c.args.stand.now in
    let settled = c.settle.ensures in
    let again = c.see-at.ensures in
    let record_is = c.load_record-value.ensures in
    let v = c.settle.new.stand in
    let w = c.see-at.new.stand in
    let come = settled_come _ _ s t v w h idle stays _ _ met.sees met.sealed settled.settled settled.held _ again.sees in
    let fresh_now = settled_fresh _ _ s t v w h idle stays _ _ met.sees met.sealed settled.settled settled.held _ again.sees in
    let notes = settled_notes _ _ s t v w h idle stays _ _ met.sees met.sealed settled.settled settled.held _ again.sees in
    let began = settled_began _ _ s t v w h idle stays _ _ met.sees met.sealed settled.settled settled.held _ again.sees in
    read_ends _ _ s v w again.held come again.kept false _ _ again.sees fresh_now refl notes began _ _ c.see-at.result _ _ refl refl record_is.kept record_is.same record_is.value record_is.stamp
