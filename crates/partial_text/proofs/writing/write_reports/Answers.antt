use Rattle.partial_text.proofs.TextGiven.{tells_ok, tells_err, tells_then}
use Rattle.partial_text.proofs.writing.write_reports.Goals as goal

pub returns-clause-ok : goal.returns-clause-ok
returns-clause-ok g c =
    let told = tells_then _ _ _ _ _ c.tell_report.ensures c.tell_report-2.ensures in
    tells_ok _ _ _ _ _ _ _ c.end.result c.in_ok-text.ensures c.requires told c.end.ensures.told c.end.ensures.ok

pub returns-clause-part : goal.returns-clause-part
returns-clause-part g c =
    let told = tells_then _ _ _ _ _ c.tell_report.ensures c.tell_report-2.ensures in
    tells_err _ _ _ _ _ _ _ c.end.result c.in_ok-text.ensures c.requires told c.end.ensures.told c.end.ensures.fault
