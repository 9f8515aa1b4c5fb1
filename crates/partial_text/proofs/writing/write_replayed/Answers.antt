use Rattle.partial_text.proofs.TextGiven.{tells_ok, tells_err}
use Rattle.partial_text.proofs.writing.write_replayed.Goals as goal

pub returns-clause-ok : goal.returns-clause-ok
returns-clause-ok g c = tells_ok _ _ _ _ _ _ _ c.end.result c.in_ok-text.ensures c.requires c.tell_replayed.ensures c.end.ensures.told c.end.ensures.ok

pub returns-clause-part : goal.returns-clause-part
returns-clause-part g c = tells_err _ _ _ _ _ _ _ c.end.result c.in_ok-text.ensures c.requires c.tell_replayed.ensures c.end.ensures.told c.end.ensures.fault
