use Rattle.partial_long_lived.proofs.{Common.{◌∙◌}, ScanByChange.{initial_come, initial_named, initial_within, may_initial}}
use Rattle.partial_long_lived.proofs.scan_by_change.note_initial.Goals as goal

pub load_values-requires-clause-stands : goal.load_values-requires-clause-stands
load_values-requires-clause-stands g c = (c.requires.entered.1).settled.come.idle.stands

pub load_values-requires-clause-within : goal.load_values-requires-clause-within
load_values-requires-clause-within g c = let r = c.requires in initial_within _ _ _ r.held (r.entered.1).none _ _ r.inside r.kept

pub load_noting-requires-clause-may : goal.load_noting-requires-clause-may
load_noting-requires-clause-may g c =
    let r = c.requires in
    let l = c.load_values.ensures in
    may_initial _ _ _ r.held (r.entered.1).none _ _ r.inside r.kept r.entered r.some _ l.kept l.same _ _ r.which r.entries

pub returns-clause-come : goal.returns-clause-come
returns-clause-come g c =
    let r = c.requires in
    let l = c.load_values.ensures in
    let n = c.load_noting.ensures in
    initial_come _ _ _ r.held (r.entered.1).none _ _ r.inside r.kept r.entered r.some _ l.kept l.same _ n.kept _ _ r.which r.entries _ _ n.noted.1

pub returns-clause-scanned : goal.returns-clause-scanned
returns-clause-scanned g c =
    let r = c.requires in
    let l = c.load_values.ensures in
    let n = c.load_noting.ensures in
    initial_named _ _ _ r.held (r.entered.1).none _ _ r.inside r.kept r.entered r.some _ l.kept l.same _ n.kept _ _ r.which r.entries _ _ n.noted.1 _ l.values (l.lengths ∙ r.lengths) n.value
