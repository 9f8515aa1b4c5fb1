use Rattle.std.proofs.Common.{rules, tests}
use Rattle.partial_replay.proofs.{Common.{List, slice_get, sym, ◌∙◌, ap, Applied}, Places.place_within}
use Rattle.partial_replay.proofs.note.note_of.Goals as goal

pub scan_place-requires-clause-entries : goal.scan_place-requires-clause-entries
scan_place-requires-clause-entries c k e stands =
    c.requires.within.entries k e (ap (λ (l : List Applied). slice_get l k) (sym c.as_slice-history.ensures.value) ∙ stands)

pub prefix_of-requires : goal.prefix_of-requires
prefix_of-requires c = place_within c.as_slice-history.result.now c.args.began _ c.place_of-found.result c.place_of-found.ensures

pub prefix_of-requires-in-Changed : goal.prefix_of-requires-in-Changed
prefix_of-requires-in-Changed c = place_within c.as_slice-history.result.now c.args.began _ c.place_of-found-in-Changed.result c.place_of-found-in-Changed.ensures

pub returns-in-Lost-clause-note : goal.returns-in-Lost-clause-note
returns-in-Lost-clause-note c = search (tests, rules)

pub returns-in-Scan-clause-note : goal.returns-in-Scan-clause-note
returns-in-Scan-clause-note c = search (tests, rules)
