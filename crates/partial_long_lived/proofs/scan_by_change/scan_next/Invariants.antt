use Rattle.partial_long_lived.proofs.scan_by_change.scan_next.Given as goal

-- what the port notes: the components, before all entries of its epoch
abbrev pub ghosts-note_initial : goal.ghosts-note_initial
ghosts-note_initial a = record { which = a.which.now; entries = 0 }
