use Rattle.partial_long_lived.proofs.fill.fill_record.Given as goal

-- the number to which the word is to be set
abbrev pub ghosts-set_value : goal.ghosts-set_value
ghosts-set_value a = record { value = a.value }
