use Rattle.partial_long_lived.proofs.fill.fill_stamp.Given as goal

-- the number to which the word is to be set
abbrev pub ghosts-set_stamp : goal.ghosts-set_stamp
ghosts-set_stamp a = record { value = a.stamp }
