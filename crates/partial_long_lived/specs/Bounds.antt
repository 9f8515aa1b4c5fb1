-- How many steps a call makes at most, by what its memory was opened with.
use Rattle.std.specs.Prelude.{ℕ, ◌+◌, ◌*◌, ◌/◌, min, if◌then◌else◌}
use Rattle.partial_words.specs.Layout.{Layout, list_base}
use Rattle.partial_embedded.specs.Embedded.{most_view_steps}
use Rattle.partial_machine.specs.Bounds.{most_of_update}
use Rattle.partial_epochs.specs.FreeArenas.{most_freed}
use Rattle.partial_long_lived.specs.declared.rule.About.{About}

-- an arena that is tried: the exchange of its owner word, a look, three steps for each port, and the store that gives it back
abbrev pub arena_steps : About → ℕ
arena_steps a = 3 * a.ports + 3

-- a pass over the arenas, and the look after it, by which the next one begins
abbrev pub pass_steps : About → ℕ
pass_steps a = a.arenas * arena_steps a + 1

-- the look by which a search begins, and one pass more than arenas may come free meanwhile
abbrev pub claim_steps : About → ℕ
claim_steps a = 1 + (most_freed a.ports + 1) * pass_steps a

-- the words of the next epoch: the load of the slot counter, the stores before the list words, and of each component the loads of its last
-- record's value and stamp, those of the words that are to have them, and their stores
abbrev pub fill_steps : About → ℕ
fill_steps a = 1 + list_base a.sizes + 8 * a.sizes.m

-- how often, for each component, a port looks whether its epoch has ended once it finds that another one seals the components
abbrev pub patience : ℕ
patience = 64

-- the seals: the load that finds component 0 sealed, the looks after it, and a seal on each component
abbrev pub seal_steps : About → ℕ
seal_steps a = 1 + patience * a.sizes.m + a.sizes.m

-- a change of epoch: a look, the seals, the passes, the words, the exchange of the current word, the store that gives the arena back, and
-- the three steps of entering
abbrev pub most_of_change : About → ℕ
most_of_change a = seal_steps a + claim_steps a + fill_steps a + 6

-- an announced scan of so many positions: its claim, its announcement, a slot, its embedded scan, and the store that leaves the slot
abbrev pub most_of_scan : Layout → ℕ → ℕ
most_of_scan z r = most_view_steps z r + r + 5

-- a double collect of so many positions: two collects, a look, and the loads of the values
abbrev pub double_collect_steps : ℕ → ℕ
double_collect_steps r = 3 * r + 1

-- how many double collects of r positions a scan tries before it changes the epoch, in a memory of m components: they make three loads for
-- each component, and a change of epoch makes more steps
abbrev pub tries : ℕ → ℕ → ℕ
tries m r = min 64 (m / r)

-- a scan of so many positions by a change of epoch: four steps to enter the current epoch, these double collects, four steps again, the
-- change, and the loads of the values
abbrev pub most_of_scan_by_change : About → ℕ → ℕ
most_of_scan_by_change a r = tries a.sizes.m r * double_collect_steps r + 8 + most_of_change a + r

-- a scan of so many positions whose double collect has failed: a change of epoch and an announced scan, or one by a change of epoch
abbrev pub most_further : About → ℕ → ℕ
most_further a r = if a.announces then most_of_change a + most_of_scan a.sizes r else most_of_scan_by_change a r

-- one round of an update: an attempt and a change of epoch
abbrev pub round_steps : About → ℕ
round_steps a = most_of_update a.sizes + most_of_change a

-- one of a conditional update, which loads the word and the stamp before, and perhaps the stamp after
abbrev pub round_if_steps : About → ℕ
round_if_steps a = 3 + round_steps a

-- a scan of so many positions: a double collect, and what follows where it fails
abbrev pub most_of_scans : About → ℕ → ℕ
most_of_scans a r = double_collect_steps r + most_further a r
