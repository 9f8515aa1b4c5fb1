-- Which size is refused, and the number of the refusal.
use Rattle.std.specs.Prelude.{ℕ}
use Rattle.partial_words.specs.declared.sizes.SizeError.{SizeError}
use Rattle.partial_words.specs.declared.sizes.SizeError.TheVariants.{Components, Slots, Lists, Pool}
use Rattle.partial_words.specs.Layout.{Layout, AreComponents, AreSlots, AreLists, ArePool}

-- the size is out of its range, and those before it are in theirs
abbrev pub IsFirstFault : Layout → SizeError → Type 0
IsFirstFault s Components = ¬ AreComponents s
IsFirstFault s Slots = AreComponents s × (¬ AreSlots s)
IsFirstFault s Lists = AreComponents s × AreSlots s × (¬ AreLists s)
IsFirstFault s Pool = AreComponents s × AreSlots s × AreLists s × (¬ ArePool s)

-- the number of the refusal
abbrev pub size_code : SizeError → ℕ
size_code Components = 1
size_code Slots = 2
size_code Lists = 3
size_code Pool = 4
