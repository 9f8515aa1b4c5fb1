-- The words of a memory whose arenas are used again and again, one definition for each offset: control words, and arenas.
use Rattle.std.specs.Prelude.{ℕ, ◌≡◌, ◌+◌, ◌*◌, ◌/◌, ◌%◌, ◌<◌, ◌≤◌, ◌⊎◌, nat_lt, Bool, List, slice_index, if◌then◌else◌, ◌-◌}
use Rattle.partial_model.specs.declared.history.Opening.{Opening}
use Rattle.partial_words.specs.Layout.{Layout, total, first_free, greatest_claim, initial_record, list_base, most_ahead, pool_base}
use Rattle.partial_words.specs.Record.{plain_record_size, value_word}
use Rattle.partial_words.specs.declared.step.Step.{Step}
use Rattle.partial_words.specs.declared.step.Step.TheVariants.{Load, Store, Exchange, Add}
use Rattle.partial_epochs.specs.Lists.{list_of}

-- what a long-lived memory is opened with
pub record Plan : Type 0 where
  -- the sizes of an arena
  pub sizes : Layout
  -- how many ports there are
  pub ports : ℕ
  -- how many arenas there are
  pub arenas : ℕ
  -- the opening values of the components
  pub opening : Opening
  -- the pool limit of an arena: a claim of pool words that ends past this word is its port's last one in the epoch
  pub limit : ℕ
  -- whether scans announce themselves, so that updates help them
  pub announces : Bool

-- A site: an epoch, and the arena that holds it. (Elsewhere a place is a position in the one history.)
pub record Site : Type 0 where
  pub epoch : ℕ
  pub arena : ℕ

-- so many slots of an arena are claimed before a port's claim of one is its last in the epoch: one for each port is left
abbrev pub slot_limit : Plan → ℕ
slot_limit e = e.sizes.slots - e.ports

-- the greatest claim of pool words: where no scan announces itself no record has a view
abbrev pub greatest_claim_of : Plan → ℕ
greatest_claim_of e = if e.announces then greatest_claim e.sizes else plain_record_size + most_ahead

-- there are at most so many arenas, so that a site is the number of its epoch and of its arena in one word
abbrev pub arena_limit : ℕ
arena_limit = 65536

-- each epoch's number is below this one, so that a public stamp fits a word
abbrev pub epoch_limit : ℕ
epoch_limit = 2199023255552

-- the entering bit: the highest bit of a word
abbrev pub entering_bit : ℕ
entering_bit = 9223372036854775808

-- the word of a site
abbrev pub packed : Site → ℕ
packed p = p.epoch * arena_limit + p.arena

-- the site that a word names
abbrev pub unpacked : ℕ → Site
unpacked w = record { epoch = w / arena_limit; arena = w % arena_limit }

-- an entering word: the word of a site with the entering bit, whose port is entering from there
abbrev pub entering_from : Site → ℕ
entering_from p = entering_bit + packed p

-- the site fits a word, beside the entering bit
pub record IsSite (e : Plan) (p : Site) : Type 0 where
  pub epoch : p.epoch < epoch_limit
  pub arena : p.arena < e.arenas

-- the current word: it names the current site
abbrev pub current_word : ℕ
current_word = 0

-- the word of port k: it names the site where the port stands
abbrev pub at_word : ℕ → ℕ
at_word k = 1 + k

-- the owner word of arena x: it is 0, or 1 and the number of the arena's owner
abbrev pub own_word : Plan → ℕ → ℕ
own_word e x = 1 + e.ports + x

-- how many words pad the control words, so that the first arena begins two words before a number of 16 words
abbrev pub padding : Plan → ℕ
padding e = 15 - (2 + e.ports + e.arenas) % 16

-- how many words there are before the arenas: the control words, and the padding
abbrev pub control_size : Plan → ℕ
control_size e = 1 + e.ports + e.arenas + padding e

-- how many words an arena has: those of one memory, and a carried stamp for each component
abbrev pub span : Plan → ℕ
span e = total e.sizes + e.sizes.m

-- the first word of an arena
abbrev pub base : Plan → ℕ → ℕ
base e x = control_size e + x * span e

-- the word of the stamp that component j carries from the epochs before
abbrev pub carried_word : Plan → ℕ → ℕ → ℕ
carried_word e x j = base e x + total e.sizes + j

-- the control words alone
abbrev pub control_words : Plan → List ℕ → List ℕ
control_words e words = list_of (slice_index words) 0 (control_size e)

-- the component words of arena x, with their seals
abbrev pub component_words : Plan → List ℕ → ℕ → List ℕ
component_words e words x = list_of (λ j. slice_index words (base e x + j)) 0 e.sizes.m

-- the carried stamps of arena x
abbrev pub carried_words : Plan → List ℕ → ℕ → List ℕ
carried_words e words x = list_of (λ j. slice_index words (carried_word e x j)) 0 e.sizes.m

-- how many words there are
abbrev pub whole : Plan → ℕ
whole e = base e e.arenas

-- what a seal adds to a component word: the seals are counted above the reference
abbrev pub seal : ℕ
seal = 72057594037927936

-- the record of a component word: its seals are taken off
abbrev pub unsealed : ℕ → ℕ
unsealed w = w % seal

-- how many seals a component word has
abbrev pub seals : ℕ → ℕ
seals w = w / seal

-- the component word has a seal
abbrev pub IsSealed : ℕ → Type 0
IsSealed w = seal ≤ w

-- a word of an arena as the inner memory has it: a component word without its seals, each other word as it is
abbrev pub plain : Plan → ℕ → ℕ → ℕ
plain e w v = if nat_lt w e.sizes.m then unsealed v else v

-- word w of arena x so
abbrev pub plain_word : Plan → List ℕ → ℕ → ℕ → ℕ
plain_word e words x w = plain e w (slice_index words (base e x + w))

-- the words of the inner memory in arena x
abbrev pub arena_words : Plan → List ℕ → ℕ → List ℕ
arena_words e words x = list_of (plain_word e words x) 0 (total e.sizes)

-- the step of an inner memory, made in the words of arena x
abbrev pub based_step : Plan → ℕ → Step → Step
based_step e x (Load w) = Load (base e x + w)
based_step e x (Store w v) = Store (base e x + w) v
based_step e x (Exchange w old new) = Exchange (base e x + w) old new
based_step e x (Add w k) = Add (base e x + w) k

-- the word of an opening that an owner sets as number i: those before the list words from the last one down, so that the slots come before
-- the word that counts them, and the later ones in their order
abbrev pub set_offset : Layout → ℕ → ℕ
set_offset s i = if nat_lt i (list_base s) then list_base s - (i + 1) else i

-- the word that an owner sets as number i: those of an opening first, and then the carried stamps
abbrev pub set_word : Plan → ℕ → ℕ → ℕ
set_word e x i =
    if nat_lt i (first_free e.sizes) then base e x + set_offset e.sizes i
    else base e x + total e.sizes + (i - first_free e.sizes)

-- an opening asks of that word what stands there: it asks nothing of list words
abbrev pub IsAsked : Layout → ℕ → Type 0
IsAsked s w = (w < list_base s) ⊎ (pool_base s ≤ w)

-- An owner has to set the word of that number: those before the list words, the values of the initial records, and the carried stamps. What
-- an initial record has beside its value is 0 in any arena.
abbrev pub IsToBeSet : Layout → ℕ → Type 0
IsToBeSet s i = (i < list_base s) ⊎ ((first_free s ≤ i) ⊎ ((j : ℕ) × (j < s.m) × (i ≡ value_word (initial_record s j))))
