-- The sizes of a memory for its options, and why there are none.
use Rattle.std.specs.Prelude.{ℕ, ◌≡◌, ◌+◌, ◌-◌, ◌*◌, ◌/◌, ◌%◌, ◌<◌, ◌≤◌, ◌⊎◌, None, Bool, nat_le, min, max, if◌then◌else◌}
use Rattle.std.specs.Option.{option_map_or}
use Rattle.partial_words.specs.Layout.{Layout, first_free, most_ahead, most_ports}
use Rattle.partial_words.specs.Record.{full_record_size, plain_record_size}
use Rattle.partial_long_lived.specs.declared.open_error.OpenError.{OpenError}
use Rattle.partial_long_lived.specs.declared.open_error.OpenError.TheVariants.{Ports, Components, Lists, Pool, OutOfMemory}
use Rattle.partial_long_lived.specs.declared.options.Options.{Options}
use Rattle.partial_long_lived.specs.declared.shape.Shape.{Shape}

-- the usual options
abbrev pub IsUsual : Options → Type 0
IsUsual o = (o.lists ≡ 1024) × (o.pool ≡ None) × (o.announce ≡ None)

-- the most components times ports of a memory whose scans announce themselves where the options leave that open
abbrev pub most_helped : ℕ
most_helped = 65536

-- whether scans announce themselves, so that updates help them
abbrev pub announces_for : ℕ → ℕ → Options → Bool
announces_for count ports o = option_map_or (λ announces. announces) o.announce (nat_le (ports * count) most_helped)

-- the most list words
abbrev pub most_lists : ℕ
most_lists = 65536

-- the most slots
abbrev pub most_slots : ℕ
most_slots = 65536

-- the most pool words
abbrev pub most_pool : ℕ
most_pool = 4194304

-- how many pool words an arena has for each port where the options leave that open
abbrev pub pool_of_port : ℕ
pool_of_port = 16384

-- the fewest that it has then
abbrev pub fewest_pool : ℕ
fewest_pool = 8192

-- how many pool words half the arenas have together then, at most, unless each has the fewest; there are as many as ports
abbrev pub pool_of_all : ℕ
pool_of_all = 131072

-- how many pool words an arena has for each component then, at least, where half the arenas have no more than the most together
abbrev pub pool_of_component : ℕ
pool_of_component = 16

-- that many
abbrev pub pool_of_components : ℕ
pool_of_components = 33554432

-- how many pool words beside those are room for the greatest claim of each port: where no scan announces itself no record has a view
abbrev pub claim_room : Bool → ℕ → ℕ → ℕ
claim_room announces count ports = ((if announces then full_record_size count else plain_record_size) + most_ahead) * ports

-- how many pool words are claimed in an epoch then
abbrev pub usual_pool : Bool → ℕ → ℕ → ℕ
usual_pool announces count ports =
    max (min (max (min (pool_of_port * ports) (pool_of_all / ports)) (min (pool_of_component * count) (pool_of_components / ports)))
    (most_pool - (plain_record_size * count + claim_room announces count ports))) fewest_pool

-- how many pool words are claimed in an epoch
abbrev pub claimed_pool : ℕ → ℕ → Options → ℕ
claimed_pool count ports o = option_map_or (λ words. words) o.pool (usual_pool (announces_for count ports o) count ports)

-- how many words the pool has after the initial records: those that are claimed, and room for the greatest claim of each port
abbrev pub pool_words_after : ℕ → ℕ → Options → ℕ
pool_words_after count ports o = claimed_pool count ports o + claim_room (announces_for count ports o) count ports

-- the fewest slots that an arena has: one for each port, and where scans announce themselves one for each 8 pool words that are claimed in
-- an epoch
abbrev pub least_slots : ℕ → ℕ → Options → ℕ
least_slots count ports o = (if announces_for count ports o then claimed_pool count ports o / 8 else 0) + ports

-- how many words the pool has
abbrev pub pool_words : ℕ → ℕ → Options → ℕ
pool_words count ports o = plain_record_size * count + pool_words_after count ports o

-- how many slots there are beside those, so that an arena has a multiple of 16 words
abbrev pub spare_slots : ℕ → ℕ → Options → ℕ
spare_slots count ports o = 15 - (2 * count + 3 + least_slots count ports o + o.lists + pool_words count ports o) % 16

-- the sizes of an arena
abbrev pub layout_for : ℕ → ℕ → Options → Layout
layout_for count ports o = record {
  m = count;
  slots = min most_slots (least_slots count ports o + spare_slots count ports o);
  lists = o.lists;
  pool = pool_words count ports o;
}

-- the shape of a memory with so many components, n ports, and these options
pub record IsShapeFor (count n : ℕ) (o : Options) (s : Shape) : Type 0 where
  pub sizes : s.sizes ≡ layout_for count n o
  pub ports : s.ports ≡ n
  pub arenas : s.arenas ≡ 2 * n
  pub limit : s.limit ≡ first_free s.sizes + claimed_pool count n o
  pub announces : s.announces ≡ announces_for count n o

-- the number of ports is in its range
abbrev pub ArePorts : ℕ → Type 0
ArePorts ports = (1 ≤ ports) × (ports ≤ most_ports)

-- the number of components is in its range
abbrev pub IsComponentCount : ℕ → Type 0
IsComponentCount count = (1 ≤ count) × (count ≤ 65536)

-- Why there are no such sizes: the first of these that is out of its range.
abbrev pub IsShapeError : ℕ → ℕ → Options → OpenError → Type 0
IsShapeError count ports o Ports = (ports ≡ 0) ⊎ (most_ports < ports)
IsShapeError count ports o Components = ArePorts ports × ((count ≡ 0) ⊎ (65536 < count))
IsShapeError count ports o Lists = ArePorts ports × IsComponentCount count × (most_lists < o.lists)
IsShapeError count ports o Pool = ArePorts ports × IsComponentCount count × (o.lists ≤ most_lists) ×
    (most_pool < pool_words count ports o)
IsShapeError count ports o OutOfMemory = ⊥

-- there are sizes for so many components and ports, and these options
abbrev pub MayOpen : ℕ → ℕ → Options → Type 0
MayOpen count ports o = ArePorts ports × IsComponentCount count × (o.lists ≤ most_lists) × (pool_words count ports o ≤ most_pool)

-- why a memory doesn't open with these components, ports and options: there are no such sizes, or memory is refused only where there are
abbrev pub MayNotOpen : ℕ → ℕ → Options → OpenError → Type 0
MayNotOpen count ports o OutOfMemory = MayOpen count ports o
MayNotOpen count ports o e = IsShapeError count ports o e

-- the numbers of the refusals
abbrev pub open_code : OpenError → ℕ
open_code Ports = 5
open_code Components = 1
open_code Lists = 3
open_code Pool = 4
open_code OutOfMemory = 6
