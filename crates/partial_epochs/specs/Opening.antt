-- A memory as it opens, and an arena that opens again.
use Rattle.std.specs.Prelude.{ℕ, ◌+◌, ◌<◌, ◌≤◌, List, [], slice_index, length, Option, ◌≡◌, Some, None, false}
use Rattle.partial_model.specs.declared.history.Opening.{Opening}
use Rattle.partial_words.specs.Layout.{Layout, total, IsLayout, pool_base, first_free, most_ports, slot_word}
use Rattle.partial_model.specs.History.{initial_stamp}
use Rattle.partial_core.specs.Part.{fresh_part, fresh_parts}
use Rattle.partial_words.specs.Chain.{opening_word}
use Rattle.partial_core.specs.Lawful.{Lawful}
use Rattle.partial_epochs.specs.Lists.{put}
use Rattle.partial_epochs.specs.Layout.{IsAsked, Plan, Site, base, carried_word, control_size, whole}
use Rattle.partial_epochs.specs.Ports.{Port, Epoch}
use Rattle.partial_epochs.specs.Epochs.{IsEpochPlan, Beside, HasClearRecords, LawfulEpochs}
use Rattle.partial_epochs.specs.Entering.{arrived_port}

-- the words below the first free one are those of an opening, but for list words; after it anything may stand
pub record OpensOver (s : Layout) (o : Opening) (words : List ℕ) : Type 0 where
  pub sizes : IsLayout s
  pub values : length o.values ≡ s.m
  pub stamps : o.first ≡ pool_base s
  pub count : length words ≡ total s
  pub each : (w : ℕ) → w < first_free s → IsAsked s w → slice_index words w ≡ opening_word s o.values w

-- such words are lawful, with nothing applied
abbrev pub OpensOverLawful : Type 0
OpensOverLawful = (z : Layout) (o : Opening) (words : List ℕ) (n : ℕ) → OpensOver z o words → n ≤ most_ports →
    Lawful z o words (fresh_parts z 0 n) []

-- the words at opening: no arena is owned, each port stands in epoch 0, and arena 0 is set; the slots of the other arenas are 0, and so is what
-- their initial records have beside their values, and their other words may be anything
pub record OpensAll (e : Plan) (words : List ℕ) : Type 0 where
  pub plan : IsEpochPlan e
  pub some : 0 < e.arenas
  pub count : length words ≡ whole e
  pub control : (i : ℕ) → i < control_size e → slice_index words i ≡ 0
  pub each : (i : ℕ) → i < first_free e.sizes → IsAsked e.sizes i →
      slice_index words (base e 0 + i) ≡ opening_word e.sizes e.opening.values i
  pub carried : (j : ℕ) → j < e.sizes.m → slice_index words (carried_word e 0 j) ≡ initial_stamp e.opening j
  pub clear : (x l : ℕ) → 0 < x → x < e.arenas → l < e.sizes.slots → slice_index words (base e x + slot_word e.sizes l) ≡ 0
  pub records : (x : ℕ) → 0 < x → x < e.arenas → HasClearRecords e words x

-- the site of the first epoch: arena 0
abbrev pub first_site : Site
first_site = record { epoch = 0; arena = 0 }

-- the first epoch at opening: nothing is applied, and no port has made a step
abbrev pub first_epoch : Plan → Epoch
first_epoch e = record { log = []; before = []; part = fresh_part e.sizes; passed = λ _. 0; over = λ _. false }

-- no arena holds an epoch
abbrev pub nothing_held : ℕ → Option Epoch
nothing_held x = None

-- what stands beside the words at opening: arena 0 alone holds an epoch, the first one
abbrev pub first_beside : Plan → Beside
first_beside e = record { log = []; before = []; arena = 0; holds = put 0 (Some (first_epoch e)) nothing_held }

-- each port at opening stands in the first epoch, with nothing before it
abbrev pub first_ports : Plan → ℕ → Port
first_ports e k = arrived_port e k first_site []

-- such a memory is lawful, with nothing applied
abbrev pub EpochsOpenLawful : Type 0
EpochsOpenLawful = (e : Plan) (words : List ℕ) → OpensAll e words → LawfulEpochs e words (first_ports e) (first_beside e)
