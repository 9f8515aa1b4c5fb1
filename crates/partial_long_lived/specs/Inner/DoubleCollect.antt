-- A scan by a double collect: two equal collects of its components, and no announcement.
use Rattle.std.specs.Prelude.{true, ℕ, ◌≡◌, ◌+◌, ◌<◌, ◌≤◌, ◌++◌, List, [], ◌∷◌, length, map, take, None, Some, slice_index}
use Rattle.std.specs.List.{AllByRecursion}
use Rattle.partial_table.specs.Table.{Me}
use Rattle.partial_model.specs.declared.history.Applied.{Applied}
use Rattle.partial_model.specs.declared.call.Call.{Call}
use Rattle.partial_model.specs.declared.call.Answer.{Answer}
use Rattle.partial_model.specs.declared.call.Note.{Note}
use Rattle.partial_model.specs.History.{IsHistory, stamp_of, value_of}
use Rattle.partial_model.specs.Notes.{Noted, seen_by}
use Rattle.partial_words.specs.Layout.{Layout, total}
use Rattle.partial_words.specs.Record.{value_word}
use Rattle.partial_epochs.specs.Layout.{unsealed}
use Rattle.partial_epochs.specs.History.{history_of}
use Rattle.partial_epochs.specs.Notes.{having_seen, public_of}
use Rattle.partial_long_lived.specs.declared.stand.Stand.{Stand}
use Rattle.partial_long_lived.specs.Rule.{SeatedPort, plan_of}
use Rattle.partial_long_lived.specs.Ports.{seen_in}
use Rattle.partial_long_lived.specs.Inner.Steps.{BeginsWith, tells}
use Rattle.partial_long_lived.specs.Inner.Held.{port_at}
use Rattle.partial_long_lived.specs.Inner.Loads.{Recalls, opening_of}
use Rattle.partial_long_lived.specs.Inner.Calls.{EpochSettled, HasCome, StaysAt}

-- each of these positions is one of a component
abbrev pub AreInside : Layout → List ℕ → Type 0
AreInside z js = (k : ℕ) → k < length js → slice_index js k < z.m

-- The word w, which the port has loaded as that of component j, names the record that the component had after some number of entries of
-- the epoch, from `low` to `high`. That record lies in the arena.
pub record WasThere (x : SeatedPort) (low high j w : ℕ) : Type 0 where
  pub entries : ℕ
  pub from : low ≤ entries
  pub to : entries ≤ high
  pub stamp : unsealed w ≡ stamp_of (opening_of x) (take entries x.port.part.seen) j
  pub within : value_word (unsealed w) < total x.about.sizes

-- so it is of the first n words of a collect of these components
abbrev pub AreCollected : SeatedPort → ℕ → ℕ → List ℕ → List ℕ → ℕ → Type 0
AreCollected x low high js ws n = (k : ℕ) → k < n → WasThere x low high (slice_index js k) (slice_index ws k)

-- v is the value that component j had whenever the word w named its record
abbrev pub HadValue : SeatedPort → ℕ → ℕ → ℕ → Type 0
HadValue x j w v = (n : ℕ) → n ≤ length x.port.part.seen → unsealed w ≡ stamp_of (opening_of x) (take n x.port.part.seen) j →
    v ≡ value_of (opening_of x) (take n x.port.part.seen) j

-- so it is of the first n of these values
abbrev pub HadValues : SeatedPort → List ℕ → List ℕ → List ℕ → ℕ → Type 0
HadValues x js ws vs n = (k : ℕ) → k < n → HadValue x (slice_index js k) (slice_index ws k) (slice_index vs k)

-- The port may note that these components stood together after the first b entries that it has seen of its epoch: its notes show no more.
pub record MayNoteScan (js : List ℕ) (b : ℕ) (x : SeatedPort) : Type 0 where
  pub some : 0 < length js
  pub inside : AllByRecursion (λ j. j < x.about.sizes.m) js
  pub seen : b ≤ length x.port.part.seen
  pub behind : seen_by 0 x.notes ≤ length (history_of x.port.before) + b

-- that note: the values after those entries
abbrev pub noted_together : List ℕ → ℕ → SeatedPort → Noted
noted_together js b x = record {
  call = Call.Scan js;
  answer = Answer.Scanned (map (λ j. value_of (opening_of x) (take b x.port.part.seen) j) js) 2 None;
  note = Some (Note.Saw (length (history_of x.port.before) + b));
}

-- A load of word i of the table by which the port notes that scan: it shows the same as a load of a word that is final for the port, and
-- the port sees its epoch's whole history.
pub record NotesScan (js : List ℕ) (b i : ℕ) (x : SeatedPort) (a : ℕ) (y : SeatedPort) : Type 0 where
  pub recalls : Recalls i x a x
  pub log : List Applied
  pub begins : BeginsWith x.port.part.seen log
  pub is : y ≡ record x { port = having_seen x.port log; notes = x.notes ++ noted_together js b x ∷ [] }
  pub history : IsHistory (opening_of x) log
  pub values : length (opening_of x).values ≡ x.about.sizes.m
  pub stamps : (j : ℕ) → j < x.about.sizes.m →
      public_of (plan_of x.about) x.port.before j (stamp_of (opening_of x) (take b x.port.part.seen) j)
      ≡ stamp_of x.about.opening (take (length (history_of x.port.before) + b) (history_of (log ∷ x.port.before))) j
  -- an epoch that is younger than the call began when there was all of the history that the call began with
  pub young : x.began.epoch < x.port.control.here.epoch → x.began.length ≤ length (history_of x.port.before)

-- such a load
abbrev pub notes_scan : {S : Type 0} → List ℕ → ℕ → ℕ → Me S (List SeatedPort) → ℕ → Me S (List SeatedPort) → Type 0
notes_scan js b i me = tells (NotesScan js b i) me

-- The port has loaded component words where it stands: it has seen more of its epoch, and nothing else has become of it.
pub record HasGlanced (s t : Stand) : Type 0 where
  pub kept : StaysAt s t
  pub log : List Applied
  pub begins : BeginsWith (port_at s).port.part.seen log
  pub is : port_at t ≡ record (port_at s) { port = having_seen (port_at s).port log }

-- the port stands where it stood, between two calls, with the same machine
pub record HasStayed (s t : Stand) : Type 0 where
  pub come : HasCome s t
  pub epoch : t.epoch ≡ s.epoch

-- The port has made the first step of a scan in an epoch that was the current one during the call: it has loaded the word w of component j,
-- and has noted nothing.
pub record HasBegunCollect (s t : Stand) (j w : ℕ) : Type 0 where
  pub stayed : HasStayed s t
  pub settled : EpochSettled true s t
  pub there : WasThere (port_at t) 0 (length (port_at t).port.part.seen) j w
  pub time : (port_at t).began.length ≤ length (seen_in (port_at t).port)
