-- A port enters the current epoch: it looks, stores its entering word, loads the current site, and exchanges that word.
use Rattle.std.specs.Prelude.{ℕ, ◌<◌, List, slice_index, length, ◌≡◌, ◌≢◌, ◌⊎◌, true, None, false}
use Rattle.partial_words.specs.declared.step.Step.TheVariants.{Store, Exchange}
use Rattle.partial_model.specs.declared.history.Applied.{Applied}
use Rattle.partial_core.specs.Part.{fresh_part}
use Rattle.partial_words.specs.Step.{words_after}
use Rattle.partial_epochs.specs.Lists.{put}
use Rattle.partial_epochs.specs.Layout.{Plan, Site, packed, entering_from, current_word, at_word}
use Rattle.partial_epochs.specs.Ports.{Port}
use Rattle.partial_epochs.specs.Epochs.{Beside, site_now, LawfulEpochs, IsPresent}
use Rattle.partial_epochs.specs.Ports.Entering.{Stands, StoredEntering, Loaded}

-- a port that has seen another current word than that of its site
abbrev pub having_passed : Port → Port
having_passed p = record p { control = record p.control { past = true } }

-- Where a port stands and has loaded another current word than that of its site, it knows from then on that its epoch has passed.
abbrev pub LooksAreTrue : Type 0
LooksAreTrue = (e : Plan) (words : List ℕ) (ports : ℕ → Port) (b : Beside) (k : ℕ) → LawfulEpochs e words ports b → k < e.ports →
    (ports k).control.entering ≡ Stands → (ports k).control.owned ≡ None →
    ((slice_index words current_word ≡ packed (ports k).control.here) × IsPresent b k (ports k))
    ⊎ ((slice_index words current_word ≢ packed (ports k).control.here)
    × LawfulEpochs e words (put k (having_passed (ports k)) ports) b)

-- the first step of entering: a port whose epoch has passed, and that owns no arena, stores its entering word
abbrev pub EnteringWordsStayLawful : Type 0
EnteringWordsStayLawful = (e : Plan) (words : List ℕ) (ports : ℕ → Port) (b : Beside) (k : ℕ) → LawfulEpochs e words ports b → k < e.ports →
    (ports k).control.entering ≡ Stands → (ports k).control.past ≡ true → (ports k).control.owned ≡ None →
    LawfulEpochs e (words_after words (Store (at_word k) (entering_from (ports k).control.here)))
    (put k (record (ports k) { control = record (ports k).control { entering = StoredEntering } }) ports) b

-- the second: it loads the current site
abbrev pub EntriesLoad : Type 0
EntriesLoad = (e : Plan) (words : List ℕ) (ports : ℕ → Port) (b : Beside) (k : ℕ) → LawfulEpochs e words ports b → k < e.ports →
    (ports k).control.entering ≡ StoredEntering →
    (slice_index words current_word ≡ packed (site_now b))
    × LawfulEpochs e words (put k (record (ports k) { control = record (ports k).control { entering = Loaded (site_now b) } }) ports) b

-- the port that has entered that site, with a new part there
abbrev pub arrived_port : Plan → ℕ → Site → List (List Applied) → Port
arrived_port e k c before = record {
  control = record { here = c; entering = Stands; past = false; owned = None };
  part = fresh_part e.sizes k;
  passed = 0;
  over = false;
  before = before;
}

-- The third: the exchange of the entering word. The port enters the site that it has loaded when the exchange is won, and else the one
-- that another port has put.
pub record Arrives (e : Plan) (words : List ℕ) (ports : ℕ → Port) (b : Beside) (k : ℕ) (c : Site) : Type 0 where
  pub site : Site
  pub is : ((slice_index words (at_word k) ≡ entering_from (ports k).control.here) × (site ≡ c)) ⊎ (slice_index words (at_word k) ≡ packed site)
  pub before : List (List Applied)
  pub epoch : length before ≡ site.epoch
  pub later : (ports k).control.here.epoch < site.epoch
  pub lawful : LawfulEpochs e (words_after words (Exchange (at_word k) (entering_from (ports k).control.here) (packed c)))
      (put k (arrived_port e k site before) ports) b

-- with that step the state stays lawful
abbrev pub ArrivalsStayLawful : Type 0
ArrivalsStayLawful = (e : Plan) (words : List ℕ) (ports : ℕ → Port) (b : Beside) (k : ℕ) (c : Site) → LawfulEpochs e words ports b →
    k < e.ports → (ports k).control.entering ≡ Loaded c → Arrives e words ports b k c
