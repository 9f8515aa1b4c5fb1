-- Real time: an entering port enters an epoch that is no older than the one that was the current one as it stored its entering word.
use Rattle.std.specs.Prelude.{ℕ, ◌<◌, ◌≤◌, List, slice_index, ◌≡◌, true, Some, None}
use Rattle.partial_words.specs.Step.{words_after}
use Rattle.partial_words.specs.declared.step.Step.{Step}
use Rattle.partial_words.specs.declared.step.Step.TheVariants.{Store, Exchange}
use Rattle.partial_epochs.specs.Lists.{put}
use Rattle.partial_epochs.specs.Layout.{IsSite, Site, Plan, at_word, current_word, entering_from, own_word, packed, based_step, set_word}
use Rattle.partial_epochs.specs.Ports.{OwnedArena, Port}
use Rattle.partial_epochs.specs.Ports.Entering.{Stands, StoredEntering, Loaded}
use Rattle.partial_epochs.specs.Control.{MayPut}
use Rattle.partial_epochs.specs.Epochs.{Beside, LawfulEpochs, site_now}
use Rattle.partial_epochs.specs.Entering.{Arrives, arrived_port}
use Rattle.partial_epochs.specs.Owning.{having_loaded, having_looked, having_put, owning_port}
use Rattle.partial_epochs.specs.Publishing.{having_published, next_site}
use Rattle.partial_epochs.specs.Opening.{first_site, first_ports}

-- Each port stands in no older epoch, and enters no older one, than the one that was the current one as it stored its last entering
-- word: `since` has the number of that epoch for each port, and `now` is the current site.
pub record KeepsTime (e : Plan) (words : List ℕ) (ports : ℕ → Port) (now : Site) (since : ℕ → ℕ) : Type 0 where
  -- that epoch is no later than the current one
  pub past : (k : ℕ) → k < e.ports → since k ≤ now.epoch
  -- what an entering port has loaded as the current site is no older
  pub loaded : (k : ℕ) (c : Site) → k < e.ports → (ports k).control.entering ≡ Loaded c → since k ≤ c.epoch
  -- nor is the site that its word names, where it stands or where another port has put it
  pub put : (k : ℕ) (c : Site) → k < e.ports → IsSite e c → slice_index words (at_word k) ≡ packed c → since k ≤ c.epoch
  -- nor that of a port that may put it
  pub may_put : (q k : ℕ) (a : Site) → q < e.ports → k < e.ports → MayPut (ports q).control k a →
      slice_index words (at_word k) ≡ entering_from a → since k ≤ (ports q).control.here.epoch

-- a memory as it opens keeps time
abbrev pub OpeningsKeepTime : Type 0
OpeningsKeepTime = (e : Plan) (words : List ℕ) → KeepsTime e words (first_ports e) first_site (λ _. 0)

-- a port that stores its entering word enters from then on
abbrev pub EnteringWordsKeepTime : Type 0
EnteringWordsKeepTime = (e : Plan) (words : List ℕ) (ports : ℕ → Port) (b : Beside) (k : ℕ) (since : ℕ → ℕ) →
    LawfulEpochs e words ports b → k < e.ports → (ports k).control.entering ≡ Stands → (ports k).control.owned ≡ None →
    KeepsTime e words ports (site_now b) since →
    KeepsTime e (words_after words (Store (at_word k) (entering_from (ports k).control.here)))
    (put k (record (ports k) { control = record (ports k).control { entering = StoredEntering } }) ports)
    (site_now b) (put k (site_now b).epoch since)

-- it loads the current site
abbrev pub EntriesKeepTime : Type 0
EntriesKeepTime = (e : Plan) (words : List ℕ) (ports : ℕ → Port) (b : Beside) (k : ℕ) (since : ℕ → ℕ) → k < e.ports →
    KeepsTime e words ports (site_now b) since →
    KeepsTime e words (put k (record (ports k) { control = record (ports k).control { entering = Loaded (site_now b) } }) ports)
    (site_now b) since

-- it enters an epoch that is no older than the one that was the current one as it stored its entering word
abbrev pub ArrivalsKeepTime : Type 0
ArrivalsKeepTime = (e : Plan) (words : List ℕ) (ports : ℕ → Port) (b : Beside) (k : ℕ) (c : Site) (since : ℕ → ℕ) →
    LawfulEpochs e words ports b → k < e.ports → (ports k).control.entering ≡ Loaded c →
    KeepsTime e words ports (site_now b) since → (a : Arrives e words ports b k c) →
    (since k ≤ a.site.epoch)
    × KeepsTime e (words_after words (Exchange (at_word k) (entering_from (ports k).control.here) (packed c)))
    (put k (arrived_port e k a.site a.before) ports) (site_now b) since

-- an owner looks and finds its own site the current one
abbrev pub LooksKeepTime : Type 0
LooksKeepTime = (e : Plan) (words : List ℕ) (ports : ℕ → Port) (b : Beside) (k : ℕ) (o : OwnedArena) (since : ℕ → ℕ) →
    LawfulEpochs e words ports b → k < e.ports → slice_index words current_word ≡ packed (ports k).control.here →
    KeepsTime e words ports (site_now b) since →
    KeepsTime e words (put k (having_looked (ports k) o) ports) (site_now b) since

-- an owner loads an entering word
abbrev pub LoadedEnteringWordsKeepTime : Type 0
LoadedEnteringWordsKeepTime = (e : Plan) (words : List ℕ) (ports : ℕ → Port) (now a : Site) (k : ℕ) (o : OwnedArena) (since : ℕ → ℕ) →
    k < e.ports → KeepsTime e words ports now since → KeepsTime e words (put k (owning_port (ports k) (having_loaded o a)) ports) now since

-- an owner puts a port where it stands itself
abbrev pub PutsKeepTime : Type 0
PutsKeepTime = (e : Plan) (words : List ℕ) (ports : ℕ → Port) (b : Beside) (k : ℕ) (o : OwnedArena) (a : Site) (since : ℕ → ℕ) →
    LawfulEpochs e words ports b → k < e.ports → (ports k).control.owned ≡ Some o → o.clean < e.ports → o.entering_word ≡ Some a → o.again ≡ true →
    slice_index words (at_word o.clean) ≡ entering_from a → KeepsTime e words ports (site_now b) since →
    KeepsTime e (words_after words (Exchange (at_word o.clean) (entering_from a) (packed (ports k).control.here)))
    (put k (having_put (ports k) o) ports) (site_now b) since

-- an owner exchanges the current word: the current epoch is then the same one, or a later one
abbrev pub PublishesKeepTime : Type 0
PublishesKeepTime = (e : Plan) (words : List ℕ) (ports : ℕ → Port) (now then : Site) (k : ℕ) (o : OwnedArena) (since : ℕ → ℕ) →
    k < e.ports → now.epoch ≤ then.epoch → KeepsTime e words ports now since →
    KeepsTime e (words_after words
    (Exchange current_word (packed (ports k).control.here) (packed (next_site (ports k).control.here o.arena))))
    (put k (having_published (ports k) o) ports) then since

-- A step by which no port changes its site, and none becomes one that may put another: all other steps.
pub record IsBesideTime (e : Plan) (words words' : List ℕ) (ports ports' : ℕ → Port) (now then : Site) : Type 0 where
  pub at : (k : ℕ) → k < e.ports → slice_index words' (at_word k) ≡ slice_index words (at_word k)
  pub here : (k : ℕ) → k < e.ports → (ports' k).control.here ≡ (ports k).control.here
  pub entering : (k : ℕ) → k < e.ports → (ports' k).control.entering ≡ (ports k).control.entering
  pub puts : (q k : ℕ) (a : Site) → q < e.ports → MayPut (ports' q).control k a → MayPut (ports q).control k a
  pub later : now.epoch ≤ then.epoch

-- such a step keeps time
abbrev pub AsidesKeepTime : Type 0
AsidesKeepTime = (e : Plan) (words words' : List ℕ) (ports ports' : ℕ → Port) (now then : Site) (since : ℕ → ℕ) →
    IsBesideTime e words words' ports ports' now then → KeepsTime e words ports now since → KeepsTime e words' ports' then since

-- The steps that change no port's word: those in an arena, the store of a word that an owner sets, and those on an owner word.
pub record KeepSites (e : Plan) (words : List ℕ) (k : ℕ) : Type 0 where
  pub arena : (x : ℕ) (step : Step) → slice_index (words_after words (based_step e x step)) (at_word k) ≡ slice_index words (at_word k)
  pub set : (x i v : ℕ) → slice_index (words_after words (Store (set_word e x i) v)) (at_word k) ≡ slice_index words (at_word k)
  pub taken : (x old new : ℕ) →
      slice_index (words_after words (Exchange (own_word e x) old new)) (at_word k) ≡ slice_index words (at_word k)
  pub given : (x v : ℕ) → slice_index (words_after words (Store (own_word e x) v)) (at_word k) ≡ slice_index words (at_word k)

-- so it is for the word of each port
abbrev pub StepsKeepSites : Type 0
StepsKeepSites = (e : Plan) (words : List ℕ) (k : ℕ) → k < e.ports → KeepSites e words k
