-- What each kind of step does to lawful words, and that it keeps them lawful and what was loaded true.
use Rattle.std.specs.Prelude.{ℕ, zero, suc, ◌≡◌, ◌+◌, ◌-◌, ◌<◌, ◌≤◌, false, List, [], ◌∷◌, ◌++◌, length, slice_index, Some, None}
use Rattle.partial_intervals.specs.Intervals.{Ranges, Holds, IsNormal}
use Rattle.partial_model.specs.declared.history.Applied.{Applied}
use Rattle.partial_model.specs.declared.history.Opening.{Opening}
use Rattle.partial_words.specs.declared.step.Step.TheVariants.{Store, Exchange, Add}
use Rattle.partial_words.specs.Layout.{Layout, component_word, slot_counter, list_head, slot_word, list_base, most_ports, no_spare, total}
use Rattle.partial_words.specs.Announcement.{announcement_block, announcement_size}
use Rattle.partial_words.specs.VacatedList.{list_block}
use Rattle.partial_words.specs.Chain.{OpensWith}
use Rattle.partial_words.specs.Step.{words_after}
use Rattle.partial_state.specs.Views.{JoinedAnnouncement}
use Rattle.partial_state.specs.Holdings.{Counted, Own, Due, Holding, Space, counter, counter_of, end_of, block_of, is_marked, marked_for, without_block, unpublished}
use Rattle.partial_state.specs.Holdings.Space.{Pool, Lists}
use Rattle.partial_state.specs.LawfulWords.{LawfulWords, IsDue}
use Rattle.partial_state.specs.Loads.{KeptAnswer, IsLoaded, IsPublished}

-- the words, what the ports hold, and the history
pub record State : Type 0 where
  pub words : List ℕ
  pub holdings : List Holding
  pub log : List Applied

-- the state is lawful
abbrev pub IsLawful : Layout → Opening → State → Type 0
IsLawful z o s = LawfulWords z o s.words s.holdings s.log

-- the later state is lawful, and what was loaded stays true
pub record Keeps (z : Layout) (o : Opening) (earlier later : State) : Type 0 where
  pub lawful : IsLawful z o later
  pub loads : (w : ℕ) (k : KeptAnswer) → IsLoaded z o earlier.words earlier.holdings earlier.log w k →
      IsLoaded z o later.words later.holdings later.log w k

-- A law of one kind of step, made by the port that holds h beside others: it leads to `words`, the port then
-- holds h' and the history is `log`.
abbrev pub IsKept : Layout → Opening → List ℕ → List Holding → Holding → List Holding → List Applied →
    List ℕ → Holding → List Applied → Type 0
IsKept z o words before h after log words' h' log' =
    Keeps z o (record { words = words; holdings = before ++ h ∷ after; log = log })
    (record { words = words'; holdings = before ++ h' ∷ after; log = log' })

-- a claim of a block within its space
abbrev pub ClaimsAreKept : Type 0
ClaimsAreKept =
    (z : Layout) (o : Opening) (words : List ℕ) (before : List Holding) (h : Holding) (after : List Holding) (log : List Applied)
    (space : Space) (block : List ℕ) →
    LawfulWords z o words (before ++ h ∷ after) log → h.own ≡ None → h.due ≡ None →
    slice_index words (counter_of z space) + length block ≤ end_of z space →
    IsKept z o words before h after log (words_after words (Add (counter_of z space) (length block)))
    (record h { own = Some (record { space = space; at = slice_index words (counter_of z space); words = block; stored = 0 }) }) log

-- a block of the pool that the port writes becomes its spare words, in place of those that it had
abbrev pub SparesAreKept : Type 0
SparesAreKept =
    (z : Layout) (o : Opening) (words : List ℕ) (before : List Holding) (h : Holding) (after : List Holding) (log : List Applied)
    (b : Own) →
    LawfulWords z o words (before ++ h ∷ after) log → h.own ≡ Some b → b.space ≡ Pool →
    IsKept z o words before h after log words (record h { own = None; due = None; spare = block_of b }) log

-- a block is taken from the beginning of the spare words
abbrev pub TakesAreKept : Type 0
TakesAreKept =
    (z : Layout) (o : Opening) (words : List ℕ) (before : List Holding) (h : Holding) (after : List Holding) (log : List Applied)
    (block : List ℕ) →
    LawfulWords z o words (before ++ h ∷ after) log → h.own ≡ None → h.due ≡ None → length block ≤ h.spare.size →
    IsKept z o words before h after log words
    (record h {
      own = Some (record { space = Pool; at = h.spare.at; words = block; stored = 0 });
      spare = record { at = h.spare.at + length block; size = h.spare.size - length block };
    }) log

-- a claim past the end of what is counted, by a port that isn't marked for it yet: the port is marked
abbrev pub RefusalsAreKept : Type 0
RefusalsAreKept =
    (z : Layout) (o : Opening) (words : List ℕ) (before : List Holding) (h : Holding) (after : List Holding) (log : List Applied)
    (c : Counted) (size : ℕ) →
    LawfulWords z o words (before ++ h ∷ after) log → is_marked c h ≡ false → size ≤ (counter z c).greatest →
    (counter z c).end < slice_index words (counter z c).word + size →
    IsKept z o words before h after log (words_after words (Add (counter z c).word size)) (marked_for c h) log

-- a store of the next word of a block of one's own
abbrev pub StoresAreKept : Type 0
StoresAreKept =
    (z : Layout) (o : Opening) (words : List ℕ) (before : List Holding) (h : Holding) (after : List Holding) (log : List Applied)
    (b : Own) →
    LawfulWords z o words (before ++ h ∷ after) log → h.own ≡ Some b → h.due ≡ None → b.stored < length b.words →
    IsKept z o words before h after log (words_after words (Store (b.at + b.stored) (slice_index b.words b.stored)))
    (record h { own = Some (record b { stored = b.stored + 1 }) }) log

-- an exchange becomes due
abbrev pub DuesAreKept : Type 0
DuesAreKept =
    (z : Layout) (o : Opening) (words : List ℕ) (before : List Holding) (h : Holding) (after : List Holding) (log : List Applied)
    (d : Due) →
    LawfulWords z o words (before ++ h ∷ after) log → IsDue z o words h (without_block h.port (before ++ h ∷ after)) log d →
    IsKept z o words before h after log words (record h { due = Some d }) log

-- a block of one's own is given up: its exchange was lost, or the call is refused
abbrev pub DropsAreKept : Type 0
DropsAreKept =
    (z : Layout) (o : Opening) (words : List ℕ) (before : List Holding) (h : Holding) (after : List Holding) (log : List Applied) →
    LawfulWords z o words (before ++ h ∷ after) log →
    IsKept z o words before h after log words (record h { own = None; due = None }) log

-- a won exchange of a component: the record is published, and the history gains its entry
abbrev pub WinsAreKept : Type 0
WinsAreKept =
    (z : Layout) (o : Opening) (words : List ℕ) (before : List Holding) (h : Holding) (after : List Holding) (log : List Applied)
    (d : Due) →
    LawfulWords z o words (before ++ h ∷ after) log → h.due ≡ Some d → slice_index words d.component ≡ d.old →
    IsKept z o words before h after log (words_after words (Exchange (component_word z d.component) d.old d.at))
    (record h { own = None; due = None })
    (log ++ record { port = h.port; component = d.component; value = d.value; stamp = d.at } ∷ [])

-- a claim of a slot
abbrev pub SlotClaimsAreKept : Type 0
SlotClaimsAreKept =
    (z : Layout) (o : Opening) (words : List ℕ) (before : List Holding) (h : Holding) (after : List Holding) (log : List Applied) →
    LawfulWords z o words (before ++ h ∷ after) log → h.claimed ≡ None → slice_index words (slot_counter z) < z.slots →
    IsKept z o words before h after log (words_after words (Add (slot_counter z) 1))
    (record h { claimed = Some (record { slot = slice_index words (slot_counter z); joined = None }) }) log

-- a join: the announcement that the port has written is published in its slot
abbrev pub JoinsAreKept : Type 0
JoinsAreKept =
    (z : Layout) (o : Opening) (words : List ℕ) (before : List Holding) (h : Holding) (after : List Holding) (log : List Applied)
    (slot at : ℕ) (indices : List ℕ) →
    LawfulWords z o words (before ++ h ∷ after) log → h.claimed ≡ Some (record { slot = slot; joined = None }) → h.due ≡ None →
    h.own ≡ Some (record { space = Pool; at = at; words = announcement_block indices; stored = announcement_size (length indices) }) →
    length indices ≤ z.m → ((k : ℕ) → k < length indices → slice_index indices k < z.m) →
    IsKept z o words before h after log (words_after words (Store (slot_word z slot) at))
    (let j : JoinedAnnouncement = record { at = at; indices = indices; since = length log } in
    record h { own = None; claimed = Some (record { slot = slot; joined = Some j }) }) log

-- a leave: the slot is VACATED
abbrev pub LeavesAreKept : Type 0
LeavesAreKept =
    (z : Layout) (o : Opening) (words : List ℕ) (before : List Holding) (h : Holding) (after : List Holding) (log : List Applied) (slot : ℕ)
    (j : JoinedAnnouncement) →
    LawfulWords z o words (before ++ h ∷ after) log → h.claimed ≡ Some (record { slot = slot; joined = Some j }) →
    IsKept z o words before h after log (words_after words (Store (slot_word z slot) 1)) (record h { claimed = None }) log

-- an exchange of the list head: when it is won, the list that the port has written is published, and otherwise it is given up
abbrev pub PublishingsAreKept : Type 0
PublishingsAreKept =
    (z : Layout) (o : Opening) (words : List ℕ) (before : List Holding) (h : Holding) (after : List Holding) (log : List Applied)
    (old at : ℕ) (list : Ranges) →
    LawfulWords z o words (before ++ h ∷ after) log → h.due ≡ None →
    h.own ≡ Some (record { space = Lists; at = at; words = list_block list; stored = length (list_block list) }) →
    IsNormal list → ((x : ℕ) → Holds list x → (x < z.slots) × (slice_index words (slot_word z x) ≡ 1)) →
    IsKept z o words before h after log (words_after words (Exchange (list_head z) old at)) (record h { own = None }) log

-- what a load answers is true from then on, of a word that is no block's or a published block's
abbrev pub LoadsAreTrue : Type 0
LoadsAreTrue = (z : Layout) (o : Opening) (words : List ℕ) (hs : List Holding) (log : List Applied) (w : ℕ) →
    LawfulWords z o words hs log → w < total z → (list_base z ≤ w → IsPublished z words (unpublished hs) w) →
    IsLoaded z o words hs log w (record { answer = slice_index words w; at = length log })

-- what a port holds that has claimed nothing
abbrev pub idle_holding : Layout → ℕ → Holding
idle_holding z port = record {
  port = port;
  claimed = None;
  own = None;
  due = None;
  spare = no_spare z;
  pool_spent = false;
  slots_spent = false;
  lists_spent = false;
}

-- ports that hold nothing, from that port on
abbrev pub idle_holdings : Layout → ℕ → ℕ → List Holding
idle_holdings z port zero = []
idle_holdings z port (suc n) = idle_holding z port ∷ idle_holdings z (port + 1) n

-- words as they open, with no more ports than there may be, which hold nothing, are lawful
abbrev pub OpeningIsLawful : Type 0
OpeningIsLawful =
    (z : Layout) (o : Opening) (words : List ℕ) (n : ℕ) → OpensWith z o words → n ≤ most_ports → LawfulWords z o words (idle_holdings z 0 n) []
