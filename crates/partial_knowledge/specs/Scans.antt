-- What an embedded scan knows at each of its stages by the answers that it has kept, in lawful words.
use Rattle.std.specs.Prelude.{ℕ, ◌≡◌, ◌≢◌, ◌+◌, ◌<◌, ◌≤◌, true, false, List, length, take, slice_get, slice_index, slice_index_or, Some, None}
use Rattle.std.specs.List.{AllByRecursion}
use Rattle.partial_model.specs.declared.history.Applied.{Applied}
use Rattle.partial_model.specs.declared.history.Opening.{Opening}
use Rattle.partial_model.specs.History.{value_of, stamp_of}
use Rattle.partial_words.specs.declared.step.Step.TheVariants.{Load}
use Rattle.partial_words.specs.Layout.{Layout}
use Rattle.partial_words.specs.Record.{pair_index_word, pair_value_word, prev_of, view_of}
use Rattle.partial_embedded.specs.declared.embedded.Stage.{Stage}
use Rattle.partial_embedded.specs.declared.embedded.Stage.TheVariants.{Collect, View, Len, Index, PairValue, Value, Done}
use Rattle.partial_embedded.specs.Embedded.{ViewPair, RowsState, ViewGoesTogether, IsPossibleInView, is_first, view_step_due, advance_view}
use Rattle.partial_state.specs.Views.{IsBegunSince, HasPairs}
use Rattle.partial_state.specs.Holdings.{Holding, unpublished}
use Rattle.partial_state.specs.LawfulWords.{LawfulWords}
use Rattle.partial_state.specs.Loads.{KeptAnswer, IsLoaded}
use Rattle.partial_knowledge.specs.Sets.{IsReadable}

-- an entry for the component stands at a place from `low` on and before `high`
abbrev pub HasEntry : List Applied → ℕ → ℕ → ℕ → Type 0
HasEntry log low high component = (k : ℕ) × (e : Applied) × (slice_get log k ≡ Some e) × (e.component ≡ component) × (low ≤ k) × (k < high)

-- the latest load of position i was made at the length t, and where the position has changed an entry came between
pub record IsLatest (o : Opening) (log : List Applied) (indices : List ℕ) (low : ℕ) (rows : RowsState) (i t : ℕ) : Type 0 where
  pub from : low ≤ t
  pub stamp : slice_index rows.last i ≡ stamp_of o (take t log) (slice_index indices i)
  pub change : slice_index_or rows.changed i false ≡ true → HasEntry log low t (slice_index indices i)

-- A collect under way, k positions of which are loaded: between the collect before and this one the history had
-- the length `middle`, and where nothing has changed the latest loads are the stamps of that length.
pub record IsCollecting (o : Opening) (log : List Applied) (indices : List ℕ) (low high : ℕ) (p : ViewPair) (k : ℕ) : Type 0 where
  pub none : p.0.borrowed ≡ None
  pub middle : ℕ
  pub from : low ≤ middle
  pub to : middle ≤ high
  pub loaded : (i : ℕ) → i < k → (t : ℕ) × IsLatest o log indices low p.1 i t × (middle ≤ t) × (t ≤ high)
  pub same : is_first p ≡ false → p.0.moved ≡ false → (i : ℕ) → i < k →
      slice_index p.1.last i ≡ stamp_of o (take middle log) (slice_index indices i)
  -- in the first collect no position has changed, and in the second none that isn't loaded yet
  pub calm_first : is_first p ≡ true → (i : ℕ) → i < k → slice_index_or p.1.changed i false ≡ false
  pub calm_second : p.0.collects ≡ 2 → (i : ℕ) → k ≤ i → i < length indices → slice_index_or p.1.changed i false ≡ false
  pub before : is_first p ≡ false → (i : ℕ) → k ≤ i → i < length indices → (t : ℕ) × IsLatest o log indices low p.1 i t × (t ≤ middle)

-- the values of the positions after the first n entries, n between the two lengths
pub record HasValues (o : Opening) (log : List Applied) (indices : List ℕ) (low high : ℕ) (rows : RowsState) (n count : ℕ) : Type 0 where
  pub from : low ≤ n
  pub to : n ≤ high
  pub values : (i : ℕ) → i < count → slice_index rows.values (slice_index indices i) ≡ value_of o (take n log) (slice_index indices i)

-- the latest loads are the stamps of the positions after that history
abbrev pub AreStamps : Opening → List Applied → List ℕ → List ℕ → Type 0
AreStamps o log indices last = (i : ℕ) → i < length indices → slice_index last i ≡ stamp_of o log (slice_index indices i)

-- two collects agreed: the latest loads are the stamps after the first n entries, and so many values are loaded
pub record CollectsAgreed (o : Opening) (log : List Applied) (indices : List ℕ) (low high : ℕ) (p : ViewPair) (k : ℕ) : Type 0 where
  pub none : p.0.borrowed ≡ None
  pub two : 2 ≤ p.0.collects
  pub prefix : ℕ
  pub stamps : AreStamps o (take prefix log) indices p.1.last
  pub values : HasValues o log indices low high p.1 prefix k

-- A position showed a third record: it is that of an entry for the position, and the record before it is one of an
-- entry at `low` or later.
pub record IsThird (words : List ℕ) (log : List Applied) (indices : List ℕ) (low : ℕ) (p : ViewPair) (stamp : ℕ) : Type 0 where
  pub borrowed : p.0.borrowed ≡ Some stamp
  pub three : 3 ≤ p.0.collects
  pub place : ℕ
  pub entry : Applied
  pub stands : slice_get log place ≡ Some entry
  pub is : entry.stamp ≡ stamp
  pub position : ℕ
  pub within : position < length indices
  pub component : entry.component ≡ slice_index indices position
  pub begun : IsBegunSince log low (prev_of words stamp)

-- So many pairs of the view of the third record are loaded: each is the value of its component after the first n entries.
pub record HasLoaded (z : Layout) (o : Opening) (words : List ℕ) (hs : List Holding) (log : List Applied) (low place : ℕ) (rows : RowsState)
    (stamp : ℕ) (pairs : List (ℕ × ℕ)) (count : ℕ) : Type 0 where
  pub shown : HasPairs z words (unpublished hs) stamp pairs
  pub prefix : ℕ
  pub from : low ≤ prefix
  pub to : prefix ≤ place
  pub fresh : AllByRecursion (λ pair. pair.1 ≡ value_of o (take prefix log) pair.0) pairs
  pub loaded : (i : ℕ) → i < count → (c v : ℕ) → slice_get pairs i ≡ Some (c, v) →
      slice_index rows.values c ≡ value_of o (take prefix log) c

-- the view of the third record, so many pairs of which are loaded
abbrev pub Loads : Layout → Opening → List ℕ → List Holding → List Applied → List ℕ → ℕ → ViewPair → ℕ → Type 0
Loads z o words hs log indices low p left =
    (stamp : ℕ) × (t : IsThird words log indices low p stamp) × (p.0.view ≡ view_of words stamp) × (pairs : List (ℕ × ℕ)) × (count : ℕ)
    × (count + left ≡ length pairs) × HasLoaded z o words hs log low t.place p.1 stamp pairs count

-- what is known at a stage: each load was made at a length from `low` to `high`
abbrev pub knows_at : Layout → Opening → List ℕ → List Holding → List Applied → List ℕ → ℕ → ℕ → Stage → ViewPair → Type 0
knows_at z o words hs log indices low high (Collect k) p = IsCollecting o log indices low high p k
knows_at z o words hs log indices low high (View stamp) p = IsThird words log indices low p stamp
knows_at z o words hs log indices low high (Len at) p =
    (stamp : ℕ) × IsThird words log indices low p stamp × (p.0.view ≡ view_of words stamp) × (at ≡ view_of words stamp) × (at ≢ 0)
    × (p.0.shares ≡ false)
knows_at z o words hs log indices low high (Index at left) p =
    (p.0.shares ≡ false) × (l : Loads z o words hs log indices low p left) × (at ≡ pair_index_word p.0.view l.4) × (0 < left)
knows_at z o words hs log indices low high (PairValue at left index) p =
    (p.0.shares ≡ false) × (l : Loads z o words hs log indices low p left) × (at ≡ pair_value_word p.0.view l.4) × (0 < left)
    × ((v : ℕ) × (slice_get l.3 l.4 ≡ Some (index, v)))
knows_at z o words hs log indices low high (Value k) p = CollectsAgreed o log indices low high p k
knows_at z o words hs log indices low high Done p =
    (p.0.borrowed ≡ None → (2 ≤ p.0.collects) × (n : ℕ) × HasValues o log indices low high p.1 n (length indices)
    × AreStamps o (take n log) indices p.1.last)
    × ((stamp : ℕ) → p.0.borrowed ≡ Some stamp → IsThird words log indices low p stamp × (p.0.view ≡ view_of words stamp))
    × ((stamp : ℕ) → p.0.borrowed ≡ Some stamp → p.0.shares ≡ false → Loads z o words hs log indices low p 0)

-- what an embedded scan knows of lawful words by its answers
abbrev pub ScanKnows : Layout → Opening → List ℕ → List Holding → List Applied → List ℕ → ℕ → ℕ → ViewPair → Type 0
ScanKnows z o words hs log indices low high p = knows_at z o words hs log indices low high p.0.stage p

-- What an embedded scan knows leads on: the word that it is to load may be loaded and gives a possible answer, and
-- each answer of a load that is true yet leads to what is known next.
pub record ScanKnowsOn (z : Layout) (o : Opening) (words : List ℕ) (hs : List Holding) (log : List Applied) (indices : List ℕ)
    (low high : ℕ)
    (p : ViewPair) : Type 0 where
  pub readable : (w : ℕ) → view_step_due indices p ≡ Some (Load w) → IsReadable z words hs w
  pub possible : (w : ℕ) → view_step_due indices p ≡ Some (Load w) →
      IsLoaded z o words hs log w (record { answer = slice_index words w; at = length log }) → IsPossibleInView p (slice_index words w)
  pub on : (w : ℕ) (k : KeptAnswer) → view_step_due indices p ≡ Some (Load w) → IsLoaded z o words hs log w k → high ≤ k.at →
      ScanKnows z o words hs log indices low k.at (advance_view indices p k.answer)

-- in lawful words what an embedded scan knows leads on, from stage to stage
abbrev pub EmbeddedScansKnow : Type 0
EmbeddedScansKnow = (o : Opening) (words : List ℕ) (hs : List Holding) (log : List Applied) (indices : List ℕ) (low high : ℕ)
    (p : ViewPair) →
    LawfulWords p.0.sizes o words hs log → ViewGoesTogether indices p → low ≤ high → high ≤ length log →
    ScanKnows p.0.sizes o words hs log indices low high p → ScanKnowsOn p.0.sizes o words hs log indices low high p
