-- What an embedded scan does over every run of possible answers.
use Rattle.std.specs.Prelude.{ℕ, ◌≡◌, ◌≢◌, ◌*◌, ◌+◌, ◌<◌, ◌≤◌, Bool, Some, None, List, [], ◌∷◌, ◌++◌, length, take, slice_index, slice_set}
use Rattle.partial_words.specs.declared.step.Step.{Step}
use Rattle.partial_words.specs.declared.step.Step.TheVariants.{Load}
use Rattle.partial_words.specs.Layout.{Layout}
use Rattle.partial_embedded.specs.declared.embedded.Stage.TheVariants.{View, Value, Done}
use Rattle.partial_embedded.specs.Embedded.{ViewPair, RowsState, ArePositions, AreRowsFor, IsPossibleInView, fresh_view, advance_view, view_step_due, view_left, most_view_steps}

-- these answers lead the machine from one state to the other, each a possible one
abbrev pub ViewRun : List ℕ → ViewPair → List ℕ → ViewPair → Type 0
ViewRun indices p [] q = q ≡ p
ViewRun indices p (x ∷ xs) q = IsPossibleInView p x × ViewRun indices (advance_view indices p x) xs q

-- a run of the positions from its beginning
abbrev pub RunsTo : Layout → Bool → List ℕ → RowsState → List ℕ → ViewPair → Type 0
RunsTo s shares indices rows xs q = ArePositions s indices × AreRowsFor s rows × ViewRun indices (fresh_view s shares, rows) xs q

-- the word is the component of one of the positions
abbrev pub IsOfPosition : List ℕ → ℕ → Type 0
IsOfPosition indices w = (k : ℕ) × (k < length indices) × (slice_index indices k ≡ w)

-- each step is a load, and it loads no component word but those of its positions
abbrev pub LoadsItsPositionsAlone : Type 0
LoadsItsPositionsAlone =
    (s : Layout) (shares : Bool) (indices : List ℕ) (rows : RowsState) (xs : List ℕ) (q : ViewPair) (step : Step) →
    RunsTo s shares indices rows xs q → view_step_due indices q ≡ Some step → (w : ℕ) × (step ≡ Load w) × (w < s.m → IsOfPosition indices w)

-- it makes r + 2 collects at most, and in all no more steps than its bound
abbrev pub MakesFewCollects : Type 0
MakesFewCollects =
    (s : Layout) (shares : Bool) (indices : List ℕ) (rows : RowsState) (xs : List ℕ) (q : ViewPair) → RunsTo s shares indices rows xs q →
    (q.0.collects ≤ length indices + 2) × (length xs + view_left indices q ≤ most_view_steps s (length indices))

-- the load of position k in collect c, both counted from 0
abbrev pub load_in : ℕ → List ℕ → ℕ → ℕ → ℕ
load_in r xs c k = slice_index xs (r * c + k)

-- the answers are so many whole collects, and the last two are equal
pub record LastTwoAreEqual (r : ℕ) (xs : List ℕ) (collects : ℕ) : Type 0 where
  pub before : ℕ
  pub count : collects ≡ before + 2
  pub whole : length xs ≡ r * (before + 2)
  pub equal : (k : ℕ) → k < r → load_in r xs before k ≡ load_in r xs (before + 1) k

-- the loads of a position differ between a collect and the next
abbrev pub Changes : ℕ → List ℕ → ℕ → ℕ → Type 0
Changes r xs c k = load_in r xs c k ≢ load_in r xs (c + 1) k

-- A position has changed twice, the second time in the last collect, where it shows this record. That load is the last one:
-- the collect is left at once.
pub record ShowsThirdRecord (r : ℕ) (xs : List ℕ) (collects stamp : ℕ) : Type 0 where
  pub position : ℕ
  pub within : position < r
  pub first : ℕ
  pub second : ℕ
  pub order : first < second
  pub changes : Changes r xs first position
  pub again : Changes r xs second position
  pub last : collects ≡ second + 2
  pub shown : load_in r xs (second + 1) position ≡ stamp
  pub left : length xs ≡ r * (second + 1) + position + 1

-- it loads values only after two equal collects, and borrows only from a third record at one position
abbrev pub EndsInEqualCollectsOrAThirdRecord : Type 0
EndsInEqualCollectsOrAThirdRecord =
    (s : Layout) (shares : Bool) (indices : List ℕ) (rows : RowsState) (xs : List ℕ) (q : ViewPair) → RunsTo s shares indices rows xs q →
    (q.0.stage ≡ Value 0 → LastTwoAreEqual (length indices) xs q.0.collects)
    × ((stamp : ℕ) → q.0.stage ≡ View stamp → ShowsThirdRecord (length indices) xs q.0.collects stamp)

-- the values of the components after these loads, position by position: when a component is repeated its last load counts
abbrev pub written_values : List ℕ → List ℕ → List ℕ → List ℕ
written_values [] loads values = values
written_values (j ∷ js) [] values = values
written_values (j ∷ js) (x ∷ xs) values = written_values js xs (slice_set values j x)

-- the answers are whole collects, the last two of them equal, and then the values of so many positions
pub record LoadsValues (indices xs : List ℕ) (q : ViewPair) (k : ℕ) : Type 0 where
  pub front : List ℕ
  pub loads : List ℕ
  pub is : xs ≡ front ++ loads
  pub count : length loads ≡ k
  pub equal : LastTwoAreEqual (length indices) front q.0.collects
  pub before : List ℕ
  pub values : q.1.values ≡ written_values (take k indices) loads before

-- the answers are collects up to a third record at one position, and then loads of its view, whose reference comes first
pub record LoadsView (r : ℕ) (xs : List ℕ) (q : ViewPair) (stamp : ℕ) : Type 0 where
  pub front : List ℕ
  pub behind : List ℕ
  pub is : xs ≡ front ++ q.0.view ∷ behind
  pub third : ShowsThirdRecord r front q.0.collects stamp
  pub borrowed : q.0.borrowed ≡ Some stamp

-- A finished scan has borrowed nothing, and then its values are those that it loaded after two equal collects; or it has
-- borrowed the view of the record that was the third one at some position.
pub record EndsWell (indices xs : List ℕ) (q : ViewPair) : Type 0 where
  pub own : q.0.borrowed ≡ None → LoadsValues indices xs q (length indices)
  pub shared : (stamp : ℕ) → q.0.borrowed ≡ Some stamp → LoadsView (length indices) xs q stamp

-- a finished scan ends in one of the two ways
abbrev pub FinishedScansEndWell : Type 0
FinishedScansEndWell = (s : Layout) (shares : Bool) (indices : List ℕ) (rows : RowsState) (xs : List ℕ) (q : ViewPair) →
    RunsTo s shares indices rows xs q → q.0.stage ≡ Done → EndsWell indices xs q
