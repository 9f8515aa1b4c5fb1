-- The plain meaning of an atomic step on a list of words, and of a trace of such steps.
use Rattle.std.specs.Prelude.{ℕ, ◌≡◌, ◌+◌, ◌%◌, ◌^◌, ◌<◌, ◌==◌, List, [], ◌∷◌, length, slice_index, slice_set, if◌then◌else◌}
use Rattle.partial_words.specs.declared.step.Step.{Step}
use Rattle.partial_words.specs.declared.step.Step.TheVariants.{Load, Store, Exchange, Add}
use Rattle.partial_words.specs.declared.step.Event.{Event}

-- the word that a step is about
abbrev pub word_of : Step → ℕ
word_of (Load w) = w
word_of (Store w v) = w
word_of (Exchange w old new) = w
word_of (Add w k) = w

-- what a step answers: the word as it was before, but 0 to a store
abbrev pub answer_of : List ℕ → Step → ℕ
answer_of words (Load w) = slice_index words w
answer_of words (Store w v) = 0
answer_of words (Exchange w old new) = slice_index words w
answer_of words (Add w k) = slice_index words w

-- the words after a step; an exchange has won when the word was the old one, and a sum wraps at 2 ^ 64
abbrev pub words_after : List ℕ → Step → List ℕ
words_after words (Load w) = words
words_after words (Store w v) = slice_set words w v
words_after words (Exchange w old new) = slice_set words w (if slice_index words w == old then new else slice_index words w)
words_after words (Add w k) = slice_set words w ((slice_index words w + k) % 2 ^ 64)

-- the step is about one of the words, and this is its answer
pub record Answers (words : List ℕ) (step : Step) (answer : ℕ) : Type 0 where
  pub within : word_of step < length words
  pub gives : answer ≡ answer_of words step

-- the trace leads from the words to the last ones: each event has the answer that the words give then
abbrev pub Leads : List ℕ → List Event → List ℕ → Type 0
Leads words [] last = last ≡ words
Leads words (e ∷ es) last = Answers words e.step e.answer × Leads (words_after words e.step) es last
