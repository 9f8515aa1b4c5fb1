-- The words of an announcement, and what is read back from them.
use Rattle.std.specs.Prelude.{ℕ, ◌≡◌, ◌+◌, ◌<◌, List, ◌∷◌, length, slice_index}
use Rattle.partial_words.specs.Record.{StandsAt}

-- an announcement: how many indices there are, and the indices
abbrev pub announcement_block : List ℕ → List ℕ
announcement_block indices = length indices ∷ indices

-- how many words an announcement of n indices has
abbrev pub announcement_size : ℕ → ℕ
announcement_size n = 1 + n

-- how many words an announcement has at least: one of one index
abbrev pub least_announcement : ℕ
least_announcement = 2

-- the first word of the indices of the announcement at that place
abbrev pub indices_word : ℕ → ℕ
indices_word at = at + 1

-- the word of index k of the announcement at that place
abbrev pub announced_word : ℕ → ℕ → ℕ
announced_word at k = at + 1 + k

-- how many indices the announcement at that place has, as it stands in the words
abbrev pub announced_len : List ℕ → ℕ → ℕ
announced_len words at = slice_index words at

-- index k of it, as it stands in the words
abbrev pub announced_index : List ℕ → ℕ → ℕ → ℕ
announced_index words at k = slice_index words (announced_word at k)

-- what an announcement's writer gave, its readers read back
pub record ReadsBackAnnouncement (words : List ℕ) (at : ℕ) (indices : List ℕ) : Type 0 where
  pub count : announced_len words at ≡ length indices
  pub each : (k : ℕ) → k < length indices → announced_index words at k ≡ slice_index indices k

-- every announcement that stands in the words is read back
abbrev pub AnnouncementsReadBack : Type 0
AnnouncementsReadBack = (words : List ℕ) (at : ℕ) (indices : List ℕ) → StandsAt words at (announcement_block indices) →
    ReadsBackAnnouncement words at indices
