-- What labels say of steps and of words of a memory. What they say of calls and entries are the texts of plans and outcomes.
use Rattle.std.specs.Prelude.{ℕ, ◌-◌, ◌==◌, nat_lt, List, ◌++◌, codes, decimal, if◌then◌else◌}
use Rattle.partial_words.specs.Layout.{Layout, slot_counter, list_head, pool_counter, list_counter, list_base, list_end}
use Rattle.partial_words.specs.declared.step.Step.{Step}

-- the words and values of an exchange, and how it ended
abbrev pub exchange_words : ℕ → ℕ → ℕ → List ℕ → List ℕ
exchange_words w old new end = codes "exchange " ++ (decimal w ++ (codes " " ++ (decimal old ++ (codes " " ++ (decimal new ++ end)))))

-- a step with its answer: an exchange has won when the answer is the value that it expects
abbrev pub step_words : Step → ℕ → List ℕ
step_words (Step.Load w) answer = codes "load " ++ (decimal w ++ (codes ": " ++ decimal answer))
step_words (Step.Store w v) answer = codes "store " ++ (decimal w ++ (codes " " ++ decimal v))
step_words (Step.Exchange w old new) answer = if answer == old then exchange_words w old new (codes ": won")
    else exchange_words w old new (codes ": lost to " ++ decimal answer)
step_words (Step.Add w n) answer = codes "add " ++ (decimal w ++ (codes " " ++ (decimal n ++ (codes ": " ++ decimal answer))))

-- the name of a word after the counters
abbrev pub block_name : Layout → ℕ → List ℕ
block_name s w = if nat_lt w (list_base s) then codes "slot " ++ decimal (w - s.m - 4) else
    if nat_lt w (list_end s) then codes "list word " ++ decimal w else codes "pool word " ++ decimal w

-- the name of a word of a memory
abbrev pub word_name : Layout → ℕ → List ℕ
word_name s w = if nat_lt w s.m then codes "component " ++ decimal w else
    if w == slot_counter s then codes "slot counter" else if w == list_head s then codes "list head" else
    if w == pool_counter s then codes "pool counter" else if w == list_counter s then codes "list counter" else block_name s w
