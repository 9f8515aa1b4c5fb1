-- The one text of an outcome.
use Rattle.std.specs.Prelude.{ℕ, ◌+◌, List, [], ◌∷◌, ◌++◌, length, map, codes, Option, None, Some}
use Rattle.std.specs.List.{flat_map, range_with_len}
use Rattle.partial_model.specs.declared.history.Applied.{Applied}
use Rattle.partial_model.specs.declared.history.Opening.{Opening}
use Rattle.partial_model.specs.declared.call.Answer.{Answer}
use Rattle.partial_model.specs.declared.call.Note.{Note}
use Rattle.partial_model.specs.declared.call.Finish.{Finish}
use Rattle.partial_model.specs.declared.call.Called.{Called}
use Rattle.partial_model.specs.History.{value_of}
use Rattle.partial_model.specs.Notes.{place_of}
use Rattle.partial_model.specs.Refusals.{refused_code}
use Rattle.partial_text.specs.PlanText.{number_field}

-- an entry of the history at its place
abbrev pub entry_line : ℕ → Applied → List ℕ
entry_line place e =
    codes "applied" ++ number_field place ++ codes " port" ++ number_field e.port ++ codes " component" ++ number_field e.component ++
    codes " value" ++ number_field e.value ++ codes " stamp" ++ number_field e.stamp ++ 10 ∷ []

-- the entries of a history, of which the first has this place
abbrev pub entry_lines : ℕ → List Applied → List ℕ
entry_lines place [] = []
entry_lines place (e ∷ h) = entry_line place e ++ entry_lines (place + 1) h

-- a number after a space, and a dash when there is none
abbrev pub optional_field : Option ℕ → List ℕ
optional_field None = codes " -"
optional_field (Some n) = number_field n

-- the place or the prefix of a note, and 0 when there is no note
abbrev pub written_place : Option Note → ℕ
written_place None = 0
written_place (Some note) = place_of note

-- an answer, up to its place or prefix
abbrev pub answer_front : Answer → List ℕ
answer_front (Answer.Applied t) = codes " applied" ++ number_field t
answer_front (Answer.Lost t) = codes " lost" ++ number_field t
answer_front (Answer.Scanned vs c b) = codes " scanned" ++ flat_map number_field vs
answer_front (Answer.Read v t) = codes " read" ++ number_field v ++ number_field t
answer_front (Answer.Refused r) = codes " refused" ++ number_field (refused_code r)
answer_front (Answer.Changed t) = codes " changed" ++ number_field t

-- the place or the prefix of an answer, and nothing for a refusal
abbrev pub place_field : Answer → ℕ → List ℕ
place_field (Answer.Applied t) k = codes " place" ++ number_field k
place_field (Answer.Lost t) k = codes " place" ++ number_field k
place_field (Answer.Scanned vs c b) k = codes " prefix" ++ number_field k
place_field (Answer.Read v t) k = codes " prefix" ++ number_field k
place_field (Answer.Refused r) k = []
place_field (Answer.Changed t) k = codes " prefix" ++ number_field k

-- what follows the prefix of a scan; nothing follows that of other answers
abbrev pub answer_back : Answer → List ℕ
answer_back (Answer.Scanned vs c b) = codes " collects" ++ number_field c ++ codes " borrowed" ++ optional_field b
answer_back (Answer.Applied t) = []
answer_back (Answer.Lost t) = []
answer_back (Answer.Read v t) = []
answer_back (Answer.Refused r) = []
answer_back (Answer.Changed t) = []

-- an answer with its place or prefix
abbrev pub answer_text : Answer → ℕ → List ℕ
answer_text a k = answer_front a ++ place_field a k ++ answer_back a

-- how a call ended
abbrev pub finish_text : Option Finish → List ℕ
finish_text None = codes " unfinished"
finish_text (Some f) = answer_text f.answer (written_place f.note)

-- the length of the history when the call ended
abbrev pub ended_of : Option Finish → Option ℕ
ended_of None = None
ended_of (Some f) = Some f.ended

-- the line of a call
abbrev pub call_line : Called → List ℕ
call_line c =
    codes "call" ++ number_field c.port ++ number_field c.number ++ finish_text c.finish ++ codes " steps" ++ number_field c.steps ++
    codes " span" ++ number_field c.began ++ optional_field (ended_of c.finish) ++ 10 ∷ []

-- the values of the components after a history
abbrev pub values_of : Opening → List Applied → List ℕ
values_of o h = map (value_of o h) (range_with_len 0 (length o.values))

-- the line of the values at the end
abbrev pub values_line : List ℕ → List ℕ
values_line vs = codes "values" ++ flat_map number_field vs ++ 10 ∷ []

-- the line of the number of steps
abbrev pub total_line : ℕ → List ℕ
total_line steps = codes "total" ++ number_field steps ++ 10 ∷ []

-- an outcome: its entries, its calls, the values after all entries, and the number of steps
abbrev pub outcome_text : Opening → List Applied → List Called → ℕ → List ℕ
outcome_text o h calls steps = entry_lines 0 h ++ flat_map call_line calls ++ values_line (values_of o h) ++ total_line steps
