-- What the answers of all ports say: there is one history in which they are right.
use Rattle.std.specs.Prelude.{ℕ, ◌≡◌, ◌+◌, ◌<◌, ◌≤◌, ◌^◌, ⊤, List, [], ◌∷◌, length, map}
use Rattle.std.specs.List.{AllByRecursion}
use Rattle.std.specs.declared.alloc.Global.{Global}
use Rattle.std.specs.declared.vec.Vec.{Vec}
use Rattle.partial_model.specs.declared.history.Applied.{Applied}
use Rattle.partial_model.specs.declared.history.Opening.{Opening}
use Rattle.partial_model.specs.declared.call.Call.{Call}
use Rattle.partial_model.specs.declared.call.Answer.{Answer}
use Rattle.partial_model.specs.History.{IsHistory}
use Rattle.partial_model.specs.Notes.{Noted, LegalNotes}
use Rattle.partial_model.specs.Outcome.{EachOnce}
use Rattle.partial_memory.specs.Closing.{AreValues}

-- each pair of the two lists, numbered from there on
abbrev pub AreEach : {A B : Type 0} → (ℕ → A → B → Type 0) → ℕ → List A → List B → Type 0
AreEach P k [] [] = Unit {0}
AreEach P k (a ∷ more) (b ∷ others) = P k a b × AreEach P (k + 1) more others
AreEach P k _ _ = ⊥

-- a memory of m components can be asked for the call: a scan has no more positions than that
abbrev pub IsCallWithin : ℕ → Call → Type 0
IsCallWithin m (Call.Scan js) = length js ≤ m
IsCallWithin m _ = ⊤

-- it can be asked for each of the calls of each port, and they can be numbered
abbrev pub AreMakable : ℕ → List (List Call) → Type 0
AreMakable m calls = AllByRecursion (λ cs. (length cs < 2 ^ 32) × AllByRecursion (IsCallWithin m) cs) calls

-- These calls of a port had these answers: with some notes they are legal in the history, and the port's entries are those that the
-- notes wrote, each once and in the order of the calls.
pub record AreAnswered (o : Opening) (log : List Applied) (port : ℕ) (called : List Call) (given : Vec Answer Global) : Type 0 where
  pub notes : List Noted
  pub calls : map (λ n. n.call) notes ≡ called
  pub answers : map (λ n. n.answer) notes ≡ given.items
  pub legal : LegalNotes o log port 0 notes
  pub once : EachOnce log port notes

-- There is one list of answers for each port, with one for each of its calls, in order. There is one history over the opening's values,
-- of distinct stamps and with entries by these ports alone, in which all of them are right, and after which these are the values.
pub record AreRight (o : Opening) (calls : List (List Call)) (answers : List (Vec Answer Global)) (after : List ℕ) : Type 0 where
  pub log : List Applied
  pub history : IsHistory o log
  pub ports : AreEach (AreAnswered o log) 0 calls answers
  pub others : AllByRecursion (λ e. e.port < length calls) log
  pub values : AreValues o log (length o.values) after
