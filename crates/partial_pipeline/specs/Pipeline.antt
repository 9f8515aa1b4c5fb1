-- What a pipeline promises of its counts, and why: what each stage notes, and what then holds in the history that all ports share.
use Rattle.std.specs.Prelude.{ℕ, ◌≡◌, ◌+◌, ◌<◌, ◌≤◌, ◌⊎◌, ⊤, List, [], ◌∷◌, ◌++◌, length, map, take, slice_get, slice_index, Option, Some, None, IfSome}
use Rattle.std.specs.List.{AllByRecursion}
use Rattle.std.specs.declared.alloc.Global.{Global}
use Rattle.std.specs.declared.vec.Vec.{Vec}
use Rattle.partial_model.specs.declared.history.Applied.{Applied}
use Rattle.partial_model.specs.declared.history.Opening.{Opening}
use Rattle.partial_model.specs.declared.call.Call.{Call}
use Rattle.partial_model.specs.declared.call.Answer.{Answer}
use Rattle.partial_model.specs.History.{value_of}
use Rattle.partial_model.specs.Notes.{Noted, LegalNotes}
use Rattle.partial_model.specs.Outcome.{EachOnce}
use Rattle.partial_long_lived.specs.declared.open_error.OpenError.{OpenError}
use Rattle.partial_long_lived.specs.declared.options.Options.{Options}
use Rattle.partial_long_lived.specs.Options.{most_lists, most_pool, pool_words}
use Rattle.partial_pipeline.specs.declared.error.PipelineError.{PipelineError}
use Rattle.partial_pipeline.specs.declared.error.PipelineError.TheVariants.{Stages, Lists, Pool, OutOfMemory}
use Rattle.partial_pipeline.specs.declared.report.PipelineReport.{PipelineReport}
use Rattle.partial_pipeline.specs.declared.stage.StageEnd.TheVariants.{Finished}

-- each count is at most that of the stage before it
abbrev pub AreOrdered : List ℕ → Type 0
AreOrdered counts = (k : ℕ) → k + 1 < length counts → slice_index counts (k + 1) ≤ slice_index counts k

-- no count is less than it was
abbrev pub HaveRisen : List ℕ → List ℕ → Type 0
HaveRisen before after = (k : ℕ) → k < length before → slice_index before k ≤ slice_index after k

-- from each of these lists to each later one no count falls
abbrev pub NeverFall : List (List ℕ) → Type 0
NeverFall [] = ⊤
NeverFall (counts ∷ later) = AllByRecursion (HaveRisen counts) later × NeverFall later

-- the last scan, if there is one
abbrev pub last_of : Option (Vec ℕ Global) → List (List ℕ)
last_of None = []
last_of (Some counts) = counts.items ∷ []

-- all counts of a report, in order: the scans, the last scan, and what the memory held when it was closed
abbrev pub all_counts : PipelineReport → List (List ℕ)
all_counts r = (map (λ v. v.items) r.scans.items ++ last_of r.last) ++ r.counts.items ∷ []

-- The report of a pipeline of so many stages: everywhere there is a count for each stage, each is at most that of the stage before it,
-- and none ever falls; the last scan gives the counts with which the memory was closed.
pub record IsOrderly (stages : ℕ) (r : PipelineReport) : Type 0 where
  pub each : AllByRecursion (λ counts. length counts ≡ stages) (all_counts r)
  pub ordered : AllByRecursion AreOrdered (all_counts r)
  pub rising : NeverFall (all_counts r)
  pub last : IfSome r.last (λ counts. counts.items ≡ r.counts.items)

-- How the stages of a report ended: there is one end for each, no count passes the number of items, and the count of a stage that has
-- finished is that number.
pub record HaveEnded (stages items : ℕ) (r : PipelineReport) : Type 0 where
  pub many : length r.ends.items ≡ stages
  pub most : (k : ℕ) → k < stages → slice_index r.counts.items k ≤ items
  pub finished : (k : ℕ) → k < stages → slice_get r.ends.items k ≡ Some Finished → slice_index r.counts.items k ≡ items

-- the number of stages is in its range
abbrev pub AreStages : ℕ → Type 0
AreStages stages = (1 ≤ stages) × (stages ≤ 63)

-- why a pipeline of that many stages and these options may not run: what is out of its range, or memory when the stages are not
abbrev pub MayNotRun : ℕ → Options → PipelineError → Type 0
MayNotRun stages o Stages = (stages ≡ 0) ⊎ (63 < stages)
MayNotRun stages o Lists = AreStages stages × (most_lists < o.lists)
MayNotRun stages o Pool = AreStages stages × (o.lists ≤ most_lists) × (most_pool < pool_words stages (stages + 1) o)
MayNotRun stages o OutOfMemory = AreStages stages

-- what the refusal of a memory is to its pipeline
abbrev pub error_of : OpenError → PipelineError
error_of OpenError.Ports = Stages
error_of OpenError.Components = Stages
error_of OpenError.Lists = Lists
error_of OpenError.Pool = Pool
error_of OpenError.OutOfMemory = OutOfMemory

-- the numbers of the refusals
abbrev pub error_code : PipelineError → ℕ
error_code Stages = 5
error_code Lists = 3
error_code Pool = 4
error_code OutOfMemory = 6

-- What is said of its number holds of each in the list; the first has number k.
abbrev pub AreFrom : {A : Type 0} → (ℕ → A → Type 0) → ℕ → List A → Type 0
AreFrom P k [] = ⊤
AreFrom P k (x ∷ xs) = P k x × AreFrom P (k + 1) xs

-- What stage k notes, when it has read that many items of the stage before and its count is `count`: it reads the count of the stage
-- before, or sets its own, which never falls and never passes what was read last. It ends with these two.
abbrev pub Works : ℕ → ℕ → ℕ → List Noted → ℕ → ℕ → Type 0
Works k read count [] read' count' = (read ≡ read') × (count ≡ count')
Works k read count (n ∷ ns) read' count' =
    ((j v s : ℕ) × (k ≡ j + 1) × (n.call ≡ Call.Read j) × (n.answer ≡ Answer.Read v s) × Works k v count ns read' count')
    ⊎ ((v : ℕ) × (n.call ≡ Call.Update k v) × (count ≤ v) × (v ≤ read) × Works k read v ns read' count')

-- what stage k has noted; only the first stage has read anything at its begin
pub record HasWorked (k : ℕ) (ns : List Noted) : Type 0 where
  pub from : ℕ
  pub read : ℕ
  pub count : ℕ
  pub none : 0 < k → from ≡ 0
  pub works : Works k from 0 ns read count

-- the notes of stage k, whose port has its number, in the history
pub record IsStageIn (o : Opening) (h : List Applied) (k : ℕ) (ns : List Noted) : Type 0 where
  pub legal : LegalNotes o h k 0 ns
  pub once : EachOnce h k ns
  pub worked : HasWorked k ns

-- the history of a pipeline: all counts begin at 0, and each entry is by one of the stages that noted these calls
pub record IsPipeline (o : Opening) (h : List Applied) (stages : List (List Noted)) : Type 0 where
  pub zero : (k : ℕ) → slice_index o.values k ≡ 0
  pub each : AreFrom (IsStageIn o h) 0 stages
  pub below : AllByRecursion (λ e. e.port < length stages) h

-- at each length of a pipeline's history each stage's count is at most that of the stage before it
abbrev pub CountsStayOrdered : Type 0
CountsStayOrdered =
    (o : Opening) (h : List Applied) (stages : List (List Noted)) → IsPipeline o h stages
    → (n k : ℕ) → n ≤ length h → k + 1 < length stages → value_of o (take n h) (k + 1) ≤ value_of o (take n h) k

-- from one length of a pipeline's history to a later one no stage's count falls
abbrev pub CountsNeverFall : Type 0
CountsNeverFall =
    (o : Opening) (h : List Applied) (stages : List (List Noted)) → IsPipeline o h stages
    → (m n k : ℕ) → m ≤ n → n ≤ length h → k < length stages → value_of o (take m h) k ≤ value_of o (take n h) k
