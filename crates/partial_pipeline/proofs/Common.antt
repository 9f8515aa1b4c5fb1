-- The names that several proofs of this crate take from elsewhere.
pub use Rattle.std.proofs.Common.{ℕ, zero, suc, ◌≡◌, ◌+◌, ◌<◌, ◌≤◌, ◌==◌, ◌++◌, Bool, true, false, if◌then◌else◌, List, [], ◌∷◌, length, replicate, take, slice_index, refl, sym, ◌∙◌, ap, subst, inl, inr, Option, Some, None, slice_get, arith, map, slice_index_or, append-nil, append_assoc, length-take, rules}
pub use Rattle.std.specs.declared.alloc.Global.{Global}
pub use Rattle.std.specs.declared.vec.Vec.{Vec}
pub use Rattle.std.specs.{List.AllByRecursion, Vec.vec_capacity}
pub use Rattle.std.proofs.lemmas.{Bool.{eq-eqb, ne_eqb, cases_lt}, List.{ext_get_or, get_or-map, length-map, take_all, length_push, map-append}}
pub use Rattle.std.proofs.lemmas.Iterator.{Adapters.YieldsList-from_vec, Consumers.{YieldsList-turn, YieldsList-end}}
pub use Rattle.partial_model.specs.declared.call.{Answer.Answer, Call.Call, Note.Note}
pub use Rattle.partial_model.specs.declared.history.{Applied.Applied, Opening.Opening}
pub use Rattle.partial_model.specs.{Entries.{applied_by, entry_of, OnlyRises, entries_by}, Notes.{Noted, IsLegal, LegalNotes, seen_after, seen_by}, Outcome.{wrote, places_written, EachOnce}}
pub use Rattle.partial_model.proofs.{AllLemmas.{all_append, all_back, all_where, all_weaker, all_front}, Entries.{noted_at, entries_are_noted, entry_holds}, NotesLemmas.{AllByRecursion-get, LegalNotes-last, shown_within}, Values.{element_at, rising_never_falls, value_at_first, value_kept, value_set}}
pub use Rattle.partial_long_lived.specs.declared.answers.Updated.{Updated}
pub use Rattle.partial_long_lived.specs.{Calls.{Goes, IsRefused, Meets, Reads, Scanned, Scans, Updates}, Ports.{IsOf, MemoryView, PortView, Knows, new_ports}}
pub use Rattle.partial_pipeline.specs.declared.stage.{Stage.Stage, StageEnd.StageEnd, Worked.Worked}
pub use Rattle.partial_pipeline.specs.declared.stage.StageEnd.TheVariants.{Finished, Stopped}
pub use Rattle.partial_pipeline.specs.{Pipeline.{AreFrom, IsPipeline, IsStageIn, Works, CountsStayOrdered, CountsNeverFall, AreOrdered, HaveEnded, HaveRisen, IsOrderly, NeverFall, last_of, HasWorked}, Stages.{last_value, published_count, EndEach, HasMetMonitor, IsEachStage, GoesOnNoting, Opens, Sees, StagesWatched, EndsAt, IsStageDone, IsWorking, IsNewStage, IsOpened, IsStageStarted, IsWatching, AreRooms}}
