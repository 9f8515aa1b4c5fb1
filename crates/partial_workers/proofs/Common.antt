-- The names that several proofs of this crate take from elsewhere.
pub use Rattle.std.proofs.Common.{ℕ, suc, ◌≡◌, ◌+◌, ◌<◌, ◌≤◌, ◌++◌, List, [], ◌∷◌, length, take, slice_index_or, sym, ap, subst, ◌∙◌, arith, ◌⊎◌, Some, None, refl, inl, inr, zero, map, Option, ◌^◌, rules, Bor}
pub use Rattle.std.specs.{List.AllByRecursion, Vec.vec_capacity}
pub use Rattle.std.proofs.Math.Seq.{take-suc}
pub use Rattle.std.proofs.lemmas.Iterator.{Adapters.YieldsList-from_vec, Consumers.{YieldsList-turn, YieldsList-end}}
pub use Rattle.std.proofs.lemmas.List.{get_or_default, length-map, map-append, append-nil, length-take-le, length_push, take_all}
pub use Rattle.partial_model.specs.declared.call.{Answer.Answer, Call.Call, Note.Note}
pub use Rattle.partial_model.specs.Notes.{Noted, seen_after, IsLegal, LegalNotes, seen_by}
pub use Rattle.partial_model.proofs.AllLemmas.{all_append, all_back, all_front}
pub use Rattle.partial_memory.specs.Ports.{MemoryView, PortView, IsOf, Answered, IsRefused, new_ports}
pub use Rattle.partial_workers.specs.declared.worker.{Job.Job, Worked.Worked, Worker.Worker}
pub use Rattle.partial_workers.specs.declared.workers.{Results.Results, Works.Works}
pub use Rattle.partial_workers.specs.{Answered.{AreEach, IsCallWithin, AreAnswered, AreMakable, AreRight}, Work.{ScanHasRoom, HaveCome, HaveRooms, IsWorkDone, IsHired, IsNewWork, IsWorkStarted, calls_of, AreMade, Fills, IsMade, IsUnnoted, HasNumber, IsOpenedFor, WasClosedLawfully, WasEmpty, WasRefused}}
