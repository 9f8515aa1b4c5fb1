-- The names that several proofs of this crate take from elsewhere.
pub use Rattle.std.proofs.Common.{ℕ, zero, suc, ◌≡◌, ◌+◌, ◌<◌, ◌≤◌, ◌==◌, ◌++◌, Bool, true, false, if◌then◌else◌, List, [], ◌∷◌, length, map, take, Option, Some, None, IfSome, IsSomeAnd, refl, sym, ◌∙◌, ap, subst, inl, inr, arith, ◌⊎◌, ◌≢◌, MatchOption, slice_get, append_assoc, length-append, slice_index_or, ◌-◌, min, replicate, ◌^◌, Contains, slice_set, ◌*◌, not, MatchBool, nat_lt, Result, Ok, Err, OnOk, get_or-set_other, mul-le-mul, mul-suc, count_by, drop, slice_index, vec_len, rules}
pub use Rattle.std.specs.declared.alloc.Global.{Global}
pub use Rattle.std.specs.declared.vec.Vec.{Vec}
pub use Rattle.std.specs.{List.{AllByRecursion, filter_map, cons_option, range_with_len, filter, zip, sum_by}, Option.{option_map, option_map_or, IsSome, is_some, option_to_list}}
pub use Rattle.std.proofs.Math.Seq.{drop-append-add, drop-append_seam, take-append-add, take-append_seam, take-length}
pub use Rattle.std.proofs.lemmas.{Bool.{ne_eqb, cases_lt, false≢true, ltb-true, cases_eq, eq-eqb, eqb-true}, List.{append-nil, length_push, map_push, ext_get_or, take-take, take-append-le, map-append, length-map, length-replicate, length-set, get_or-set_same, get_or-map, take_all, replicate-append-replicate, take-append-drop, drop-append-le}, Option.{get_or_from_slice_get, slice_get_within, slice_get-get_or}}
pub use Rattle.std.proofs.lemmas.Bool.Decides.{eqb_tells}
pub use Rattle.std.proofs.lemmas.List.{Elements.{filter-append, filter_map-append}, Sums.{sum_by-cons, sum_by_push, sum_by-append}}
pub use Rattle.partial_model.specs.declared.call.{Answer.Answer, Call.Call, Called.Called, Finish.Finish, Note.Note, Refused.Refused}
pub use Rattle.partial_model.specs.declared.history.{Applied.Applied, Opening.Opening}
pub use Rattle.partial_model.specs.{History.{stamp_of, HaveDistinctStamps, IsHistory, last_entry, initial_stamp, value_of}, Notes.{Noted, Fits, IsTrueOf, IsLegal, LegalNotes, seen_after, shown_by, place_of, seen_by, IsEntryFor, MayBeRefused}, Outcome.{noted_of, places_by, places_written, wrote, Follows, RealTime, LegalOutcome, notes_of, IsInTime}}
pub use Rattle.partial_model.proofs.{AllLemmas.{position_below, all_take}, HistoryLemmas.{opening_is, place_below, LastAt, last_at, last_entry-passed, stamp_all, last_entry-found}, ListLemmas.some_same, NotesLemmas.{AllByRecursion-append, AllByRecursion-get, AllByRecursion-push, LegalNotes-push, LegalNotes-grows, seen_by-push, places_written-push, slice_get_grows, slice_get_last, places_written-append, AllByRecursion-weaker, LegalNotes-last}}
pub use Rattle.partial_words.specs.declared.step.{Event.Event, Step.Step}
pub use Rattle.partial_words.specs.declared.step.Step.TheVariants.{Add, Exchange, Load, Store}
pub use Rattle.partial_words.specs.{Chain.{AreOpeningWords, Agrees, opening_word}, Layout.{Layout, pool_base, total, IsLayout}, Record.{record_value, view_word, prev_of, value_word}, Step.{Leads, words_after, answer_of, word_of, Answers}}
pub use Rattle.partial_words.proofs.ChainLemmas.{value_behind_stamp, prev_before_entry}
pub use Rattle.partial_machine.specs.declared.stage.{Reply.Reply, Stage.Stage}
pub use Rattle.partial_machine.specs.declared.stage.Stage.TheVariants.{Idle, ReadBegun, UpdateBegun, ScanBegun, Finished}
pub use Rattle.partial_machine.specs.{Bounds.{most_steps, steps_left, most_of_update}, Calls.{answer_for, begun_of, refusal_of, IsServed, begin_scan, is_begun, is_at_rest, makes_steps, call_of}, Machine.{CoreState, at_stage, advance, reply_of, fresh, step_of, reply_at, step_at, scanned_values}, Possible.IsPossible, Sound.{IsSound, AreComponentIndices}}
pub use Rattle.partial_machine.proofs.Laws.{due_is_unreplied, rests_are_sound, calls_begin, calls_are_refused_at_once, stays_sound, scans_make_their_steps}
pub use Rattle.partial_core.specs.{Lawful.Lawful, Part.{Part, core_of, port_of, IsBetween, IsMachineOf, fresh_parts, IsMarkedLike, KeptAnswer, first_at, HasBegun}, Steps.{LeadsOn, added_by, AreNotesOf, IsNoteOf, IsRefusal, PublishesWithin, begun_with, kept_with}}
pub use Rattle.partial_core.proofs.Laws.{opens_lawful, calls_begin_between, lawful_ports_fit, lawful_records_are_within, steps_stay_lawful, lawful_machines_are_ready}
pub use Rattle.partial_text.specs.Replayed.{calls_in_order}
pub use Rattle.partial_text.specs.PlanText.{PlanView, IsPlan, IsCall, IsTurnEntry}
pub use Rattle.partial_replay.specs.declared.memory.Memory.{Memory}
pub use Rattle.partial_replay.specs.declared.port.{Port.Port, UnderWay.UnderWay}
pub use Rattle.partial_replay.specs.declared.run.Run.{Run}
pub use Rattle.partial_replay.specs.{CallSteps.{Makes, HasSteps, IsFinishedAtOnce, IsRefusedAtOnce, IsCallRun, AreStepsOf}, Listed.{calls_by, AreFirstOf, AreAllMade, AreFew, EndInStep, steps_by, HaveMade, steps_in}, Place.{HasLeastPlace, Shows, IsLeastFrom, IsPlaceFrom, IsNoteFrom, prefix_from, HasNoneFrom}, Replayed.{IsReplayOf, turn_lengths, OutcomeView, replayed_view}, ScanPlace.{values_after, values_now, is_other, marks_before, AreMarked, AllHave, AreWanted, AreMarksOf, HasRecord, HasRecords, IsLeft, IsLeast, ShowsValues, AreWantedComponents}, Trace.{Moment, last_behind, event_entry, moments_from, moments_by, ports_of, events_in, adds, is_won, new_of}, Turns.{BeginInTurns, turns_of, turns_by, lengths_in, so_many, to_its_end, made_in, left_behind, ports_in, idle_in, lengths_of}}
pub use Rattle.partial_replay.specs.Inner.{PortState.{AreFinished, IsCallUnderWay, PortFits, end_of_call, ends_of, notes_in, unfinished_call, IsCallGoing, HasTurned, steps_under_way, IsFinishedCall, IsDoneAtOnce, entry_at, one_step_more, IsEndedCall, CallGoesOn, Ends, StepMade, PortMade, KeepsMade, began_at, ended_call, core_behind, event_of, AreWithin, ScanHasValues, MayAnswer, IsExchangeWithin, MayStep, KeepsFit, BeginsInTurn}, RunState.{ReplayState, state_of, PortAt, PortsFit, no_ports, first_port, IsRunOf, left_over, calls_in, FreshFrom, AreFreshPorts, AreListed, ArePlans, ArePortsMade, AreStarted, AreStartedBut, unvalued, IsBetweenTurns, GivesOutcome, left_for, port_left, port_left_at, IsTurnReady, ChangesPortsOnly, IsSameOpening}, TurnState.{MakeTurns, HasTurns, StopsAtStep, StopAtSteps, IsPortDone, HasMadeTurns, BeganInTurns, lengths_so_far, HaveBegun, StayDone, StayStopped, StayStoppedBut, StayStoppedWith, GoesOnBy, own_turns, BeginsIn, StepsIn, GoesOnIn, moments_behind, TurnMade, StepsMade, TurnsMade, HasReplayed}}
