-- The names that several proofs of this crate take from elsewhere.
pub use Rattle.std.proofs.Common.{ℕ, zero, suc, ◌≡◌, ◌≢◌, ◌+◌, ◌<◌, ◌≤◌, List, [], ◌∷◌, ◌++◌, map, Contains, refl, sym, ◌∙◌, ap, subst, Some, slice_get, inl, inr, arith, ◌⊎◌, ◌||◌, false, if◌then◌else◌, None, length, Bool, true, slice_index_or, append_assoc, append-nil, length-append, slice_set, ◌-◌, replicate, take, slice_index, Option, ◌==◌, ◌%◌, ◌^◌, rules}
pub use Rattle.std.specs.{List.{AllByRecursion, range_with_len, list_any}, Prelude.{nat_lt, Result, Err, IfOk, IfErr, is_some, Ok}, Slots.{slots_items, slots_len}, Vec.{vec_capacity, vec_len}}
pub use Rattle.std.proofs.lemmas.{Bool.{cases_lt, eqb-true, false≢true, ltb-false, ltb-true, ne_eqb, or_cases, lt-ltb}, List.{length_push, get_or_append_left, get_or_push, length-map, nil_from_length, get_or_past, take_all}, Result.err_from_is_err_and}
pub use lib.{ListN.get_elem?, Seq.set-get_or}
pub use mathlib.Core.Option.{some, some-injective, some-ne-none}
pub use Rattle.partial_table.specs.{Seats.{first_port, flatten, further_ports}, Table.{TableId, State, Me, keeps, Allows, Joins, opening, Splits}}
pub use Rattle.partial_table.proofs.Seats.{around, dealt_first, dealt_none, first_dealt, made_next, of_last, others_left}
pub use Rattle.partial_model.specs.declared.call.{Call.Call, Note.Note, Refused.Refused}
pub use Rattle.partial_model.specs.declared.history.{Applied.Applied, Opening.Opening}
pub use Rattle.partial_model.specs.Notes.{LegalNotes, Noted}
pub use Rattle.partial_model.proofs.{AllLemmas.{all_append, all_at, all_before, all_after, all_front, all_back, all_join, all_unmap, all_map, all_weaker}, NotesLemmas.{AllByRecursion-get, LegalNotes-last}}
pub use Rattle.partial_words.specs.declared.step.Step.{Step}
pub use Rattle.partial_words.specs.declared.step.Step.TheVariants.{Add, Load, Store, Exchange}
pub use Rattle.partial_words.specs.{Chain.{IsLink, chain_of, OpensWith, AreOpeningWords, opening_word}, Layout.{Layout, IsLayout, total, greatest_record, pool_counter, pool_end, slot_counter}, Step.{word_of, answer_of, words_after}}
pub use Rattle.partial_machine.specs.declared.stage.Reply.{Reply}
pub use Rattle.partial_machine.specs.declared.stage.Stage.TheVariants.{Finished, ReadBegun, ScanBegun, Exchanging, UpdateBegun}
pub use Rattle.partial_machine.specs.{Behind.{refuses_pool, refuses_slots, IsOldMark, IsRefusedBy}, Calls.{is_begun, refusal_of, answer_for, begin_scan, begun_of, call_of, core_scan_refusal, core_update_refusal, IsServed, makes_steps}, Lines.{scan_asked, asking_machine}, Machine.{CoreState, advance, step_of, reply_of, fresh, scanned_values, at_stage, advance_at}}
pub use Rattle.partial_machine.proofs.{Behind.run_sizes, Laws.{due_is_unreplied, due_words_are_there, calls_are_refused_at_once, calls_claim_once, calls_begin}}
pub use Rattle.partial_core.specs.{Lawful.Lawful, Part.{Part, KeptAnswer, HasBegun, IsMachineOf, answers_of, port_of, with_seen, fresh_parts, IsMarkedLike, core_of}, Ports.RecordsAreWithin, Steps.{StepShows, FitsHistory, AreNotesOf, IsNoteOf, IsPlacedAt, IsRefusal, LeadsOn, added_by}}
pub use Rattle.partial_core.proofs.Laws.{first_steps_make_calls, further_steps_make_calls, lawful_ports_fit, lawful_records_are_within, looks_stay_lawful, opens_lawful, ports_come_between, made_calls_make_their_steps, calls_begin_between, steps_stay_lawful, lawful_machines_are_ready}
pub use Rattle.partial_lines.specs.Replies.{scan_reply, RestsLike}
pub use Rattle.partial_memory.specs.declared.closed.Closed.{Closed}
pub use Rattle.partial_memory.specs.declared.rule.About.{About}
pub use Rattle.partial_memory.specs.{Calls.{Meets, Updates, UpdatesIf, met_port, meeting_steps, Reads, Scans}, Closing.{Closes, IsPortOf, IsWholeChain, AreValues, AreChains, AreChainsFrom}, Lawfulness.{ClosesLawfully, MeetsLawfully}, Led.{BeganAs, HasMark, IsLed, IsLedToAnswer, IsLedToRefusal, IsLedWhereLate, LateRefusalsArePastEnd, LedCallsClaimOnce, RefusalsAtOnceFit, ScanIsLed, ScansLed}, Ports.{IsOf, MemoryView, PortView, new_ports, port_view, without_steps, IsResting, Knows, Answered, Goes, IsRefused, refusal, CountsSteps, IsPastEnd, RefusedLate, is_pool, is_slots}, Reopening.{extended_values, ClosedMemoriesContinue, with_zeros}, Rule.{IsShuffle, newcomers, SeatedPort, AreByOpened, SeatShows, AreSeatedOf, IsIn, IsRuleKept, IsLawfulWith, parts_of, AreOpened, having_met, looks, one_in, newcomer, IsBadgeOfOne, IsOne, makes, one_of}}
pub use Rattle.partial_memory.specs.Inner.{Endings.{ending_reply, asked_change}, Lines.{IsGoing, IsUnderWay, ComesTo, CountsOn, machine_of}, Steps.{Begins, CallMade, CallEnded, HasCounted}}
