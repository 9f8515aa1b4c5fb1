-- The public laws, for proofs of crates above: each is the contract of a function of src/law.rt, and nothing else is here.
pub use Rattle.partial_epochs.proofs.{Collects.{collects_stand_together, epochs_are_histories}, Continue.{epochs_continue, reads_answer_over_epochs}, Entering.{arrivals_stay_lawful, entries_load, looks_are_true, entering_words_stay_lawful}, EveryStep.{every_step_stays_lawful, memories_open_lawful}, FreeArenas.{every_step_counts, meetings_keep_tally, openings_keep_tally}, InUse.{few_come_free, own_sites_are_in_use, owned_arenas_are_in_use, some_arena_is_free}, Last.{components_name_records, last_words_are_final}, MachineSteps.machine_steps_stay_lawful, NotesStay.notes_stay_lawful, OneHistory.{epochs_fit_one_history, public_stamps_are_unique}, Opens.opens_over, OpensAll.epochs_open_lawful, OwnerLooks.{claims_have_room, owners_look}, Present.unsealed_is_present, Publishes.publishes_stay_lawful, Puts.puts_stay_lawful, Room.{machines_are_never_refused, machines_are_never_spent}, Seals.{sealed_passes_stay_lawful, seals_stay_lawful}, SeenRecords.seen_records_stay, Sets.{clear_slots_count_as_set, sets_stay_lawful}, Sights.{arrivals_keep_notes, asides_stay_lawful, glances_stay_lawful, publishes_keep_notes, sights_stay_lawful}, Taking.{gives_stay_lawful, entering_words_are_loaded, others_are_elsewhere, owners_look_away, takes_stay_lawful}, Time.{arrivals_keep_time, asides_keep_time, entries_keep_time, loaded_entering_words_keep_time, looks_keep_time, entering_words_keep_time, openings_keep_time, publishes_keep_time, puts_keep_time, steps_keep_sites}}
