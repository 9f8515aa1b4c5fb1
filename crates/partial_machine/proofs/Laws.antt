-- The public laws, for proofs of crates above: each is the contract of a function of src/law.rt, and nothing else is here.
pub use Rattle.partial_machine.proofs.{Behind.{answers_lead_on, due_is_unreplied}, Begins.{calls_begin, rests_are_sound, calls_are_refused_at_once}, DueWords.due_words_are_there, StepCounts.{stays_sound, makes_few_steps, reads_in_two}, ScanCounts.scans_make_their_steps, Claims.calls_claim_once, Components.{calls_load_their_components, calls_make_embedded_scans, embedded_scans_end_well}}
