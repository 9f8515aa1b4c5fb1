-- The public laws, for proofs of crates above: each is the contract of a function of src/law.rt, and nothing else is here.
pub use Rattle.partial_replay.proofs.{Alone.one_port_is_alone, OneOutcome.plans_have_one_outcome, ScanSteps.answered_scans_make_their_steps}
