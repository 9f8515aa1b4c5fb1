-- The public laws, for proofs of crates above: each is the contract of a function of src/law.rt, and nothing else is here.
pub use Rattle.partial_memory.proofs.{AllPorts.{opened_ports_are_all, closed_with_all_ports}, Noting.calls_note_once, Led.{late_refusals_are_past_end, led_calls_claim_once, refusals_at_once_fit}, Reopening.closed_memories_continue}
