-- The public laws, for proofs of crates above: each is the contract of a function of src/law.rt, and nothing else is here.
pub use Rattle.partial_core.proofs.{Opened.opens_lawful, AllSteps.steps_stay_lawful, Ports.{lawful_ports_fit, lawful_records_are_within, looks_stay_lawful, lawful_calls_are_bounded}, WholeCalls.{first_steps_make_calls, further_steps_make_calls, made_calls_make_their_steps, calls_begin_between, ports_come_between}, Machines.lawful_machines_are_ready}
