-- The public laws, for proofs of crates above: each is the contract of a function of src/law.rt, and nothing else is here.
pub use Rattle.partial_long_lived.proofs.AllPorts.{closed_with_all_ports, opened_ports_are_all}
