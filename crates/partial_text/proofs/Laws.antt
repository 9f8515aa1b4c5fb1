-- The public laws, for proofs of crates above: each is the contract of a function of src/law.rt, and nothing else is here.
pub use Rattle.partial_text.proofs.{PlanLaws.judged_ok, AgainLaws.judged_again, CallNumbers.plans_have_few_calls}
