-- The tests of the slow check, for contracts of private functions: each of them computes one clause of a legal outcome. And what an index holds.
pub mod Checks
pub mod Indexed
