-- The steps of a call under way, for contracts of private functions.
pub mod Steps
pub mod Lines
pub mod Endings
