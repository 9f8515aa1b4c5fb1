-- What the contracts of private functions cite.
pub mod Openings
pub mod Memories
