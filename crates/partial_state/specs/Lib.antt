pub mod Views
pub mod Holdings
pub mod LawfulWords
pub mod Loads
pub mod Effects
