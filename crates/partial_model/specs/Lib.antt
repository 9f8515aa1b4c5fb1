pub mod Inner
pub mod History
pub mod Stamps
pub mod Notes
pub mod Refusals
pub mod Outcome
pub mod Entries
pub mod Checked
