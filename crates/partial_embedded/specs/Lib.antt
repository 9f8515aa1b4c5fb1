pub mod Embedded
pub mod Runs
