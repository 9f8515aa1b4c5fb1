mod Common
pub mod Keeps
mod Loaded
mod Past
pub mod RunLaws
pub mod Traces
pub mod Ends
