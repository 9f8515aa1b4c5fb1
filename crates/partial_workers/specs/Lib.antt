pub mod Answered
pub mod Work
