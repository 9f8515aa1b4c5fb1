pub mod Pipeline
pub mod Stages
