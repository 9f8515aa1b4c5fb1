mod Common
mod Marks
pub mod Extended
pub mod Walk
pub mod Answered
pub mod Sizes
pub mod Indices
pub mod Distinct
pub mod Making
pub mod Knowledge
pub mod Known
pub mod Orders
pub mod Active
pub mod Moments
pub mod Lists
pub mod Named
pub mod Finds
