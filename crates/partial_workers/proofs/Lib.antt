mod Common
pub mod Hires
pub mod Made
pub mod Pairs
pub mod Reported
