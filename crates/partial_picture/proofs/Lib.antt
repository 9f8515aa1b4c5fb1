mod Common
pub mod Labels
pub mod Dealt
pub mod Made
pub mod Seen
pub mod Tiers
