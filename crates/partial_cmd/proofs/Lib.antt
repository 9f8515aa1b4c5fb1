mod Common
pub mod Asked
pub mod Nexts
pub mod OneAnswer
pub mod Reported
