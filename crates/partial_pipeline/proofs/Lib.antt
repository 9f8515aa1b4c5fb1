mod Common
pub mod Pipes
pub mod Reports
pub mod Rooms
pub mod Stages
pub mod Watching
