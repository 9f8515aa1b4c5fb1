-- The state of a replay under way, for contracts of private functions. No public contract cites it.
pub mod PortState
pub mod RunState
pub mod TurnState
