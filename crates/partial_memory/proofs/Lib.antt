mod Common
mod Shuffles
mod Views
mod Steps
mod Calls
mod Ahead
mod Resting
mod Replies
mod Straight
mod Opens
mod Looks
mod Meetings
mod Chains
mod Closes
mod AllPorts
mod Noting
mod Reopening
pub mod Laws
pub mod Led
