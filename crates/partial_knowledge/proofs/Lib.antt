mod Common
pub mod Joined
pub mod Sets
pub mod Chains
pub mod Scans
