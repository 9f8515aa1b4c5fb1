pub mod Joins
pub mod Sets
pub mod Scans
