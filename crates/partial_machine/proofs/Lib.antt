mod Common
pub mod Pairs
pub mod Parts
pub mod Sound
pub mod StepCounts
pub mod ScanCounts
pub mod Submachines
pub mod Begins
pub mod DueWords
pub mod Behind
pub mod Claims
pub mod Components
pub mod Laws
