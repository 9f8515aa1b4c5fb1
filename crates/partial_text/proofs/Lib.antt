mod Common
pub mod Cuts
pub mod CallCuts
pub mod Steps
pub mod Bytes
pub mod TextGiven
pub mod Values
pub mod NumberLaws
pub mod PieceLaws
pub mod FieldLaws
pub mod CallLaws
pub mod LineLaws
pub mod PlanLaws
pub mod ReaderLaws
pub mod CallNumbers
pub mod AgainLaws
pub mod Laws
