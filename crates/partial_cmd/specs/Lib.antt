pub mod Execution
pub mod Next
pub mod Reports
