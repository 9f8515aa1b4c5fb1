mod Common
pub mod AsBox
pub mod HandleSteps
pub mod OpenedOpening
pub mod Opened
