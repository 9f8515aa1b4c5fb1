pub mod Layout
pub mod SizeFault
pub mod Step
pub mod Record
pub mod Chain
pub mod Announcement
pub mod VacatedList
pub mod Kept
