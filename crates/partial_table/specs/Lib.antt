pub mod Counting
pub mod Seats
pub mod Table
pub mod Views
