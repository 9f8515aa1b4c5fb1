pub mod TextGiven
