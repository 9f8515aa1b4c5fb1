mod Common
pub mod AllLemmas
pub mod ListLemmas
pub mod CheckLaws
pub mod Decisions
pub mod HistoryLemmas
pub mod IndexLaws
pub mod StampsStay
pub mod NotesLemmas
pub mod PortLaws
pub mod StampLaws
pub mod WalkLaws
pub mod WorkedRows
pub mod Entries
pub mod Values
