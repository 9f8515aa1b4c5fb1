mod Common
pub mod ListLemmas
pub mod Frames
pub mod HoldingLemmas
pub mod Blocks
pub mod Claimed
pub mod Rebuild
pub mod EffectLemmas
pub mod NoNewEntry
pub mod LoadLaw
pub mod MarkLaws
pub mod BlockLaws
pub mod SpareLaws
pub mod SlotLaws
pub mod WinLaw
pub mod OpeningLaw
