mod Common
pub mod RecordLemmas
pub mod LayoutLemmas
pub mod BlockLemmas
pub mod ChainLemmas
pub mod PlainLemmas
pub mod TraceLemmas
