pub mod StacksLemmas
-- the topmost exception of slots
pub mod SlotsLemmas
