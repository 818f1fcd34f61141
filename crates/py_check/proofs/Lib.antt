pub mod BreakingLemmas
pub mod OperandLemmas
mod KindRunsLemmas
pub mod NoteLemmas
mod InnermostLemmas
mod FittingLemmas
mod TakingLemmas
mod CheckLemmas
pub mod EarlierLemmas
pub mod WorkedLemmas
