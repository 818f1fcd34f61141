mod Trees
pub mod Exprs
pub mod Carry
mod WorkedLemmas
mod WorkedHandlerLemmas
mod WorkedGeneratorLemmas
mod WorkedManagerLemmas
pub mod Reaching
mod EndingLemmas
mod ManagerLemmas
