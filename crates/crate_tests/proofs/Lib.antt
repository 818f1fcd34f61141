-- what holds of the objects of those stores
pub mod ExitLemmas
pub mod StopLemmas
pub mod LinkedLemmas
