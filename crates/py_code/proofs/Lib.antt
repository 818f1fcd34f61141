pub mod LiteralLemmas
mod ReplacingLemmas
pub mod NamesLemmas
pub mod TextLemmas
