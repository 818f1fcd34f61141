-- flags of words
pub mod FlagLemmas
-- lists that go on
mod ListLemmas
-- names of locals
mod LocalLemmas
-- what is read of a constant
mod ConstantLemmas
-- what the rules read of constants
mod ReadingLemmas
-- constants and their literals
pub mod LiteralLemmas
-- which units run
pub mod RunningLemmas
-- what a code is that is assembled
pub mod AssembledLemmas
-- the rules, of raw codes and of what is assembled
pub mod RuleLemmas
