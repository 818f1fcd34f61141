-- how bytes are cut into lines
mod Cuts
-- what tables of names have
pub mod Tables
-- the program's reader by the definitions'
mod Computing
mod Stacks
mod Clauses
-- the reader against the grammar
pub mod LineReads
mod Runs
mod RawLines
mod WholeCodes
mod Whole
mod SoundCodes
mod Sound
mod Been
mod BegunCodes
mod Begun
-- what every script keeps
mod Tests
mod KeepsCodes
mod Low
mod Short
pub mod Keeps
-- the text of a script
pub mod Texts
-- which verdict lines come to
mod Walks
pub mod Verdicts
mod WorkedLemmas
mod WorkedRawLemmas
