-- what a script gives the compiler and the machine
pub mod Objects
-- what a machine's run is in the script's own words
pub mod Made
pub mod Traced
pub mod Declarations
pub mod Adding
pub mod RawCodes
pub mod Broken
pub mod Coding
pub mod Driven
pub mod Placed
pub mod Asking
pub mod Loaded
pub mod Sessions
pub mod Ran
-- what was read
pub mod Reading
-- what a run answers
pub mod Answering
-- which statuses come
pub mod Statuses
pub mod Settled
-- two whole runs have one summary
pub mod Summarized
-- which unit a question names
mod WorkedUnitLemmas
-- what is written
mod NoteLemmas
mod TextLemmas
