-- what a session is, and what its drives come to
pub mod Held
pub mod Session
pub mod Driving
-- what the words ask for
pub mod Words
-- what comes of making a script from a seed
pub mod Making
-- which journals are handed back, which raw codes are refused, and when each answer of the top call comes
pub mod Earlier
pub mod Compiled
pub mod Broken
pub mod Laws
pub mod Answered
pub mod Causes
-- what answers were worked out to say, and a journal that codes don't run
pub mod Worked
pub mod WorkedUnits
-- what functions inside the crate promise each other
pub mod Steps
pub mod Loaded
pub mod Noting
pub mod Writing
