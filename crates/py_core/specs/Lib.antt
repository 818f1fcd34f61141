-- which scripts are of the core
pub mod Forms
-- what their runs are, and where a journal is none
pub mod Runs
-- what follows
pub mod Laws
-- journals worked by hand
pub mod Claims
pub mod Worked
pub mod WorkedLiterals
pub mod WorkedNames
