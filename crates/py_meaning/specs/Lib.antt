-- where its codes were written
pub mod Reported
-- what a script means
pub mod Whole
-- what is written
pub mod Text
-- how the entries of declarations come one behind the other
pub mod Entries
-- which scripts have no raw code and no report
pub mod Core
-- which drives the lines of a script name
pub mod Earlier
-- what two runs of a script have in common
pub mod Laws
-- scripts worked by hand
pub mod Worked
pub mod WorkedShow
pub mod WorkedLoop
pub mod WorkedFinally
pub mod WorkedCall
pub mod WorkedGenerator
pub mod WorkedWith
pub mod WorkedRaw
pub mod WorkedContext
pub mod WorkedReport
-- events of two runs, compared by hand
pub mod Compared
