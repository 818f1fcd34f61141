-- what the objects of a run begin with
pub mod First
-- what an event makes of a run and of its generators
pub mod Run
pub mod Generators
-- what answers raise, and which links come of that
pub mod Raises
pub mod Links
pub mod Exits
pub mod Reports
-- what questions come to
pub mod Calls
-- what comes of what an exception is made of
pub mod Normalized
-- which event may come next, and what a run is
pub mod Coming
-- what drives ask, and pasts with more events
pub mod Drives
pub mod Past
-- what holds of all runs
pub mod Laws
-- journals worked by hand
pub mod Worked
pub mod WorkedNext
pub mod WorkedClose
pub mod WorkedStop
pub mod WorkedSelf
pub mod WorkedIgnored
pub mod WorkedThrow
pub mod WorkedHandled
pub mod WorkedExit
