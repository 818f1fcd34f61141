-- the objects of a machine by their names
pub mod Names
-- its journals as core runs
mod Machine
-- where journals fail, and fronts of runs
mod Failing
pub mod Fronts
-- journals worked by hand
mod OfScripts
mod FirstNames
mod WorkedLemmas
mod WorkedEntries
mod WorkedFailing
mod OneCall
mod LiteralsLemmas
mod NamesLemmas
