-- what the objects of a run begin with
pub mod FirstLemmas
-- the past behind some events
pub mod PastLemmas
-- the links that come of events
pub mod LinksLemmas
pub mod MoreLinks
pub mod TracebackLemmas
pub mod NoLinks
pub mod AddedLinks
-- its reports
pub mod ReportsLemmas
pub mod GrownReports
-- which numbers events name
pub mod NamedLemmas
-- a run as objects and drives grow, and as an event comes
pub mod RunLemmas
-- lists of generators, as events change them
pub mod GeneratorsLemmas
-- what questions come to
pub mod CoursesLemmas
-- arguments that bind, and runs over more signatures
pub mod BoundLemmas
-- own events and the state as an event comes
pub mod OwnLemmas
-- numbers of activations, and where what they told is cut
pub mod CutLemmas
-- activations that are left where they were entered
pub mod NestingLemmas
-- journals worked by hand
mod Journals
mod WorkedLemmas
mod WorkedExitLemmas
mod WorkedExitLinks
