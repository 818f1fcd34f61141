-- locals that are filled
mod Filling
-- what objects are now, and as they were made
mod ObjectsLemmas
-- objects of constants that come
pub mod AddedLemmas
-- constants that are loaded
mod LoadingLemmas
-- steps that can be made
mod SafeLemmas
-- units that are begun or answered
mod UnitLemmas
-- what exits are told
mod ExitLemmas
-- lines of units
mod LocationLemmas
-- objects among more
pub mod MoreLemmas
-- what rows look at
mod SeenLemmas
-- frames that run
pub mod RunningLemmas
-- what exits are told behind silent steps
mod ToldLemmas
-- inputs that are taken
pub mod HearingLemmas
