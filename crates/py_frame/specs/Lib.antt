-- frames as callers see them
pub mod Frames
-- what a frame hears and tells by a step
pub mod Steps
-- what holds of a frame between steps
pub mod Running
-- what a frame needs of the objects, and what it adds
pub mod Added
-- what a unit did, as its row says it
pub mod UnitSteps
-- what units do, by their arguments
pub mod UnitRows
-- what is said of frames whose units run
pub mod Cores
-- which traceback an exit is told
pub mod Exits
