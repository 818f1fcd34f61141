-- lists, and events behind those of a run
mod Lists
mod Blocks
-- generators that are found
mod Found
-- the objects of all groups, and the lines of their codes
mod Objects
mod Located
-- the groups: what they tell, and that it may come
mod Groups
mod Steps
mod Telling
mod Working
mod Raising
mod Returning
mod Counting
mod Links
mod Tracebacks
-- a run between groups, and one group more
mod Asked
mod Ended
mod Sorts
-- all groups, the text that has them, and its script
mod Reaching
mod Frames
mod Spelled
mod Scripts
pub mod Runs
