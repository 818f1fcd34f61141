-- how faults of sources and sinks are counted
pub mod Faults
pub mod Counting
-- what contracts see of a source and of a sink
pub mod Seen
-- what a read tells of its source
pub mod Ends
-- sources and sinks as contracts see them
pub mod Sources
pub mod Sinks
-- what is read to the end of a source, and what a write has written
pub mod Reading
pub mod Transfer
