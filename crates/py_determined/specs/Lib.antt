-- when objects are alike
pub mod Alike
-- when questions, replies and courses are the same
pub mod Sameness
-- when events are
pub mod Events
-- which objects two runs relate
pub mod Related
-- which tracebacks exits are told, by what was raised
pub mod Raises
-- what follows
pub mod Laws
