-- numbers of objects
pub mod Refs
-- the built-in exception classes by their names, and their places
pub mod ErrorKinds
pub mod ErrorPlaces
-- what objects are, and which are new
pub mod Objects
-- calls without keyword arguments
pub mod Positional
-- what a call asks
pub mod Callees
-- None, False and True among objects
pub mod Singletons
-- which classes a class derives from
pub mod Ancestry
-- the frames among objects
pub mod FrameEntries
-- objects that come behind others
pub mod Growth
-- an activation's own events, and the words in which bodies tell them
pub mod Own
pub mod Telling
-- what holds of their numbers
pub mod OwnLaws
-- scopes, attributes and the pairs of dicts
pub mod Scopes
pub mod Attrs
pub mod AttrEntries
pub mod Pairs
-- what can be read off payloads, which keys are one, what changes do to payloads, and which fit
pub mod Values
pub mod Keys
pub mod Changes
pub mod Edits
-- changes in the order of their events
pub mod Due
-- how a store keeps what its objects were made as
pub mod Originals
