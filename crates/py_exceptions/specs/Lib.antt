-- the built-in classes among the objects, and where they stand
pub mod BuiltIn
pub mod Classes
-- what exceptions keep of the arguments of calls
pub mod Keeping
-- which exceptions are of which classes, and which classes are of the built-in kinds
pub mod Deriving
pub mod Kinds
-- the names of types
pub mod TypeNames
-- new exceptions
pub mod Making
-- the arguments of exceptions
pub mod Arguments
-- what represents an object, what an exception says, and what functions that write these promise each other
pub mod Repr
pub mod Said
pub mod Texts
pub mod Writing
-- the tracebacks of exceptions
pub mod Tracebacks
-- links, walks along them, and what each walk meets
pub mod Walks
pub mod Orders
pub mod Links
-- the contexts of exceptions, and the entries of tracebacks
pub mod Contexts
pub mod Nexts
-- what may be raised, and what comes of it
pub mod Raisable
pub mod Instantiating
-- what comes of what is thrown
pub mod Normalizing
-- what is said where memory may run out
pub mod Memory
-- what an exception can be made again from
pub mod Reducing
-- what the functions of the crate need of an exception
pub mod Parts
