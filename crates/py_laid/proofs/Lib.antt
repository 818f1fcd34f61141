-- what a unit and its prefixes are decoded as
mod UnitLemmas
-- ---- runs of laid code
-- the locals of a frame as those of a tree
mod Env
-- runs, read from the front
mod Reaching
-- what a unit does that stands at a place
mod Decoding
-- where code stands, in order
mod Places
-- what follows a statement
mod Lands
-- units that ask
mod Asking
-- loads and tests
mod Loads
-- units that bind, jump, raise and leave blocks
mod Units
-- operations and expressions
mod Operating
-- statements without blocks
mod Plain
-- loops
mod Looping
-- tries with a finally
mod Trying
-- managers
mod Managing
-- tries with clauses
mod Clauses
-- every form
mod Running
-- whole runs
mod Tracing
-- ---- the typing rules
mod NoteLemmas
mod TypingUnits
mod TypingLoads
mod TypingBlocks
mod TypingForms
mod TypingCode
-- ---- code that fits its tree
pub mod BindingLemmas
pub mod NamingLemmas
pub mod Fitting
-- ---- which instructions there are
pub mod Uses
-- ---- what questions name as handled
mod Slot
