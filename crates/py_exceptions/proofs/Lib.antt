-- where the built-in classes stand
pub mod ClassesLemmas
-- the names of types
pub mod TypeNamesLemmas
-- what a class is taken for
pub mod RaisableLemmas
-- the objects that new exceptions add
pub mod MakingLemmas
-- what is shown with commas between, and the part of a path after its last /
mod PathLemmas
mod ReprLemmas
-- what a change of a traceback does
pub mod TracebacksLemmas
-- links, and walks along them
mod LinksLemmas
pub mod WalksLemmas
mod OrdersLemmas
-- what a change of a context does, and that contexts lead back to no exception
mod ContextsLemmas
mod AcyclicLemmas
-- the objects that come as an exception is reduced
mod ReducingLemmas
-- whether what an exception names is there
mod ReducibleLemmas
