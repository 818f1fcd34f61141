-- bodies as plain trees, and those of the program as such
pub mod Tree
pub mod ExprViews
pub mod Views
-- the names of a body, and its locals
pub mod Binding
-- what operators do with their values
pub mod Operators
-- what a tree may tell
pub mod Scene
pub mod Outcome
pub mod Trace
-- what holds of every trace
pub mod Laws
-- what tries with a finally and clauses come to
pub mod Endings
-- small trees, worked by hand
pub mod Worked
pub mod WorkedHandlers
pub mod WorkedGenerators
pub mod WorkedManagers
-- how suites are put together
pub mod Suites
-- which bodies can be compiled
pub mod Compilable
