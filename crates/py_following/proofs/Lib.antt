-- what is known behind events, by these alone
pub mod Known
-- what the drives ask
pub mod Asking
-- what may come
pub mod Coming
-- where activations stand
pub mod Placing
-- so they are a front of a run
pub mod Following
-- what may come where drives ask alike
pub mod Plans
-- the objects of a drive's arguments
pub mod Chosen
-- what a drive asks
pub mod Questions
-- what is declared under the names of functions
pub mod Functions
-- what a drive asks by the event behind it
pub mod Opening
-- what is thrown
pub mod Throwing
-- what a run keeps
pub mod Runs
-- so an event behind a drive may come
pub mod Opened
-- what activations hear
pub mod Hearing
-- what activations tell next
pub mod Told
-- each event of a run may come
pub mod Complete
