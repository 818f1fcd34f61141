-- the states, and what calls come to in each
pub mod Modes
-- the state that the code keeps
pub mod Stages
-- what a generator that was left answers
pub mod Leaving
-- the texts of refusals
pub mod Refusals
-- one as its calls leave it, and what it is shown as
pub mod Coros
-- what follows
pub mod Laws
