-- when two traces agree, and between which scenes they do
pub mod Agreement
-- what follows
pub mod Laws
-- short lists of events, compared by hand
pub mod Worked
