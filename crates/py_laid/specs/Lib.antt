-- code that does what a body does
pub mod Fits
-- which units operators are
pub mod Operators
-- where the code of each form stands, with its notes
pub mod Code
-- which instructions the code of a body has
pub mod Instructions
-- the names of a code
pub mod Naming
-- what holds of laid code
pub mod Laws
