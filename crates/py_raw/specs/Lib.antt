-- the codes before one
pub mod Earlier
-- what the rules read of a raw code, and whether it keeps them
pub mod RawSheet
-- the code that it is
pub mod Assembled
-- what follows from the rules
pub mod Laws
