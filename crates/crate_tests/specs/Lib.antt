-- the objects of stores that are worked by hand
pub mod Exit
pub mod Reported
pub mod Said
pub mod Stop
pub mod Linked
