-- what is left of a body behind some of its events
pub mod Cells
pub mod Place
-- how it goes on
pub mod Silent
pub mod Stepping
-- what may be told from there
pub mod Telling
pub mod Standing
-- the events of a body, checked
pub mod Checking
