-- codes as tables
pub mod Codes
-- the objects that are there at first
pub mod FirstObjects
-- what frames are told
pub mod Inputs
-- frames that are driven
pub mod Drives
