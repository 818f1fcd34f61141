-- inputs that are expected
mod InputLemmas
-- frames that are driven
mod DriveLemmas
-- tables of codes
mod TableLemmas
