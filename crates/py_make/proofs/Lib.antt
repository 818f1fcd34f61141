-- groups that are put one after another
mod GroupLemmas
-- what decimal digits mean in a line
mod DecimalLemmas
-- each text that is made is a script, and short
pub mod ScriptLemmas
pub mod LengthLemmas
