-- the arguments that prefixes build, and the units behind them
pub mod Arguments
pub mod Units
-- what lies lowest on a stack
pub mod Bottom
-- operators, and their numbers
pub mod Operators
pub mod Numbers
-- whole numbers, and the constants of a code
pub mod Range
pub mod Literals
-- the functions that the machine itself carries out, by their names
pub mod BuiltinNames
-- the flags of a code
pub mod Flags
-- a table of names as a list
pub mod Names
-- the text of a code
pub mod CodeText
-- codes in which parts are replaced
pub mod Replacing
-- codes with the names that they use
pub mod Codes
-- texts that grow
pub mod Texts
