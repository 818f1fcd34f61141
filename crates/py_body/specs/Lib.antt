-- how many units the code of each form takes
pub mod Sizes
-- what the functions of the compiler promise each other
pub mod Emitting
-- the same of emitters, scopes and lists as the program has them
pub mod Puts
-- what holds of each of the codes of a body
pub mod Codes
