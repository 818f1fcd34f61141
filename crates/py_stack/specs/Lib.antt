-- stacks as lists, and their entries counted from the bottom
pub mod Stacks
-- the slots of handled exceptions
pub mod Slots
