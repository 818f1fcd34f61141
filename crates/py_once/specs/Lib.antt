-- what follows
pub mod Laws
