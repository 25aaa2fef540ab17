pub mod Field
pub mod Aes
pub mod Columns
pub mod Expansion
pub mod Fours
