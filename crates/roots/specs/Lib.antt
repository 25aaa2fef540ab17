pub mod Roots
pub mod Rows
