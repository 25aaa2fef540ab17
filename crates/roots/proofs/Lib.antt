pub mod Pass
pub mod Passing
pub mod Ranges
