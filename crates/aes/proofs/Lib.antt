pub mod Table
pub mod Rule
pub mod Lookups
pub mod Rounds
