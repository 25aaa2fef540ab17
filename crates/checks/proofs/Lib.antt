pub mod Single
pub mod Accepted
pub mod Passed
pub mod Passing
pub mod Roots
