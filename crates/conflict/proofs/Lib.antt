pub mod Ways
pub mod Accepted
pub mod Ending
pub mod Exact
pub mod Holding
pub mod Written
pub mod Positions
pub mod Paired
