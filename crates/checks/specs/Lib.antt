pub mod Rebuilding
pub mod Checks
pub mod Laws
