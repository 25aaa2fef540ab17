pub mod Inputs
pub mod Apart
pub mod Pairs
pub mod Conflicts
pub mod Two
pub mod Laws
