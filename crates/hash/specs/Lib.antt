pub mod Hash
pub mod Left
pub mod Collisions
pub mod Widths
