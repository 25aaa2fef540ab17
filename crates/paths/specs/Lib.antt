pub mod Payloads
pub mod Ranges
pub mod Rebuilds
pub mod Parts
pub mod Climbs
