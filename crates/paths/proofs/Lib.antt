pub mod Evenly
pub mod Climbs
pub mod Ranged
pub mod Nodes
pub mod Readings
pub mod Writing
