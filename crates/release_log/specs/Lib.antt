pub mod Buffers
pub mod Logs
pub mod States
pub mod Ways
