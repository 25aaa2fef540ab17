pub mod Padded
pub mod Chains
pub mod Apart
pub mod Widths
pub mod Runs
pub mod Values
