pub mod Frames
pub mod Records
pub mod Laws
pub mod Kinds
pub mod Views
