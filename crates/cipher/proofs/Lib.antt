pub mod Littles
pub mod Pieces
